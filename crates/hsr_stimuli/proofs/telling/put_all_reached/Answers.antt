use Rattle.std.proofs.Common.{rules, ◌<◌, length}
use Rattle.hsr_stimuli.specs.Telling.{reached_text}
use Rattle.hsr_stimuli.proofs.Growing.{text_grown}
use Rattle.hsr_stimuli.proofs.telling.put_all_reached.Goals as goal

pub loop-cause-preserved : goal.loop-cause-preserved
loop-cause-preserved c =
    let here : c.loop-cause.cause-index < length c.args.causes.now = search rules in
    text_grown (reached_text c.args.list.now) c.args.causes.now c.loop-cause.cause-index _ c.args.text.now.items _ _ here c.loop-cause.invariant c.in_ok-put_reached.ensures
