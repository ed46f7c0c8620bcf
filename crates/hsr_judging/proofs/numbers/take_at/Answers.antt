use Rattle.std.proofs.Common.{◌≤◌, ◌∙◌, List, length, ap, arith, sym}
use Rattle.std.specs.Prelude.{Option, unwrap_or}
use Rattle.std.proofs.lemmas.Option.{slice_get_past}
use Rattle.hsr_playback.specs.declared.taken.Jump.{Jump}
use Rattle.hsr_judging.specs.Numbers.{jumps_in, no_jump}
use Rattle.hsr_judging.proofs.Taking.{set_past}
use Rattle.hsr_judging.proofs.numbers.take_at.Goals as goal

pub returns-else-cause-left : goal.returns-else-cause-left
returns-else-cause-left c =
    let left : List Jump = c.args.left.now in
    let past : length left ≤ c.args.cause = omega arith in
    ap (λ (jump : Jump). (jump, left)) (c.no_jump-else-cause-left.ensures ∙ sym (ap (λ (jump : Option Jump). unwrap_or jump no_jump) (slice_get_past left c.args.cause past)))
    ∙ ap (λ (jumps : List Jump). (jumps_in left c.args.cause, jumps)) (sym (set_past left c.args.cause no_jump past))
