use Rattle.std.proofs.Common.{rules, ◌<◌, List, length, subst}
use Rattle.std.proofs.lemmas.List.Elements.{All-more}
use Rattle.hsr_stimuli.specs.Capture.{StimulusFits, packet_of}
use Rattle.hsr_stimuli.specs.declared.scene.Stimulus.{Stimulus}
use Rattle.hsr_stimuli.proofs.Growing.{text_grown_by}
use Rattle.hsr_stimuli.proofs.capturing.put_stimuli.Goals as goal

pub loop-stimulus-preserved : goal.loop-stimulus-preserved
loop-stimulus-preserved c =
    let list : List Stimulus = c.args.list.now in
    let s : Stimulus = c.stimulus-item.result in
    let here : c.loop-stimulus.stimulus-index < length list = search rules in
    let fits : StimulusFits s = c.in_ok-put_stimulus.ensures.fits in
    record {
      bytes = text_grown_by packet_of list c.loop-stimulus.stimulus-index s s c.args.text.now.items _ _ here c.stimulus-item.is c.loop-stimulus.invariant.bytes c.in_ok-put_stimulus.ensures.bytes;
      fits = All-more StimulusFits list c.loop-stimulus.stimulus-index s here c.loop-stimulus.invariant.fits (subst StimulusFits c.stimulus-item.is fits);
    }
