use Rattle.std.proofs.Common.{rules, ◌<◌, length}
use Rattle.std.proofs.lemmas.List.Elements.{All-more}
use Rattle.hsr_stimuli.specs.Capture.{LetterFits, interface_of}
use Rattle.hsr_stimuli.proofs.Growing.{text_grown}
use Rattle.hsr_stimuli.proofs.capturing.put_interfaces.Goals as goal

pub loop-letter-preserved : goal.loop-letter-preserved
loop-letter-preserved c =
    let here : c.loop-letter.letter-index < length c.args.letters.now = search rules in
    record {
      bytes = text_grown interface_of c.args.letters.now c.loop-letter.letter-index _ c.args.text.now.items _ _ here c.loop-letter.invariant.bytes c.in_ok-put_interface.ensures.bytes;
      fits = All-more LetterFits c.args.letters.now c.loop-letter.letter-index _ here c.loop-letter.invariant.fits c.in_ok-put_interface.ensures.fits;
    }
