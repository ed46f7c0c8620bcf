use Rattle.std.proofs.Common.{◌≡◌, ◌++◌, ◌∙◌, [], map, drop, sym, ap, append_assoc}
use Rattle.std.proofs.lemmas.List.{append-nil, drop_all}
use Rattle.hsr_transcript_lines.proofs.Grown.{behind, spaced_behind}
use Rattle.hsr_transcript_lines.proofs.places.put_station.Goals as goal
use Rattle.hsr_text.specs.Words.{mac_text}

pub returns-clause-written : goal.returns-clause-written
returns-clause-written c =
    let done : drop c.loop-mac.mac-index c.args.macs.now ≡ [] = drop_all c.loop-mac.mac-index c.args.macs.now c.loop-mac-test.false in
    let left : c.loop-mac.text.items ≡ c.extend_from_slice.new.self.items ++ behind (map mac_text c.args.macs.now)
    = sym (append-nil c.loop-mac.text.items) ∙ sym (ap (λ l. c.loop-mac.text.items ++ behind (map mac_text l)) done) ∙ c.loop-mac.invariant.written in
    let old : c.extend_from_slice.new.self.items ≡ c.args.text.now.items ++ c.args.word.now = c.in_ok-extend_from_slice.ensures.items in
    left ∙ ap (λ l. l ++ behind (map mac_text c.args.macs.now)) old
    ∙ append_assoc c.args.text.now.items c.args.word.now (behind (map mac_text c.args.macs.now))
    ∙ sym (ap (λ l. c.args.text.now.items ++ l) (spaced_behind c.args.word.now (map mac_text c.args.macs.now)))
