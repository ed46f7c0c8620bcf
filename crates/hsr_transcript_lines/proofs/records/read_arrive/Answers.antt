use Rattle.std.proofs.Common.{◌≡◌, ◌∙◌, ◌∷◌, [], Some, true, option_map, rules, sym}
use Rattle.std.proofs.lemmas.Bool.{and_parts}
use Rattle.hsr_node.specs.Words.{letter}
use Rattle.hsr_text.specs.Words.{hex_octets_of, word_at}
use Rattle.hsr_transcript_lines.specs.Exact.{is_upper}
use Rattle.hsr_transcript_lines.specs.Parsed.{read_probe}
use Rattle.hsr_transcript_lines.proofs.Exact.{arrive_sure}
use Rattle.hsr_transcript_lines.proofs.records.read_arrive.Goals as goal

pub returns-clause-sure : goal.returns-clause-sure
returns-clause-sure c = λ sure.
    let first : Some (c.in_ok-name.name.now, option_map (λ s. s.now) c.in_ok-name.rest) ≡ word_at (option_map (λ s. s.now) c.args.rest) = search rules in
    let second : Some (c.in_ok-probe.probe.now, option_map (λ s. s.now) c.in_ok-probe.rest) ≡ word_at (option_map (λ s. s.now) c.in_ok-name.rest) = search rules in
    let third : Some (c.in_ok-digits.digits.now, option_map (λ s. s.now) c.in_ok-digits.rest) ≡ word_at (option_map (λ s. s.now) c.in_ok-probe.rest) = search rules in
    let probe : read_probe c.in_ok-probe.probe.now ≡ Some c.in_ok-ok_or.field-0 = search rules in
    let octets : hex_octets_of c.in_ok-digits.digits.now ≡ Some c.new-octets.result = search rules in
    let parts = and_parts c.eq.result c.is_upper.result sure in
    let upper : is_upper c.in_ok-digits.digits.now ≡ true = sym c.is_upper.ensures ∙ parts.1 in
    let alone : c.in_ok-name.name.now ≡ letter c.args.place.now c.in_ok-port.port ∷ [] = let same = parts.0 in search rules in
    arrive_sure c.args.place.now _ _ _ _ _ _ _ c.in_ok-port.port c.in_ok-ok_or.field-0 c.new-octets.result first second third alone probe octets upper
