use Rattle.std.proofs.Common.{◌≡◌, Some, None, true, option_map, rules, sym, ◌∙◌}
use Rattle.std.proofs.lemmas.Bool.{and_parts}
use Rattle.hsr_link.specs.Words.{dir_of}
use Rattle.hsr_text.specs.Words.{hex_octets_of, word_at}
use Rattle.hsr_transcript_lines.specs.Exact.{is_upper}
use Rattle.hsr_transcript_lines.specs.Parsed.{read_fate, read_probe}
use Rattle.hsr_transcript_lines.proofs.Exact.{row_sure}
use Rattle.hsr_transcript_lines.proofs.rows.read_row.Goals as goal

pub returns-clause-sure : goal.returns-clause-sure
returns-clause-sure c = λ sure.
    let first : Some (c.in_ok-dir.dir.now, option_map (λ s. s.now) c.in_ok-dir.rest) ≡ word_at (Some c.args.line.now) = search rules in
    let second : Some (c.in_ok-probe.probe.now, option_map (λ s. s.now) c.in_ok-probe.rest) ≡ word_at (option_map (λ s. s.now) c.in_ok-dir.rest) = search rules in
    let third : Some (c.in_ok-digits.digits.now, option_map (λ s. s.now) c.in_ok-digits.rest) ≡ word_at (option_map (λ s. s.now) c.in_ok-probe.rest) = search rules in
    let fourth : Some (c.in_ok-fate.fate.now, option_map (λ s. s.now) c.in_ok-fate.rest) ≡ word_at (option_map (λ s. s.now) c.in_ok-digits.rest) = search rules in
    let dir : dir_of c.in_ok-dir.dir.now ≡ Some c.in_ok-dir-2.dir = search rules in
    let probe : read_probe c.in_ok-probe.probe.now ≡ Some c.in_ok-ok_or.field-0 = search rules in
    let octets : hex_octets_of c.in_ok-digits.digits.now ≡ Some c.new-octets.result = search rules in
    let fate : read_fate c.in_ok-fate.fate.now ≡ Some c.in_ok-fate-2.fate = search rules in
    let parts = and_parts c.is_upper.result c.is_none.result sure in
    let upper : is_upper c.in_ok-digits.digits.now ≡ true = sym c.is_upper.ensures ∙ parts.0 in
    let none : option_map (λ s. s.now) c.in_ok-fate.rest ≡ None = let ends = parts.1 in search rules in
    row_sure c.args.line.now _ _ _ _ _ _ _ _ c.in_ok-dir-2.dir c.in_ok-ok_or.field-0 c.new-octets.result c.in_ok-fate-2.fate first second third fourth dir probe octets fate upper none
