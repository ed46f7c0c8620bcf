use Rattle.std.proofs.Common.{◌≡◌, ◌∙◌, Some, option_map, rules, sym}
use Rattle.std.proofs.lemmas.Bool.{and_parts}
use Rattle.hsr_frame.specs.Address.{address_text, upper_text}
use Rattle.hsr_text.specs.Words.{hex_octets_of, hex_pair_of, word_at}
use Rattle.hsr_transcript_lines.specs.Parsed.{below, read_vlan}
use Rattle.hsr_transcript_lines.proofs.Exact.{ok_told, send_sure}
use Rattle.hsr_transcript_lines.proofs.records.read_send.Goals as goal

pub returns-clause-sure : goal.returns-clause-sure
returns-clause-sure c = λ sure place.
    let first : Some (c.in_ok-from.from.now, option_map (λ s. s.now) c.in_ok-from.rest) ≡ word_at (option_map (λ s. s.now) c.args.rest) = search rules in
    let second : Some (c.in_ok-address.address.now, option_map (λ s. s.now) c.in_ok-address.rest) ≡ word_at (option_map (λ s. s.now) c.in_ok-from.rest) = search rules in
    let third : Some (c.in_ok-control.control.now, option_map (λ s. s.now) c.in_ok-control.rest) ≡ word_at (option_map (λ s. s.now) c.in_ok-address.rest) = search rules in
    let fourth : Some (c.in_ok-pair.pair.now, option_map (λ s. s.now) c.in_ok-pair.rest) ≡ word_at (option_map (λ s. s.now) c.in_ok-control.rest) = search rules in
    let fifth : Some (c.in_ok-digits.digits.now, option_map (λ s. s.now) c.in_ok-digits.rest) ≡ word_at (option_map (λ s. s.now) c.in_ok-pair.rest) = search rules in
    let from : below 256 c.in_ok-from.from.now ≡ Some c.in_ok-from-2.from = search rules in
    let dst : upper_text c.in_ok-address.address.now ≡ address_text c.in_ok-dst.dst =
    ok_told (λ m. upper_text c.in_ok-address.address.now ≡ address_text m) c.from_ascii.result c.in_ok-dst.dst (search rules) c.from_ascii.ensures.found in
    let vlan : read_vlan c.in_ok-control.control.now ≡ Some c.in_ok-vlan.vlan = search rules in
    let ethertype : hex_pair_of c.in_ok-pair.pair.now ≡ Some c.in_ok-ethertype.ethertype = search rules in
    let payload : hex_octets_of c.in_ok-digits.digits.now ≡ Some c.new-payload.result = search rules in
    let last = and_parts _ _ sure in
    let third_upper = and_parts _ _ last.0 in
    let others = and_parts _ _ third_upper.0 in
    send_sure place _ _ _ _ _ _ _ _ _ _ _ c.in_ok-from-2.from c.in_ok-dst.dst c.in_ok-vlan.vlan c.in_ok-ethertype.ethertype c.new-payload.result first second third fourth fifth from dst vlan ethertype payload
    (sym c.is_upper.ensures ∙ others.0) (sym c.is_upper-2.ensures ∙ others.1) (sym c.is_upper-3.ensures ∙ third_upper.1) (sym c.is_upper-4.ensures ∙ last.1)
