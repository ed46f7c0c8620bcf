use Rattle.std.proofs.Common.{ℕ, List, ◌≡◌, ◌-◌, ◌++◌, ◌∙◌, ap, arith, drop, length, take}
use Rattle.std.proofs.lemmas.List.{drop_at, length-drop, length-take-le, take_all, take_at}
use Rattle.hex.specs.Hex.{encode_upper}
use Rattle.hsr_digits.proofs.Overlaps.{first_and_last}
use Rattle.hsr_digits.proofs.blocks.write_halves.Goals as goal

pub returns : goal.returns
returns c =
    let octets : List ℕ = c.args.octets.now in
    let last : ℕ = length octets - 8 in
    let first : List ℕ = take 8 octets in
    let second : List ℕ = drop last octets in
    let one : length first ≡ 8 = length-take-le 8 octets c.requires.long in
    let two : length second ≡ 8 = length-drop last octets ∙ omega arith in
    let both : c.one_behind_the_other-both.result ≡ first ++ second
    = c.one_behind_the_other-both.ensures ∙ ap (λ (l : List ℕ). first ++ l) (take_all 8 second (omega (arith, two))) in
    let front : c.halves_of_digits.result.0 ≡ encode_upper (take 8 octets)
    = c.halves_of_digits.ensures.front ∙ ap (λ (l : List ℕ). encode_upper (take 8 l)) both ∙ ap encode_upper (take_at first second 8 one) in
    let back : c.halves_of_digits.result.1 ≡ encode_upper second
    = c.halves_of_digits.ensures.back ∙ ap (λ (l : List ℕ). encode_upper (drop 8 l)) both ∙ ap encode_upper (drop_at first second 8 one) in
    first_and_last octets c.args.digits.now c.halves_of_digits.result.0 c.halves_of_digits.result.1 last (omega arith) (omega arith)
    c.requires.room front back
