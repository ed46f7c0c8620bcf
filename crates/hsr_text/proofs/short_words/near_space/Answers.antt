use Rattle.std.proofs.Common.{ℕ, List, ◌≡◌, ◌<◌, ◌∙◌, ◌==◌, ap, arith, map, sym, take}
use Rattle.std.proofs.lemmas.List.{length-take-le}
use Rattle.std.proofs.lemmas.Simd.{bitmask_splat, trailing_mask_l}
use Rattle.std.specs.Int.{w8}
use Rattle.std.specs.Int.Count.{count_trailing_zeros}
use Rattle.std.specs.Simd.Lanes.{mask_l}
use Rattle.hsr_text.proofs.short_words.near_space.Goals as goal

pub returns-else-spaces-eq0 : goal.returns-else-spaces-eq0
returns-else-spaces-eq0 c =
    let octets : List ℕ = take 16 c.args.text.now in
    let long = length-take-le 16 c.args.text.now c.requires in
    let seen = bitmask_splat w8 (λ (a b : ℕ). a == b) octets 16 32 long (omega arith) in
    let some : 0 < mask_l (map (λ (a : ℕ). a == 32) octets) = omega (arith, sym seen, c.if-spaces-eq0.false) in
    ap (count_trailing_zeros 64) seen ∙ trailing_mask_l (λ (a : ℕ). a == 32) 64 octets (omega (arith, long)) some
