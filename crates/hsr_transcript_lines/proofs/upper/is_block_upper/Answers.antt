use Rattle.std.proofs.Common.{ℕ, List, ◌∙◌, ◌%◌, ◌==◌, ap, arith, map, nat_le, replicate, take}
use Rattle.std.proofs.lemmas.List.{length-map, length-take-le}
use Rattle.std.proofs.lemmas.Simd.{mask_l-mod, tops_compared, zip2_splat_left}
use Rattle.std.specs.Int.{w8}
use Rattle.std.specs.Simd.Lanes.{mask_l}
use Rattle.hsr_transcript_lines.proofs.Letters.{none_set}
use Rattle.hsr_transcript_lines.proofs.upper.is_block_upper.Goals as goal

pub returns : goal.returns
returns c =
    let octets : List ℕ = take 32 c.args.word.now in
    let long = length-take-le 32 c.args.word.now c.requires in
    ap (λ l. (mask_l l % 18446744073709551616) == 0) (tops_compared w8 nat_le (replicate 32 97) octets ∙ zip2_splat_left nat_le 97 32 octets long)
    ∙ ap (λ (n : ℕ). n == 0) (mask_l-mod (map (nat_le 97) octets) 64 (omega (arith, length-map octets (nat_le 97), long))) ∙ none_set octets
