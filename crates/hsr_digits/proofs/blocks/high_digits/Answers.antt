use Rattle.std.proofs.Common.{ℕ, List, ◌<◌, ◌/◌, ◌∙◌, ap, subst, sym, map, slice_index}
use Rattle.std.proofs.lemmas.Simd.{below_from_Fits, map-map, zip2_splat}
use Rattle.hex.specs.Hex.{upper_digits}
use Rattle.hsr_digits.proofs.Lanes.{halved}
use Rattle.hsr_digits.proofs.blocks.high_digits.Goals as goal
use Rattle.std.specs.Int.{w8}
use lib.Lanes.{Each1}

pub digits_of-requires : goal.digits_of-requires
digits_of-requires c =
    subst (λ (l : List ℕ). Each1 (λ v. v < 16) l) (sym (zip2_splat _ c.args.octets 16 4 c.fits-octets.0)) (halved c.args.octets (below_from_Fits w8 c.args.octets c.fits-octets.1))

pub returns : goal.returns
returns c =
    c.digits_of.ensures ∙ ap (map (λ v. slice_index upper_digits v)) (zip2_splat _ c.args.octets 16 4 c.fits-octets.0)
    ∙ map-map (λ v. slice_index upper_digits v) (λ o. o / 16) c.args.octets
