-- Of each direction the most copies of a frame, one copy after the other.
use Rattle.std.proofs.Common.{◌≡◌, ℕ, ◌+◌, ◌<◌, max, cond, List, ◌∷◌, length, set, ◌⊎◌, inl, inr, refl, sym, ap, ◌∙◌, arith, Some}
use Rattle.std.specs.Prelude.{slice_get, slice_index}
use Rattle.std.proofs.lemmas.Bool.{eq-eqb, ne_eqb}
use Rattle.std.proofs.lemmas.Option.{slice_get-get_or}
use Rattle.hsr_frame_groups.specs.Frames.{CaughtFields, past_of}
use Rattle.hsr_sightings.specs.Again.{AreMost}
use Rattle.hsr_sightings.specs.Copies.{carried_before, most_carried}
use Rattle.hsr_sightings.proofs.Gathering.{slice_get_set}
use Rattle.hsr_sightings.proofs.Indexes.{past_more}

-- one copy more
pub most_more : (copies : List CaughtFields) (i count : ℕ) (c : CaughtFields) (old new : List ℕ) → slice_get copies i ≡ Some c → count ≡ carried_before (past_of copies i) c
    → new ≡ set old c.direction (max (count + 1) (slice_index old c.direction)) → c.direction < length old → AreMost (past_of copies i) old → AreMost (past_of copies (i + 1)) new
most_more copies i count c old new here count_is is inside are d n at_d =
    by_place (slice_get_set old c.direction d _ n (ap (λ l. slice_get l d) (sym is) ∙ at_d)) ∙ ap (most_carried d) (sym (past_more copies i c here))
  where
    past : List CaughtFields
    past = past_of copies i

    by_place : ((d ≡ c.direction) × (n ≡ max (count + 1) (slice_index old c.direction))) ⊎ ((c.direction ≡ d → ⊥) × (slice_get old d ≡ Some n)) → n ≡ most_carried d (c ∷ past)
    by_place (inl own) =
        own.1 ∙ ap (λ k. max (k + 1) (slice_index old c.direction)) count_is
        ∙ ap (max (carried_before past c + 1)) (are c.direction (slice_index old c.direction) (slice_get-get_or old c.direction 0 inside))
        ∙ ap (λ b. max (cond b (carried_before past c + 1) 0) (most_carried c.direction past)) (sym (eq-eqb c.direction c.direction refl))
        ∙ ap (λ e. most_carried e (c ∷ past)) (sym own.0)
    by_place (inr other) =
        let still : n ≡ max 0 (most_carried d past) = omega (arith, are d n other.1) in
        still ∙ ap (λ b. max (cond b (carried_before past c + 1) 0) (most_carried d past)) (sym (ne_eqb c.direction d other.0))

pub most_none : (copies : List CaughtFields) (most : List ℕ) → ((d n : ℕ) → slice_get most d ≡ Some n → n ≡ 0) → AreMost (past_of copies 0) most
most_none copies most zeros d n at_d = zeros d n at_d
