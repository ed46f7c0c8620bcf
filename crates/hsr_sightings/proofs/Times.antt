-- How often directions carried frames, as octets.
use Rattle.std.proofs.Common.{◌≡◌, ℕ, ◌+◌, ◌<◌, ◌≤◌, min, Bool, List, [], ◌∷◌, ◌++◌, get_or, length, take, ◌⊎◌, inl, inr, map, sym, ap, ◌∙◌, arith}
use Rattle.std.specs.Prelude.{nat_eq, nat_le, nat_lt, option_map, slice_get}
use Rattle.std.proofs.lemmas.Bool.{cases_lt, le-leb, lt-ltb, ne_eqb}
use Rattle.std.proofs.lemmas.List.{length-map, map-append, take_more}
use Rattle.std.proofs.lemmas.Option.{slice_get-map}
use Rattle.hsr_frame_groups.specs.Frames.{CaughtFields}
use Rattle.hsr_sightings.specs.Copies.{carried_before, times_before}
use Rattle.hsr_sightings.specs.Read.{TellsEach}

-- ---- octets

-- a test that tells no number past 255 from 255
pub same_of_more : (test : ℕ → Bool) (n : ℕ) → (255 ≤ n → test n ≡ test 255) → test (min n 255) ≡ test n
same_of_more test n more = by_case (cases_lt n 255)
  where
    by_case : (n < 255) ⊎ (255 ≤ n) → test (min n 255) ≡ test n
    by_case (inl below) = let same : min n 255 ≡ n = omega (arith, below) in ap test same
    by_case (inr past) = let same : min n 255 ≡ 255 = omega (arith, past) in ap test same ∙ sym (more past)

pub none_same : (n : ℕ) → nat_eq (min n 255) 0 ≡ nat_eq n 0
none_same n = same_of_more (λ k. nat_eq k 0) n (λ past. ne_eqb n 0 (λ e. omega (arith, e, past)) ∙ sym (ne_eqb 255 0 (λ e. omega (arith, e))))

pub some_same : (n : ℕ) → nat_lt 0 (min n 255) ≡ nat_lt 0 n
some_same n = same_of_more (nat_lt 0) n (λ past. lt-ltb 0 n (omega (arith, past)) ∙ sym (lt-ltb 0 255 (omega arith)))

pub at_least_same : (k n : ℕ) → k ≤ 255 → nat_le k (min n 255) ≡ nat_le k n
at_least_same k n small = same_of_more (nat_le k) n (λ past. le-leb k n (omega (arith, small, past)) ∙ sym (le-leb k 255 small))

-- one count more
pub times_more : (counts times : List ℕ) (i d own : ℕ) (new : List ℕ) → i < length counts → times ≡ map (λ n. min n 255) (take i counts) → own ≡ min (get_or counts i d) 255 → new ≡ times ++ own ∷ []
    → new ≡ map (λ n. min n 255) (take (i + 1) counts)
times_more counts times i d own new inside so_far own_is is =
    is ∙ ap (λ l. l ++ own ∷ []) so_far ∙ ap (λ n. map (λ n. min n 255) (take i counts) ++ n ∷ []) own_is
    ∙ sym (ap (map (λ n. min n 255)) (take_more counts i d inside) ∙ map-append (λ n. min n 255) (take i counts) (get_or counts i d ∷ []))

pub times_are : (copies : List CaughtFields) (counts times : List ℕ) → TellsEach carried_before copies counts → times ≡ map (λ n. min n 255) counts → TellsEach times_before copies times
times_are copies counts times told is = record {
  each = λ i c here. ap (λ l. slice_get l i) is ∙ slice_get-map (λ n. min n 255) counts i ∙ ap (option_map (λ n. min n 255)) (told.each i c here);
  long = ap length is ∙ length-map counts (λ n. min n 255) ∙ told.long;
}
