-- The link that is found for a port.
use Rattle.std.proofs.Common.{sym, ◌∙◌, ◌≡◌, ℕ, suc, ◌+◌, ◌<◌, ◌||◌, Bool, true, false, cond, List, [], ◌∷◌, length, refl, arith, Option, Some, None, slice_index_or}
use Rattle.std.specs.Prelude.{option_map}
use Rattle.std.specs.Option.{option_or}
use Rattle.std.proofs.lemmas.Bool.{or_from}
use Rattle.std.proofs.lemmas.Option.{none-some, same_Some}
use Rattle.hsr_topology.specs.Links.{is_end_of, is_first_in, is_same_end, is_used, link_from}
use Rattle.hsr_topology.specs.Wired.{IsLinkOf}
use Rattle.hsr_topology.specs.declared.end.End.{End}

-- what is found among links that are numbered from n on
record FoundFrom (n : ℕ) (links : List (List End)) (end : End) (at : ℕ × Bool) : Type 0 where
  place : ℕ
  is : at.0 ≡ place + n
  below : place < length links
  side : (d : List End) → is_first_in end (slice_index_or links place d) ≡ Some at.1

found_from : (n : ℕ) (links : List (List End)) (end : End) (at : ℕ × Bool) → link_from n links end ≡ Some at → FoundFrom n links end at
found_from n [] end at h = absurd (none-some at h)
found_from n (link ∷ links) end at h = by_first (is_first_in end link) refl h (λ e. found_from (n + 1) links end at e)
  where
    by_first : (first : Option Bool) → is_first_in end link ≡ first → option_or (option_map (λ f. (n, f)) first) (link_from (n + 1) links end) ≡ Some at
        → (link_from (n + 1) links end ≡ Some at → FoundFrom (n + 1) links end at) → FoundFrom n (link ∷ links) end at
    by_first (Some f) is h later =
        let here : (n, f) ≡ at = same_Some (n, f) at h in
        let number : n ≡ at.0 = λ i. (here i).0 in
        record { place = 0; is = omega (arith, number); below = omega arith; side = λ d. is ∙ (λ i. Some (here i).1) }
    by_first None is h later =
        let rest = later h in
        record { place = suc rest.place; is = omega (arith, rest.is); below = omega (arith, rest.below); side = rest.side }

pub is_link_of : (links : List (List End)) (end : End) (at : ℕ × Bool) → link_from 0 links end ≡ Some at → IsLinkOf links end at
is_link_of links end at h =
    let found = found_from 0 links end at h in
    let place : at.0 ≡ found.place = omega (arith, found.is) in
    record { below = omega (arith, place, found.below); side = λ d. (λ i. is_first_in end (slice_index_or links (place i) d)) ∙ found.side d }

-- an end that a link doesn't have
not_in : (end : End) (link : List End) → is_first_in end link ≡ None → is_end_of end link ≡ false
not_in end [] h = refl
not_in end (a ∷ ends) h = by_cases (is_same_end end a) (is_end_of end ends) h
  where
    by_cases : (first later : Bool) → cond first (Some true) (cond later (Some false) None) ≡ None → (first || later) ≡ false
    by_cases true later h = absurd (none-some true (sym h))
    by_cases false true h = absurd (none-some false (sym h))
    by_cases false false h = refl

pub none_from : (n : ℕ) (links : List (List End)) (end : End) → link_from n links end ≡ None → is_used links end ≡ false
none_from n [] end h = refl
none_from n (link ∷ links) end h = by_first (is_first_in end link) refl h (λ e. none_from (n + 1) links end e)
  where
    by_first : (first : Option Bool) → is_first_in end link ≡ first → option_or (option_map (λ f. (n, f)) first) (link_from (n + 1) links end) ≡ None
        → (link_from (n + 1) links end ≡ None → is_used links end ≡ false) → is_used (link ∷ links) end ≡ false
    by_first (Some f) is h later = absurd (none-some (n, f) (sym h))
    by_first None is h later = or_from (is_end_of end link) (is_used links end) (not_in end link is) (later h)
