-- Both ends of each link lead to it, since none stands twice.
use Rattle.std.proofs.Common.{sym, ◌∙◌, ◌≡◌, ℕ, zero, suc, ◌+◌, ◌<◌, ◌||◌, ◌&&◌, ◌==◌, Bool, true, false, cond, List, [], ◌∷◌, ◌++◌, length, refl, arith, Option, Some, None, slice_index_or, subst}
use Rattle.std.specs.Prelude.{option_map}
use Rattle.std.specs.List.{All}
use Rattle.std.specs.Option.{option_or}
use Rattle.std.proofs.lemmas.Bool.{false≢true}
use Rattle.std.proofs.lemmas.Bool.Decides.{nat_tests}
use Rattle.std.proofs.lemmas.List.Elements.{All-head, All-tail}
use Rattle.hsr_node.specs.declared.place.Place.{Place}
use Rattle.hsr_topology.specs.Links.{is_same_end, link_from}
use Rattle.hsr_topology.specs.Topology.{topology_fault}
use Rattle.hsr_topology.specs.Wired.{AreDistinct, EndsLeadBack, IsJoin, IsWired, ends_of}
use Rattle.hsr_topology.specs.declared.end.End.{End}
use Rattle.hsr_topology.proofs.Wired.{wired}

All-later : (P : End → Type 0) (xs ys : List End) → All P (xs ++ ys) → All P ys
All-later P [] ys h = h
All-later P (x ∷ xs) ys h = All-later P xs ys (All-tail P x (xs ++ ys) h)

-- what holds of all ends holds of both ends of each link
both_ends : (P : End → Type 0) (links : List (List End)) → All P (ends_of links) → (l : ℕ) (d : List End) (a b : End) → l < length links → slice_index_or links l d ≡ a ∷ b ∷ [] → P a × P b
both_ends P [] all l d a b below is = absurd (omega (arith, below))
both_ends P (link ∷ links) all zero d a b below is =
    let here : All P (a ∷ b ∷ ends_of links) = subst (λ ends. All P (ends ++ ends_of links)) is all in
    (All-head P a (b ∷ ends_of links) here, All-head P b (ends_of links) (All-tail P a (b ∷ ends_of links) here))
both_ends P (link ∷ links) all (suc l) d a b below is = both_ends P links (All-later P link (ends_of links) all) l d a b (omega (arith, below)) is

-- two lists of two ends, end by end
same_ends : (p q a b : End) → p ∷ q ∷ [] ≡ a ∷ b ∷ [] → (p ≡ a) × (q ≡ b)
same_ends p q a b is = (λ i. first_or p (is i), λ i. first_or q (tail_of (is i)))
  where
    first_or : End → List End → End
    first_or end [] = end
    first_or end (x ∷ xs) = x

    tail_of : List End → List End
    tail_of [] = []
    tail_of (x ∷ xs) = xs

same_as_itself : (n m : ℕ) → ((n == n) && (m == m)) ≡ true
same_as_itself n m = grind (arith, nat_tests)

-- a link's ends lead to it
here : (n : ℕ) (links : List (List End)) (a b : End) → is_same_end b a ≡ false → (link_from n ((a ∷ b ∷ []) ∷ links) a ≡ Some (n, true)) × (link_from n ((a ∷ b ∷ []) ∷ links) b ≡ Some (n, false))
here n links a b differ = (first (is_same_end a a) _ (same_as_itself a.node a.port), second (is_same_end b a) (is_same_end b b) differ (same_as_itself b.node b.port))
  where
    first : (same : Bool) (other : Option Bool) → same ≡ true → option_or (option_map (λ f. (n, f)) (cond same (Some true) other)) (link_from (n + 1) links a) ≡ Some (n, true)
    first true other e = refl
    first false other e = absurd (false≢true e)

    second : (other same : Bool) → other ≡ false → same ≡ true
        → option_or (option_map (λ f. (n, f)) (cond other (Some true) (cond (same || false) (Some false) None))) (link_from (n + 1) links b) ≡ Some (n, false)
    second true same e s = absurd (false≢true (sym e))
    second false true e s = refl
    second false false e s = absurd (false≢true s)

-- an end of another link is sought further on
passed : (n : ℕ) (links : List (List End)) (p q end : End) → is_same_end end p ≡ false → is_same_end end q ≡ false → link_from n ((p ∷ q ∷ []) ∷ links) end ≡ link_from (n + 1) links end
passed n links p q end not_p not_q = over (is_same_end end p) (is_same_end end q) not_p not_q
  where
    over : (first second : Bool) → first ≡ false → second ≡ false
        → option_or (option_map (λ f. (n, f)) (cond first (Some true) (cond (second || false) (Some false) None))) (link_from (n + 1) links end) ≡ link_from (n + 1) links end
    over true second e f = absurd (false≢true (sym e))
    over false true e f = absurd (false≢true (sym f))
    over false false e f = refl

leads : (places : List Place) (n : ℕ) (links : List (List End)) → All (IsJoin places) links → AreDistinct (ends_of links) → (l k : ℕ) (d : List End) (a b : End) → k ≡ l + n → l < length links → slice_index_or links l d ≡ a ∷ b ∷ []
    → (link_from n links a ≡ Some (k, true)) × (link_from n links b ≡ Some (k, false))
leads places n [] joins once l k d a b at below is = absurd (omega (arith, below))
leads places n ([] ∷ links) joins once l k d a b at below is = absurd (All-head (IsJoin places) [] links joins)
leads places n ((p ∷ []) ∷ links) joins once l k d a b at below is = absurd (All-head (IsJoin places) (p ∷ []) links joins)
leads places n ((p ∷ q ∷ []) ∷ links) joins once zero k d a b at below is =
    let differ : All (λ end. is_same_end end p ≡ false) (q ∷ ends_of links) = once.0 in
    let found = here n links p q (All-head (λ end. is_same_end end p ≡ false) q (ends_of links) differ) in
    let number : n ≡ k = omega (arith, at) in
    let firsts = same_ends p q a b is in (
      (λ i. link_from n ((p ∷ q ∷ []) ∷ links) (sym firsts.0 i)) ∙ found.0 ∙ (λ i. Some (number i, true)),
      (λ i. link_from n ((p ∷ q ∷ []) ∷ links) (sym firsts.1 i)) ∙ found.1 ∙ (λ i. Some (number i, false)),
    )
leads places n ((p ∷ q ∷ []) ∷ links) joins once (suc l) k d a b at below is =
    let lower : l < length links = omega (arith, below) in
    let not_p = both_ends (λ end. is_same_end end p ≡ false) links (All-tail (λ end. is_same_end end p ≡ false) q (ends_of links) once.0) l d a b lower is in
    let not_q = both_ends (λ end. is_same_end end q ≡ false) links once.1.0 l d a b lower is in
    let rest = leads places (n + 1) links (All-tail (IsJoin places) (p ∷ q ∷ []) links joins) once.1.1 l k d a b (omega (arith, at)) lower is in
    (passed n links p q a not_p.0 not_q.0 ∙ rest.0, passed n links p q b not_p.1 not_q.1 ∙ rest.1)
leads places n ((p ∷ q ∷ r ∷ ends) ∷ links) joins once l k d a b at below is = absurd (All-head (IsJoin places) (p ∷ q ∷ r ∷ ends) links joins)

pub back_of_wired : (places : List Place) (links : List (List End)) → IsWired places links → EndsLeadBack links
back_of_wired places links w l d a b below is = leads places 0 links w.joined w.distinct l l d a b (omega arith) below is

pub lead_back : (places : List Place) (links : List (List End)) → topology_fault places links ≡ None → EndsLeadBack links
lead_back places links h = back_of_wired places links (wired places links h)
