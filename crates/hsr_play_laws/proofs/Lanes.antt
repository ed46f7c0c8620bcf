-- Where the directions of links begin and end in a world of a topology, and what is found for their ends.
use Rattle.std.proofs.Common.{◌≡◌, ℕ, ◌+◌, ◌<◌, false, List, [], ◌∷◌, ◌++◌, length, map, Some, refl, sym, ap, ◌∙◌, subst, arith, zero, suc}
use Rattle.std.specs.List.{All}
use Rattle.std.proofs.lemmas.Bool.{cond-false, cond-true}
use Rattle.std.proofs.lemmas.List.Elements.{All-cons, All-head, All-nil, All-tail}
use Rattle.hsr_node.specs.declared.place.Place.{Place}
use Rattle.hsr_link.specs.declared.row.Dir.{Dir}
use Rattle.hsr_link.specs.declared.row.Dir.TheVariants.{Forth, Back}
use Rattle.hsr_topology.specs.Links.{is_same_end}
use Rattle.hsr_topology.specs.Wired.{AreDistinct, HasPort, IsJoin, IsWired, ends_of}
use Rattle.hsr_topology.specs.declared.end.End.{End}
use Rattle.hsr_topology.proofs.Ends.{end_apart, end_same}
use Rattle.hsr_world_laws.specs.Spans.{Lane, Span, Spot, held_in, lane_of, lanes_of, spot_from}
use Rattle.hsr_world_laws.specs.World.{World, span_at, span_in}
use Rattle.hsr_world_laws.proofs.Wires.{Wire, wire, wire_of}

-- a world stands where a topology says, and its links join what they join there
pub record AreWired (places : List Place) (links : List (List End)) (w : World) : Type 0 where
  pub stands : w.places ≡ places
  pub joins : map wire w.spans ≡ map wire_of links

-- ---- one link

-- it joins two ends
record IsBetween (x : Span) (a b : End) : Type 0 where
  forth_from : x.forth.from ≡ a
  forth_to : x.forth.to ≡ b
  back_from : x.back.from ≡ b
  back_to : x.back.to ≡ a

between : (x : Span) (a b : End) → wire x ≡ wire_of (a ∷ b ∷ []) → IsBetween x a b
between x a b e = record {
  forth_from = ap (λ (p : Wire). p.0) e;
  forth_to = ap (λ (p : Wire). p.1) e;
  back_from = ap (λ (p : Wire). p.2) e;
  back_to = ap (λ (p : Wire). p.3) e;
}

first_is : {X : Type 0} (x y : X) (xs ys : List X) → x ∷ xs ≡ y ∷ ys → x ≡ y
first_is x y xs ys e = cc

rest_is : {X : Type 0} (x y : X) (xs ys : List X) → x ∷ xs ≡ y ∷ ys → xs ≡ ys
rest_is x y xs ys e = cc

-- P of where a direction begins and ends
abbrev AtEnds : (End → Type 0) → Lane → Type 0
AtEnds P lane = P lane.from × P lane.to

at_ends : (P : End → Type 0) (dir : Dir) (x : Span) (a b : End) → IsBetween x a b → P a → P b → AtEnds P (lane_of dir x)
at_ends P Forth x a b is of_a of_b = (subst P (sym is.forth_from) of_a, subst P (sym is.forth_to) of_b)
at_ends P Back x a b is of_a of_b = (subst P (sym is.back_from) of_b, subst P (sym is.back_to) of_a)

-- what is found for the ends of a direction, among links of which the first has a number
record IsFound (k : ℕ) (spans : List Span) (l : ℕ) (dir : Dir) : Type 0 where
  spot : spot_from (lane_of dir (span_in spans l)).from k spans ≡ Some (record { link = k + l; dir = dir })
  held : held_in (lane_of dir (span_in spans l)).to (lanes_of spans) ≡ (lane_of dir (span_in spans l)).hand

found_here : (k : ℕ) (x : Span) (xs : List Span) (a b : End) → IsBetween x a b → is_same_end b a ≡ false → (dir : Dir) → IsFound k (x ∷ xs) zero dir
found_here k x xs a b is apart Forth = record {
  spot = cond-true (is_same_end x.forth.from x.forth.from) _ _ (end_same x.forth.from x.forth.from refl) ∙ at;
  held = cond-true (is_same_end x.forth.to x.forth.to) _ _ (end_same x.forth.to x.forth.to refl);
}
  where
    at : Some (let it : Spot = record { link = k; dir = Forth } in it) ≡ Some (record { link = k + 0; dir = Forth })
    at = let e : k ≡ k + 0 = omega arith in ap (λ m. Some (let it : Spot = record { link = m; dir = Forth } in it)) e
found_here k x xs a b is apart Back = record {
  spot = cond-false (is_same_end x.forth.from x.back.from) _ _ (ap (λ q. is_same_end q x.back.from) is.forth_from ∙ (ap (λ q. is_same_end a q) is.back_from ∙ end_apart a b apart))
      ∙ (cond-true (is_same_end x.back.from x.back.from) _ _ (end_same x.back.from x.back.from refl) ∙ at);
  held = cond-false (is_same_end x.forth.to x.back.to) _ _ (ap (λ q. is_same_end q x.back.to) is.forth_to ∙ (ap (λ q. is_same_end b q) is.back_to ∙ apart))
      ∙ cond-true (is_same_end x.back.to x.back.to) _ _ (end_same x.back.to x.back.to refl);
}
  where
    at : Some (let it : Spot = record { link = k; dir = Back } in it) ≡ Some (record { link = k + 0; dir = Back })
    at = let e : k ≡ k + 0 = omega arith in ap (λ m. Some (let it : Spot = record { link = m; dir = Back } in it)) e

-- an end that is none of a link's isn't found there
abbrev IsApart : End → End → End → Type 0
IsApart a b other = (is_same_end other a ≡ false) × (is_same_end other b ≡ false)

found_later : (k : ℕ) (x : Span) (xs : List Span) (a b : End) (m : ℕ) (dir : Dir) → IsBetween x a b → AtEnds (IsApart a b) (lane_of dir (span_in xs m)) → IsFound (k + 1) xs m dir → IsFound k (x ∷ xs) (suc m) dir
found_later k x xs a b m dir is apart found =
    let from : End = (lane_of dir (span_in xs m)).from in
    let to : End = (lane_of dir (span_in xs m)).to in
    let next : Spot = record { link = k + 1 + m; dir = dir } in
    let e : k + 1 + m ≡ k + suc m = omega arith in
    record {
      spot = cond-false (is_same_end x.forth.from from) _ _ (ap (λ q. is_same_end q from) is.forth_from ∙ end_apart a from apart.0.0)
          ∙ (cond-false (is_same_end x.back.from from) _ _ (ap (λ q. is_same_end q from) is.back_from ∙ end_apart b from apart.0.1)
          ∙ (found.spot ∙ ap (λ n. Some (let it : Spot = record { link = n; dir = dir } in it)) e));
      held = cond-false (is_same_end x.forth.to to) _ _ (ap (λ q. is_same_end q to) is.forth_to ∙ end_apart b to apart.1.1)
          ∙ (cond-false (is_same_end x.back.to to) _ _ (ap (λ q. is_same_end q to) is.back_to ∙ end_apart a to apart.1.0) ∙ found.held);
    }

-- ---- all links

module _ (places : List Place) where
  -- what holds of all ends holds of those of a direction
  of_lane : (P : End → Type 0) (links : List (List End)) (spans : List Span) → All (IsJoin places) links → All P (ends_of links) → map wire spans ≡ map wire_of links →
      (l : ℕ) → l < length spans → (dir : Dir) → AtEnds P (lane_of dir (span_in spans l))
  of_lane P links [] joins all same l below dir = absurd (omega (arith, below))
  of_lane P [] (x ∷ xs) joins all same l below dir = absurd cc
  of_lane P (link ∷ links) (x ∷ xs) joins all same l below dir =
      by_link link (All-head (IsJoin places) link links joins) all (first_is (wire x) (wire_of link) (map wire xs) (map wire_of links) same) l below
      (λ rest m low. of_lane P links xs (All-tail (IsJoin places) link links joins) rest (rest_is (wire x) (wire_of link) (map wire xs) (map wire_of links) same) m low dir)
    where
      by_link : (q : List End) → IsJoin places q → All P (q ++ ends_of links) → wire x ≡ wire_of q → (l : ℕ) → l < length (x ∷ xs) →
          (All P (ends_of links) → (m : ℕ) → m < length xs → AtEnds P (lane_of dir (span_in xs m))) → AtEnds P (lane_of dir (span_in (x ∷ xs) l))
      by_link [] join all is l below rest = absurd join
      by_link (a ∷ []) join all is l below rest = absurd join
      by_link (a ∷ b ∷ c ∷ ends) join all is l below rest = absurd join
      by_link (a ∷ b ∷ []) join all is zero below rest =
          let more = All-tail P a (b ∷ ends_of links) all in
          at_ends P dir x a b (between x a b is) (All-head P a (b ∷ ends_of links) all) (All-head P b (ends_of links) more)
      by_link (a ∷ b ∷ []) join all is (suc m) below rest = rest (All-tail P b (ends_of links) (All-tail P a (b ∷ ends_of links) all)) m (omega (arith, below))

  all_ports : (links : List (List End)) → All (IsJoin places) links → All (HasPort places) (ends_of links)
  all_ports [] joins = All-nil (HasPort places)
  all_ports (link ∷ links) joins = by_link link (All-head (IsJoin places) link links joins) (all_ports links (All-tail (IsJoin places) link links joins))
    where
      by_link : (q : List End) → IsJoin places q → All (HasPort places) (ends_of links) → All (HasPort places) (q ++ ends_of links)
      by_link [] join rest = absurd join
      by_link (a ∷ []) join rest = absurd join
      by_link (a ∷ b ∷ c ∷ ends) join rest = absurd join
      by_link (a ∷ b ∷ []) join rest = All-cons (HasPort places) a (b ∷ ends_of links) join.first (All-cons (HasPort places) b (ends_of links) join.second rest)

  all_found : (links : List (List End)) (spans : List Span) → All (IsJoin places) links → AreDistinct (ends_of links) → map wire spans ≡ map wire_of links → (k l : ℕ) → l < length spans → (dir : Dir) → IsFound k spans l dir
  all_found links [] joins distinct same k l below dir = absurd (omega (arith, below))
  all_found [] (x ∷ xs) joins distinct same k l below dir = absurd cc
  all_found (link ∷ links) (x ∷ xs) joins distinct same k l below dir =
      by_link link (All-head (IsJoin places) link links joins) distinct (first_is (wire x) (wire_of link) (map wire xs) (map wire_of links) same) l below
      (λ rest m low. all_found links xs more rest others (k + 1) m low dir)
    where
      more : All (IsJoin places) links
      more = All-tail (IsJoin places) link links joins

      others : map wire xs ≡ map wire_of links
      others = rest_is (wire x) (wire_of link) (map wire xs) (map wire_of links) same

      apart : (a b : End) → All (λ other. is_same_end other a ≡ false) (ends_of links) → All (λ other. is_same_end other b ≡ false) (ends_of links) → All (IsApart a b) (ends_of links)
      apart a b of_a of_b i d low = (of_a i d low, of_b i d low)

      by_link : (q : List End) → IsJoin places q → AreDistinct (q ++ ends_of links) → wire x ≡ wire_of q → (l : ℕ) → l < length (x ∷ xs) →
          (AreDistinct (ends_of links) → (m : ℕ) → m < length xs → IsFound (k + 1) xs m dir) → IsFound k (x ∷ xs) l dir
      by_link [] join d is l below rest = absurd join
      by_link (a ∷ []) join d is l below rest = absurd join
      by_link (a ∷ b ∷ c ∷ ends) join d is l below rest = absurd join
      by_link (a ∷ b ∷ []) join d is zero below rest = found_here k x xs a b (between x a b is) (All-head (λ (other : End). is_same_end other a ≡ false) b (ends_of links) d.0) dir
      by_link (a ∷ b ∷ []) join d is (suc m) below rest =
          let of_a = All-tail (λ (other : End). is_same_end other a ≡ false) b (ends_of links) d.0 in
          found_later k x xs a b m dir (between x a b is) (of_lane (IsApart a b) links xs more (apart a b of_a d.1.0) others m (omega (arith, below)) dir) (rest d.1.1 m (omega (arith, below)))

-- ---- a direction of a link in a world

-- it leads from a port to a port, and is found for them
pub record IsLane (places : List Place) (w : World) (l : ℕ) (dir : Dir) : Type 0 where
  pub from : HasPort places (lane_of dir (span_at w l)).from
  pub to : HasPort places (lane_of dir (span_at w l)).to
  pub spot : spot_from (lane_of dir (span_at w l)).from 0 w.spans ≡ Some (record { link = l; dir = dir })
  pub held : held_in (lane_of dir (span_at w l)).to (lanes_of w.spans) ≡ (lane_of dir (span_at w l)).hand

pub lane_is : (places : List Place) (links : List (List End)) (w : World) → IsWired places links → AreWired places links w → (l : ℕ) → l < length w.spans → (dir : Dir) → IsLane places w l dir
lane_is places links w wired are l below dir =
    let ends = of_lane places (HasPort places) links w.spans wired.joined (all_ports places links wired.joined) are.joins l below dir in
    let found = all_found places links w.spans wired.joined wired.distinct are.joins 0 l below dir in
    let e : 0 + l ≡ l = omega arith in
    record { from = ends.0; to = ends.1; spot = found.spot ∙ ap (λ n. Some (let it : Spot = record { link = n; dir = dir } in it)) e; held = found.held }
