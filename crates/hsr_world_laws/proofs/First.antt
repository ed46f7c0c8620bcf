-- A new world is sound.
use Rattle.std.proofs.Common.{◌≡◌, ℕ, false, List, [], ◌∷◌, ◌++◌, map, count_by, refl, sym, ap, subst, arith, zero, suc}
use Rattle.std.proofs.lemmas.List.Elements.{All-from_recursion}
use Rattle.std.specs.List.{All, AllByRecursion}
use Rattle.std.proofs.lemmas.List.{length-map}
use Rattle.hsr_topology.proofs.Ends.{end_apart}
use Rattle.hsr_topology.specs.Links.{is_same_end}
use Rattle.hsr_run_laws.specs.Run.{no_end, owner_in, record_in}
use Rattle.hsr_topology.specs.Wired.{AreDistinct, IsJoin, ends_of}
use Rattle.hsr_topology.specs.declared.end.End.{End}
use Rattle.hsr_link.specs.declared.row.Dir.{Dir}
use Rattle.hsr_node.specs.Flow.{arrivals, passes}
use Rattle.hsr_node.specs.Record.{IsLegal, Owner}
use Rattle.hsr_node.specs.declared.place.Place.{Place}
use Rattle.hsr_world_laws.proofs.Counts.{by_counts}
use Rattle.hsr_world_laws.specs.Law.{FirstSound, LaneAgrees, SpanAgrees, receiving}
use Rattle.hsr_world_laws.specs.Spans.{lanes_of}
use Rattle.hsr_world_laws.specs.World.{new_lane, new_span}

-- ---- no entries

pub no_entries : (places : List Place) (n : ℕ) → record_in (map (λ (place : Place). []) places) n ≡ []
no_entries [] n = refl
no_entries (place ∷ places) zero = refl
no_entries (place ∷ places) (suc n) = no_entries places n

legal_none : (capacity : ℕ) (owner : Owner) → IsLegal capacity owner []
unfolding IsLegal
legal_none capacity owner = record {}

-- ---- no copies

lane_agrees : (places all : List Place) (dir : Dir) (from to : End) → LaneAgrees places (map (λ (place : Place). []) all) dir [] (new_lane from to)
lane_agrees places all dir from to = record {
  sent = by_counts _ _ (λ p. ap (λ past. count_by p (passes (owner_in places from.node) from.port past)) (no_entries all from.node));
  came = by_counts _ _ (λ p. sym (ap (λ past. count_by p (arrivals to.port past ++ [])) (no_entries all to.node)));
}

span_agrees : (places all : List Place) (room : ℕ) (link : List End) → SpanAgrees places (map (λ (place : Place). []) all) (new_span room link)
span_agrees places all room [] = record { forth = lane_agrees places all _ no_end no_end; back = lane_agrees places all _ no_end no_end }
span_agrees places all room (a ∷ []) = record { forth = lane_agrees places all _ no_end no_end; back = lane_agrees places all _ no_end no_end }
span_agrees places all room (a ∷ b ∷ ends) = record { forth = lane_agrees places all _ a b; back = lane_agrees places all _ b a }

spans_agree : (places all : List Place) (room : ℕ) (links : List (List End)) → AllByRecursion (SpanAgrees places (map (λ (place : Place). []) all)) (map (new_span room) links)
spans_agree places all room [] = tt
spans_agree places all room (link ∷ links) = (span_agrees places all room link, spans_agree places all room links)

-- ---- the receiving ends are those of the links

head_of : {X : Type 0} (P : X → Type 0) (x : X) (xs : List X) → All P (x ∷ xs) → P x
head_of P x xs h = h 0 x (omega arith)

rest_of : {X : Type 0} (P : X → Type 0) (x : X) (xs : List X) → All P (x ∷ xs) → All P xs
rest_of P x xs h = λ k d below. h (suc k) d (omega (arith, below))

all_received : (places : List Place) (room : ℕ) (P : End → Type 0) (links : List (List End)) → All (IsJoin places) links → All P (ends_of links) → AllByRecursion P (receiving (lanes_of (map (new_span room) links)))
all_received places room P [] joined h = tt
all_received places room P (link ∷ links) joined h =
    by_link (λ all. all_received places room P links (rest_of (IsJoin places) link links joined) all) link (head_of (IsJoin places) link links joined) h
  where
    by_link : (All P (ends_of links) → AllByRecursion P (receiving (lanes_of (map (new_span room) links)))) →
        (x : List End) → IsJoin places x → All P (x ++ ends_of links) → AllByRecursion P (receiving (lanes_of (map (new_span room) (x ∷ links))))
    by_link rest [] j h = absurd j
    by_link rest (a ∷ []) j h = absurd j
    by_link rest (a ∷ b ∷ c ∷ ends) j h = absurd j
    by_link rest (a ∷ b ∷ []) j h =
        let below = rest_of P a (b ∷ ends_of links) h in
        (head_of P b (ends_of links) below, (head_of P a (b ∷ ends_of links) h, rest (rest_of P b (ends_of links) below)))

received_distinct : (places : List Place) (room : ℕ) (links : List (List End)) → All (IsJoin places) links → AreDistinct (ends_of links) → AreDistinct (receiving (lanes_of (map (new_span room) links)))
received_distinct places room [] joined d = tt
received_distinct places room (link ∷ links) joined d =
    by_link (λ distinct. received_distinct places room links (rest_of (IsJoin places) link links joined) distinct) link (head_of (IsJoin places) link links joined) d
  where
    joined_rest : All (IsJoin places) links
    joined_rest = rest_of (IsJoin places) link links joined

    by_link : (AreDistinct (ends_of links) → AreDistinct (receiving (lanes_of (map (new_span room) links)))) →
        (x : List End) → IsJoin places x → AreDistinct (x ++ ends_of links) → AreDistinct (receiving (lanes_of (map (new_span room) (x ∷ links))))
    by_link rest [] j d = absurd j
    by_link rest (a ∷ []) j d = absurd j
    by_link rest (a ∷ b ∷ c ∷ ends) j d = absurd j
    by_link rest (a ∷ b ∷ []) j d =
        let of_a : End → Type 0 = λ other. is_same_end other a ≡ false in
        let of_b : End → Type 0 = λ other. is_same_end other b ≡ false in
        let more : List End = receiving (lanes_of (map (new_span room) links)) in (
          All-from_recursion of_b (a ∷ more) (end_apart a b (head_of of_a b (ends_of links) d.0), all_received places room of_b links joined_rest d.1.0),
          (
            All-from_recursion of_a more (all_received places room of_a links joined_rest (rest_of of_a b (ends_of links) d.0)),
            rest d.1.1,
          ),
        )

pub first_sound : FirstSound
first_sound capacity room places links h = record {
  counted = length-map places (λ (place : Place). []);
  legal = λ n. subst (IsLegal capacity (owner_in places n)) (sym (no_entries places n)) (legal_none capacity (owner_in places n));
  agree = spans_agree places places room links;
  distinct = received_distinct places room links h.joined h.distinct;
}
