-- The lowest number of a set is the first in the order of a drain.
use Rattle.std.specs.Prelude.{is_some, if◌then◌else◌, slice_index_or, ◌&&◌}
use Rattle.std.proofs.Common.{◌≡◌, ℕ, zero, suc, ◌+◌, ◌*◌, ◌/◌, ◌%◌, ◌==◌, ◌<◌, ◌≤◌, ◌++◌, nat_lt, Bool, true, false, List, [], ◌∷◌, length, Option, Some, None, option_map, refl, ap, ap₂, sym, subst, ◌∙◌, arith, ⊎_elim, eq-eqb}
use Rattle.std.proofs.lemmas.Bool.{false≢true}
use Rattle.std.proofs.lemmas.List.{get_or_past}
use Rattle.std.specs.List.{find}
use Rattle.std.specs.Option.{option_or}
use Rattle.hsr_topology.specs.declared.end.End.{End}
use Rattle.hsr_link.specs.Link.{new_link}
use Rattle.hsr_link.specs.Rows.{first_copy}
use Rattle.hsr_link.specs.declared.row.Dir.{Dir}
use Rattle.hsr_link.specs.declared.row.Dir.TheVariants.{Forth, Back}
use Rattle.hsr_node.specs.Place.{ports}
use Rattle.hsr_node.specs.declared.place.Place.{Place}
use Rattle.hsr_node.specs.declared.place.Place.TheVariants.{QuadBox}
use Rattle.hsr_world_laws.specs.Spans.{Span}
use Rattle.hsr_world_laws.specs.World.{World, next_step, no_lane, ports_from, ports_of, span_in, take_from}
use Rattle.hsr_world_laws.specs.World as world
use Rattle.hsr_bitset.specs.Numbers.{IsLowest}
use Rattle.hsr_ring.specs.Pending.{ArePending, Has, IsJudgeOr, IsNext, IsPutOr, take_at}
use Rattle.hsr_world_links.specs.Ports.{AreTold, dir_at, end_at, is_held, is_ready, is_waiting, no_port, port_if, port_in, port_number, port_of, held_at, port_fault}
use Rattle.hsr_world_links.specs.Views.{spot_view}
use Rattle.hsr_ring.specs.declared.pending.Pending.{Pending}
use Rattle.hsr_world_links.specs.declared.port.Port.{Port}
use Rattle.hsr_world_links.specs.declared.spot.Spot as code-spot
use Rattle.hsr_world_steps.specs.declared.step.Step.{Step}
use Rattle.hsr_world_steps.specs.declared.step.Step.TheVariants.{Judge, Put, Take}
use Rattle.hsr_world_steps.specs.declared.step.WorldFault.{WorldFault}
use Rattle.hsr_bitset.proofs.Bits.{nat_cases}
use Rattle.hsr_world_links.proofs.Behind.{all_there, first_there, others_there}
use Rattle.hsr_world_links.proofs.Ports.{IsThere, few_ports, held_spot, into_there, is_there, out_there, port_beyond, port_told, same_spans}

-- ---- the ports of one node

abbrev end_of : ℕ → ℕ → End
end_of n port = record { node = n; port = port }

skip_ports : (p : End → Bool) (n first count : ℕ) (rest : List End) → ((r : ℕ) → first ≤ r → r < first + count → p (end_of n r) ≡ false) →
    find p (ports_of n first count ++ rest) ≡ find p rest
skip_ports p n first zero rest none = refl
skip_ports p n first (suc count) rest none =
    ap (λ b. if b then Some (end_of n first) else find p (ports_of n (first + 1) count ++ rest)) (none first (omega arith) (omega arith))
    ∙ skip_ports p n (first + 1) count rest (λ r from below. none r (omega (arith, from)) (omega (arith, below)))

find_port : (p : End → Bool) (n first count q : ℕ) (rest : List End) → first ≤ q → q < first + count → p (end_of n q) ≡ true → ((r : ℕ) → first ≤ r → r < q → p (end_of n r) ≡ false) →
    find p (ports_of n first count ++ rest) ≡ Some (end_of n q)
find_port p n first zero q rest from below is none = absurd (omega (arith, from, below))
find_port p n first (suc count) q rest from below is none =
    ⊎_elim (λ h. later h (find_port p n (first + 1) count q rest (omega (arith, h)) (omega (arith, below)) is (λ r after under. none r (omega (arith, after)) under))) here (nat_cases first q)
  where
    later : first < q → find p (ports_of n (first + 1) count ++ rest) ≡ Some (end_of n q) → find p (ports_of n first (suc count) ++ rest) ≡ Some (end_of n q)
    later h further = ap (λ b. if b then Some (end_of n first) else find p (ports_of n (first + 1) count ++ rest)) (none first (omega arith) h) ∙ further

    here : q ≤ first → find p (ports_of n first (suc count) ++ rest) ≡ Some (end_of n q)
    here h =
        let same : first ≡ q = omega (arith, h, from) in
        ap (λ b. if b then Some (end_of n first) else find p (ports_of n (first + 1) count ++ rest)) (ap (λ (j : ℕ). p (end_of n j)) same ∙ is)
        ∙ ap (λ (j : ℕ). Some (end_of n j)) same

-- ---- the ports of all

abbrev Under : (End → Bool) → List Place → ℕ → ℕ → ℕ → Type 0
Under p all m top k = (n port : ℕ) → m ≤ n → n < top → port < ports (slice_index_or all n QuadBox) → 8 * n + port < k → p (end_of n port) ≡ false

find_from : (p : End → Bool) (all : List Place) (m : ℕ) (places : List Place) (n port : ℕ) → ((j : ℕ) → slice_index_or all (m + j) QuadBox ≡ slice_index_or places j QuadBox) →
    m ≤ n → n < m + length places → port < ports (slice_index_or all n QuadBox) → p (end_of n port) ≡ true → Under p all m (m + length places) (8 * n + port) →
    find p (ports_from m places) ≡ Some (end_of n port)
find_from p all m [] n port same from below there is none = absurd (omega (arith, from, below))
find_from p all m (place ∷ places) n port same from below there is none =
    ⊎_elim
    (λ h. later h (find_from p all (m + 1) places n port (others_there all QuadBox m place places same) (omega (arith, h)) (omega (arith, below)) there is
    (λ n' port' from' below' there' under. none n' port' (omega (arith, from')) (omega (arith, below')) there' under)))
    here (nat_cases m n)
  where
    own : slice_index_or all m QuadBox ≡ place
    own = first_there all QuadBox m place places same

    few : ports place ≤ 4
    few = few_ports place

    later : m < n → find p (ports_from (m + 1) places) ≡ Some (end_of n port) → find p (ports_from m (place ∷ places)) ≡ Some (end_of n port)
    later h rest =
        skip_ports p m 0 (ports place) (ports_from (m + 1) places)
        (λ r from' below'. none m r (omega arith) (omega arith) (subst (λ (x : Place). r < ports x) (sym own) (omega (arith, below'))) (omega (arith, below', few, h)))
        ∙ rest

    here : n ≤ m → find p (ports_from m (place ∷ places)) ≡ Some (end_of n port)
    here h =
        let e : m ≡ n = omega (arith, h, from) in
        let there_own : port < ports place = subst (λ (x : Place). port < ports x) own (subst (λ (j : ℕ). port < ports (slice_index_or all j QuadBox)) (sym e) there) in
        find_port p m 0 (ports place) port (ports_from (m + 1) places) (omega arith) (omega (arith, there_own)) (ap (λ (j : ℕ). p (end_of j port)) e ∙ is)
        (λ r from' under. none m r (omega arith) (omega arith) (subst (λ (x : Place). r < ports x) (sym own) (omega (arith, under, there_own))) (omega (arith, under, e)))
        ∙ ap (λ (j : ℕ). Some (end_of j port)) e

none_from : (p : End → Bool) (all : List Place) (m : ℕ) (places : List Place) → ((j : ℕ) → slice_index_or all (m + j) QuadBox ≡ slice_index_or places j QuadBox) →
    ((n port : ℕ) → m ≤ n → n < m + length places → port < ports (slice_index_or all n QuadBox) → p (end_of n port) ≡ false) → find p (ports_from m places) ≡ None
none_from p all m [] same none = refl
none_from p all m (place ∷ places) same none =
    skip_ports p m 0 (ports place) (ports_from (m + 1) places)
    (λ r from below. none m r (omega arith) (omega arith) (subst (λ (x : Place). r < ports x) (sym own) (omega (arith, below))))
    ∙ none_from p all (m + 1) places (others_there all QuadBox m place places same) (λ n port from below there. none n port (omega (arith, from)) (omega (arith, below)) there)
  where
    own : slice_index_or all m QuadBox ≡ place
    own = first_there all QuadBox m place places same

same_places : (places : List Place) (j : ℕ) → slice_index_or places (0 + j) QuadBox ≡ slice_index_or places j QuadBox
same_places places = all_there places QuadBox

-- ---- the first end of which the number is in a set

record IsTest (places : List Place) (p : End → Bool) (test : ℕ → Bool) : Type 0 where
  there : (n port : ℕ) → IsThere places n port → test (port_number (end_of n port)) ≡ p (end_of n port)
  only : (k : ℕ) → test k ≡ true → IsThere places (k / 8) (k % 8)

found : (places : List Place) (p : End → Bool) (test : ℕ → Bool) (numbers : List ℕ) → length places ≤ 64 → IsTest places p test → Has numbers test →
    (lowest : Option ℕ) → IsLowest 512 numbers lowest → find p (ports_from 0 places) ≡ option_map end_at lowest
found places p test numbers few t is None none =
    none_from p places 0 places (same_places places)
    (λ n port from below there.
    let four = few_ports (slice_index_or places n QuadBox) in
    let number : 8 * n + port < 512 = omega (arith, few, below, there, four) in
    let low : port < 8 = omega (arith, there, four) in
    let inside : n < length places = omega (arith, below) in
    sym (t.there n port (record { node = inside; port = there; low = low })) ∙ sym (is (port_number (end_of n port)) number) ∙ none (port_number (end_of n port)) number)
found places p test numbers few t is (Some k) lowest =
    let here : test k ≡ true = sym (is k lowest.0) ∙ lowest.1 in
    let at = t.only k here in
    let number : 8 * (k / 8) + k % 8 ≡ k = omega arith in
    let node = at.node in
    find_from p places 0 places (k / 8) (k % 8) (same_places places) (omega arith) (omega (arith, node)) at.port
    (sym (t.there (k / 8) (k % 8) at) ∙ ap test number ∙ here)
    (λ n port from below there under.
    let four = few_ports (slice_index_or places n QuadBox) in
    let low : port < 8 = omega (arith, there, four) in
    let inside : n < length places = omega (arith, below) in
    let less : 8 * n + port < k = omega (arith, under, number) in
    let most = lowest.0 in
    let small : 8 * n + port < 512 = omega (arith, less, most) in
    sym (t.there n port (record { node = inside; port = there; low = low })) ∙ sym (is (port_number (end_of n port)) small) ∙ lowest.2 (port_number (end_of n port)) less)

-- ---- ports that hold a copy, and that have one to put

only_ports : (places : List Place) (spans : List Span) (list : List Port) (k : ℕ) (of : Port → Bool) → AreTold places spans list → of no_port ≡ false → of (port_in list k) ≡ true →
    IsThere places (k / 8) (k % 8)
only_ports places spans list k of told without h = ⊎_elim within beyond (nat_cases k (8 * length places))
  where
    within : k < 8 * length places → IsThere places (k / 8) (k % 8)
    within below = by_fault (port_fault places (k / 8) (k % 8)) refl
      where
        by_fault : (fault : Option WorldFault) → port_fault places (k / 8) (k % 8) ≡ fault → IsThere places (k / 8) (k % 8)
        by_fault None e = is_there places (k / 8) (k % 8) e
        by_fault (Some fault) e =
            absurd (false≢true (sym without ∙ ap of (sym (port_told places spans list k told below ∙ ap (λ (f : Option WorldFault). port_if f spans (end_at k)) e)) ∙ h))

    beyond : 8 * length places ≤ k → IsThere places (k / 8) (k % 8)
    beyond past = absurd (false≢true (sym without ∙ ap of (sym (port_beyond places spans list k told past)) ∙ h))

-- the fifth number of a node and those behind it send nowhere
pub few_send : (places : List Place) (spans : List Span) (list : List Port) (k : ℕ) → AreTold places spans list → 4 ≤ k % 8 → (port_in list k).out ≡ None
few_send places spans list k told high = by_out (port_in list k).out refl
  where
    by_out : (out : Option code-spot.Spot) → (port_in list k).out ≡ out → out ≡ None
    by_out None e = refl
    by_out (Some spot) e =
        let at = only_ports places spans list k (λ p. is_some p.out) told refl (ap is_some e) in
        let there = at.port in
        let four = few_ports (slice_index_or places (k / 8) QuadBox) in
        absurd (omega (arith, there, four, high))

number_in : (list : List Port) (n port : ℕ) → n < 64 → port < 8 → port_of list (end_of n port) ≡ port_in list (port_number (end_of n port))
number_in list n port node low =
    let a : nat_lt n 64 ≡ true = grind (arith, node) in
    let b : nat_lt port 8 ≡ true = grind (arith, low) in
    ap₂ (λ x y. if x && y then port_in list (port_number (end_of n port)) else no_port) a b

held_test : (w : World) (list : List Port) → AreTold w.places w.spans list → IsTest w.places (world.is_held w) (is_held list w.spans)
held_test w list told = record {
  there = λ n port at.
      let few = told.few in
      let node = at.node in
      ap (λ (p : Port). held_at w.spans (option_map spot_view p.into)) (sym (number_in list n port (omega (arith, few, node)) at.low))
      ∙ (ap (held_at w.spans) (into_there w.places w.spans list n port told at) ∙ held_spot w.spans (end_of n port));
  only = λ k h. only_ports w.places w.spans list k (λ p. held_at w.spans (option_map spot_view p.into)) told refl h;
}

waiting_test : (w : World) (list : List Port) → AreTold w.places w.spans list → IsTest w.places (world.is_waiting w) (is_waiting list w.spans)
waiting_test w list told = record {
  there = λ n port at.
      let few = told.few in
      let node = at.node in
      ap (λ (p : Port). world.waits_in w.spans (option_map spot_view p.out)) (sym (number_in list n port (omega (arith, few, node)) at.low))
      ∙ ap (world.waits_in w.spans) (out_there w.places w.spans list n port told at);
  only = λ k h. only_ports w.places w.spans list k (λ p. world.waits_in w.spans (option_map spot_view p.out)) told refl h;
}

-- ---- directions in which a copy waits

even_dir : (l : ℕ) → dir_at (2 * l) ≡ Forth
even_dir l = let e : 2 * l % 2 ≡ 0 = omega arith in ap (λ b. if b then Forth else Back) (eq-eqb (2 * l % 2) 0 e)

odd_dir : (l : ℕ) → dir_at (2 * l + 1) ≡ Back
odd_dir l = let e : (2 * l + 1) % 2 ≡ 1 = omega arith in ap (λ (r : ℕ). if r == 0 then Forth else Back) e

ready_forth : (all : List Span) (l : ℕ) (span : Span) → span_in all l ≡ span → is_some (first_copy Forth span.link.rows) ≡ is_ready all (2 * l)
ready_forth all l span is =
    let half : l ≡ 2 * l / 2 = omega arith in
    ap₂ (λ (dir : Dir) (s : Span). is_some (first_copy dir s.link.rows)) (sym (even_dir l)) (sym is ∙ ap (span_in all) half)

ready_back : (all : List Span) (l : ℕ) (span : Span) → span_in all l ≡ span → is_some (first_copy Back span.link.rows) ≡ is_ready all (2 * l + 1)
ready_back all l span is =
    let half : l ≡ (2 * l + 1) / 2 = omega arith in
    ap₂ (λ (dir : Dir) (s : Span). is_some (first_copy dir s.link.rows)) (sym (odd_dir l)) (sym is ∙ ap (span_in all) half)

abbrev first_take : ℕ → Bool → Bool → Option Step → Option Step
first_take l f b rest = if f then Some (Take l Forth) else (if b then Some (Take l Back) else rest)

take_found : (all : List Span) (l : ℕ) (spans : List Span) (k : ℕ) → ((j : ℕ) → span_in all (l + j) ≡ span_in spans j) → 2 * l ≤ k → k < 2 * (l + length spans) →
    is_ready all k ≡ true → ((j : ℕ) → j < k → is_ready all j ≡ false) → take_from l spans ≡ Some (take_at k)
take_found all l [] k same from below is none = absurd (omega (arith, from, below))
take_found all l (span ∷ spans) k same from below is none =
    ap₂ (λ f b. first_take l f b (take_from (l + 1) spans)) (ready_forth all l span here) (ready_back all l span here)
    ∙ ⊎_elim (λ h. later h (take_found all (l + 1) spans k (others_there all _ l span spans same) (omega (arith, h)) (omega (arith, below)) is none)) now (nat_cases (2 * l + 1) k)
  where
    here : span_in all l ≡ span
    here = first_there all _ l span spans same

    later : 2 * l + 1 < k → take_from (l + 1) spans ≡ Some (take_at k) → first_take l (is_ready all (2 * l)) (is_ready all (2 * l + 1)) (take_from (l + 1) spans) ≡ Some (take_at k)
    later h rest = ap₂ (λ f b. first_take l f b (take_from (l + 1) spans)) (none (2 * l) (omega (arith, h))) (none (2 * l + 1) h) ∙ rest

    at_even : k ≡ 2 * l → first_take l (is_ready all (2 * l)) (is_ready all (2 * l + 1)) (take_from (l + 1) spans) ≡ Some (take_at k)
    at_even e =
        let half : l ≡ k / 2 = omega (arith, e) in
        ap (λ f. first_take l f (is_ready all (2 * l + 1)) (take_from (l + 1) spans)) (ap (is_ready all) (sym e) ∙ is)
        ∙ ap₂ (λ (n : ℕ) (dir : Dir). Some (Take n dir)) half (sym (ap dir_at e ∙ even_dir l))

    at_odd : k ≡ 2 * l + 1 → first_take l (is_ready all (2 * l)) (is_ready all (2 * l + 1)) (take_from (l + 1) spans) ≡ Some (take_at k)
    at_odd e =
        let half : l ≡ k / 2 = omega (arith, e) in
        ap₂ (λ f b. first_take l f b (take_from (l + 1) spans)) (none (2 * l) (omega (arith, e))) (ap (is_ready all) (sym e) ∙ is)
        ∙ ap₂ (λ (n : ℕ) (dir : Dir). Some (Take n dir)) half (sym (ap dir_at e ∙ odd_dir l))

    now : k ≤ 2 * l + 1 → first_take l (is_ready all (2 * l)) (is_ready all (2 * l + 1)) (take_from (l + 1) spans) ≡ Some (take_at k)
    now h = ⊎_elim (λ low. at_even (omega (arith, low, from))) (λ high. at_odd (omega (arith, high, h))) (nat_cases k (2 * l + 1))

take_none : (all : List Span) (l : ℕ) (spans : List Span) → ((j : ℕ) → span_in all (l + j) ≡ span_in spans j) → ((j : ℕ) → j < 2 * (l + length spans) → is_ready all j ≡ false) → take_from l spans ≡ None
take_none all l [] same none = refl
take_none all l (span ∷ spans) same none =
    ap₂ (λ f b. first_take l f b (take_from (l + 1) spans)) (ready_forth all l span here ∙ none (2 * l) (omega arith)) (ready_back all l span here ∙ none (2 * l + 1) (omega arith))
    ∙ take_none all (l + 1) spans (others_there all _ l span spans same) (λ j below. none j (omega (arith, below)))
  where
    here : span_in all l ≡ span
    here = first_there all _ l span spans same

ready_within : (spans : List Span) (k : ℕ) → is_ready spans k ≡ true → k < 2 * (0 + length spans)
ready_within spans k h = ⊎_elim (λ below. below) (λ past. absurd (false≢true (sym (none (dir_at k) past) ∙ h))) (nat_cases k (2 * (0 + length spans)))
  where
    none : (dir : Dir) → 2 * (0 + length spans) ≤ k → is_some (first_copy dir (span_in spans (k / 2)).link.rows) ≡ false
    none dir past =
        let half : length spans ≤ k / 2 = omega (arith, past) in
        ap (λ (s : Span). is_some (first_copy dir s.link.rows)) (get_or_past spans (k / 2) (record { link = new_link 0; forth = no_lane; back = no_lane }) half)

taken : (spans : List Span) (numbers : List ℕ) → length spans ≤ 128 → Has numbers (is_ready spans) → (lowest : Option ℕ) → IsLowest 512 numbers lowest → take_from 0 spans ≡ option_map take_at lowest
taken spans numbers few is None none = take_none spans 0 spans (same_spans spans) (λ j below. let small : j < 512 = omega (arith, few, below) in sym (is j small) ∙ none j small)
taken spans numbers few is (Some k) lowest =
    let here : is_ready spans k ≡ true = sym (is k lowest.0) ∙ lowest.1 in
    take_found spans 0 spans k (same_spans spans) (omega arith) (ready_within spans k here) here
    (λ j below. let most = lowest.0 in let small : j < 512 = omega (arith, below, most) in sym (is j small) ∙ lowest.2 j below)

-- ---- all

abbrev judge_or : Option End → Option Step → Option Step
judge_or end rest = option_or (option_map (λ (end : End). Judge end.node end.port) end) rest

abbrev put_or : Option End → Option Step → Option Step
put_or end rest = option_or (option_map (λ (end : End). Put end.node end.port) end) rest

pub next_is : (w : World) (list : List Port) (left : Pending) (step : Option Step) → AreTold w.places w.spans list → length w.spans ≤ 128 → ArePending list w.spans left → IsNext left step →
    step ≡ next_step w
next_is w list left step told few pending next = by_held next.held next.lowest next.is
  where
    held : (lowest : Option ℕ) → IsLowest 512 left.held lowest → option_map end_at lowest ≡ find (world.is_held w) (ports_from 0 w.places)
    held lowest l = sym (found w.places (world.is_held w) (is_held list w.spans) left.held told.few (held_test w list told) pending.held lowest l)

    waiting : (lowest : Option ℕ) → IsLowest 512 left.waiting lowest → option_map end_at lowest ≡ find (world.is_waiting w) (ports_from 0 w.places)
    waiting lowest l = sym (found w.places (world.is_waiting w) (is_waiting list w.spans) left.waiting told.few (waiting_test w list told) pending.waiting lowest l)

    by_waiting : (lowest : Option ℕ) → IsLowest 512 left.waiting lowest → IsPutOr left lowest step → step ≡ put_or (find (world.is_waiting w) (ports_from 0 w.places)) (take_from 0 w.spans)
    by_waiting (Some k) l is = is ∙ ap (λ (e : Option End). put_or e (take_from 0 w.spans)) (waiting (Some k) l)
    by_waiting None l is =
        is.2 ∙ sym (taken w.spans left.ready few pending.ready is.0 is.1) ∙ ap (λ (e : Option End). put_or e (take_from 0 w.spans)) (waiting None l)

    by_held : (lowest : Option ℕ) → IsLowest 512 left.held lowest → IsJudgeOr left lowest step → step ≡ next_step w
    by_held (Some k) l is = is ∙ ap (λ (e : Option End). judge_or e (put_or (find (world.is_waiting w) (ports_from 0 w.places)) (take_from 0 w.spans))) (held (Some k) l)
    by_held None l is = by_waiting is.0 is.1 is.2 ∙ ap (λ (e : Option End). judge_or e (put_or (find (world.is_waiting w) (ports_from 0 w.places)) (take_from 0 w.spans))) (held None l)
