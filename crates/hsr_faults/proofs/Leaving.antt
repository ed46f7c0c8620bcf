-- What a fault leaves of the conditions.
use Rattle.std.proofs.Common.{◌≡◌, ◌⊎◌, inl, inr, ℕ, zero, suc, ◌+◌, ◌-◌, ◌<◌, ◌≤◌, ◌==◌, ◌&&◌, nat_lt, nat_le, not, Bool, true, false, if◌then◌else◌, List, [], ◌∷◌, ◌++◌, length, map, filter, take, Option, Some, None, refl, sym, ap, ◌∙◌, subst, arith, ⊎_elim, eqb-true, ltb-true, lt-ltb}
use Rattle.std.specs.Prelude.{slice_get}
use Rattle.std.specs.List.{range_with_len}
use Rattle.std.proofs.lemmas.Bool.{and_from, and_parts, cases_lt, false≢true, le-leb, leb-true}
use Rattle.hsr_topology.specs.declared.end.End.{End}
use Rattle.hsr_scenario.specs.declared.steps.Order.{Order}
use Rattle.hsr_scenario.specs.declared.steps.Order.TheVariants as order
use Rattle.hsr_world_steps.specs.declared.step.Step.TheVariants.{Clock, Send, Supervise, Age, Put, Take, Judge, Cut, Mend, Inject}
use Rattle.hsr_plays.specs.Conditions.{HasRoom, IsBrief, IsClear, IsUncrowded, IsUnwrapped, is_covered_send, is_fine, is_numbered_by_then, is_same_counter, numbers_of}
use Rattle.hsr_plays.specs.Setup.{Setup, net_of}
use Rattle.hsr_plays.specs.Spans.{is_open_at, meets, moment_at, moment_behind, spans, spans_from}
use Rattle.hsr_plays.specs.declared.span.Asked.{Asked}
use Rattle.hsr_plays.specs.declared.span.SendSpan.{SendSpan}
use Rattle.hsr_plays.proofs.Asking.{is_placed}
use Rattle.hsr_faults.specs.Fault.{is_link_off}
use Rattle.hsr_faults.specs.Law.{IsLeft, Leaves, cut_step, stays}
use Rattle.hsr_faults.specs.declared.fault.Fault.{Fault}
use Rattle.hsr_faults.proofs.Thinning.{IsIdle, IsSame, AreSomeOf, Thin, place, place_end, place_got, place_moment, place_rises, some_count, some_got, thin_filter, thin_spans}

-- ---- what is left out

pub idle_step : (links : List (List End)) (fault : Fault) (o : Order) → stays links fault o ≡ false → IsIdle (is_link_off links fault) o
idle_step links fault (order.Step (Clock at)) h = absurd (false≢true (sym h))
idle_step links fault (order.Step (Send node from dst vlan ethertype payload)) h = record { moment = λ m. refl; ends = λ within sent. refl; cut = λ l on was. refl }
idle_step links fault (order.Step (Supervise node about)) h = record { moment = λ m. refl; ends = λ within sent. refl; cut = λ l on was. refl }
idle_step links fault (order.Step (Age node)) h = absurd (false≢true (sym h))
idle_step links fault (order.Step (Put node port)) h = absurd (false≢true (sym h))
idle_step links fault (order.Step (Take link dir)) h = absurd (false≢true (sym h))
idle_step links fault (order.Step (Judge node port)) h = absurd (false≢true (sym h))
idle_step links fault (order.Step (Cut link)) h = absurd (false≢true (sym h))
idle_step links fault (order.Step (Mend link)) h = record { moment = λ m. refl; ends = λ within sent. refl; cut = λ l on was. other l on was (link == l) refl }
  where
    off : (b : Bool) → is_link_off links fault link ≡ b → not b ≡ false → is_link_off links fault link ≡ true
    off true is none = is
    off false is none = absurd (false≢true (sym none))

    other : (l : ℕ) → is_link_off links fault l ≡ false → (was b : Bool) → (link == l) ≡ b → (if link == l then false else was) ≡ was
    other l on was true same = absurd (false≢true (sym on ∙ (sym (ap (is_link_off links fault) (eqb-true link l same)) ∙ off (is_link_off links fault link) refl h)))
    other l on was false same = ap (λ (c : Bool). if c then false else was) same
idle_step links fault (order.Step (Inject link dir octets)) h = absurd (false≢true (sym h))
idle_step links fault order.Drain h = absurd (false≢true (sym h))

-- ---- cuts in front

cut_length : (ls : List ℕ) (ts : List Order) → length (map cut_step ls ++ ts) ≡ length ls + length ts
cut_length [] ts = sym (Rattle.std.proofs.Common.zero-add (length ts))
cut_length (l ∷ ls) ts = let rest = cut_length ls ts in omega (arith, rest)

cut_spans : (ls : List ℕ) (ts : List Order) (within : Option ℕ) (m i : ℕ) → spans_from within m i (map cut_step ls ++ ts) ≡ spans_from within m (i + length ls) ts
cut_spans [] ts within m i = let e : i ≡ i + 0 = omega arith in ap (λ n. spans_from within m n ts) e
cut_spans (l ∷ ls) ts within m i =
    let e : i + 1 + length ls ≡ i + length (l ∷ ls) = omega arith in
    cut_spans ls ts within m (i + 1) ∙ ap (λ n. spans_from within m n ts) e

cut_moment : (ls : List ℕ) (ts : List Order) (m j : ℕ) → moment_behind m (take (length ls + j) (map cut_step ls ++ ts)) ≡ moment_behind m (take j ts)
cut_moment [] ts m j = let e : 0 + j ≡ j = omega arith in ap (λ n. moment_behind m (take n ts)) e
cut_moment (l ∷ ls) ts m j =
    let e : length (l ∷ ls) + j ≡ suc (length ls + j) = omega arith in
    ap (λ n. moment_behind m (take n (map cut_step (l ∷ ls) ++ ts))) e ∙ cut_moment ls ts m j

cut_before : (ls : List ℕ) (ts : List Order) (m n : ℕ) → n ≤ length ls → moment_behind m (take n (map cut_step ls ++ ts)) ≡ m
cut_before ls ts m zero low = refl
cut_before [] ts m (suc n) low = absurd (omega (arith, low))
cut_before (l ∷ ls) ts m (suc n) low = cut_before ls ts m n (omega (arith, low))

pub cut_got : (ls : List ℕ) (ts : List Order) (i : ℕ) (o : Order) → slice_get (map cut_step ls ++ ts) i ≡ Some o → ((l : ℕ) × (cut_step l ≡ o) × (i < length ls)) ⊎ ((j : ℕ) × (i ≡ length ls + j) × (slice_get ts j ≡ Some o))
cut_got [] ts i o got = inr (i, omega arith, got)
cut_got (l ∷ ls) ts zero o got = inl (l, (let e : Some (cut_step l) ≡ Some o = got in cc), omega arith)
cut_got (l ∷ ls) ts (suc i) o got = ⊎_elim
    (λ (cut : (k : ℕ) × (cut_step k ≡ o) × (i < length ls)). let low = cut.2 in inl (cut.0, cut.1, omega (arith, low)))
    (λ (later : (j : ℕ) × (i ≡ length ls + j) × (slice_get ts j ≡ Some o)). let is = later.1 in inr (later.0, omega (arith, is), later.2))
    (cut_got ls ts i o got)

-- ---- the clock

moment_past : (os : List Order) (m n : ℕ) → slice_get os n ≡ None → moment_behind m (take (suc n) os) ≡ moment_behind m (take n os)
moment_past [] m zero none = refl
moment_past [] m (suc n) none = refl
moment_past (o ∷ os) m zero none = absurd (nope none)
  where
    nope : Some o ≡ None → ⊥
    nope e = cc
moment_past (o ∷ os) m (suc n) none = moment_past os _ n none

-- cuts in front of the steps that are left
abbrev pub made : Setup → List ℕ → List Order → Setup
made s ls ts = record s { orders = map cut_step ls ++ ts }

abbrev pub stands : (s : Setup) (ls : List ℕ) (ts : List Order) (off : ℕ → Bool) → Thin off s.orders ts → ℕ → ℕ
stands s ls ts off t n = place off s.orders ts t (n - length ls)

module _ (s : Setup) (clear : IsClear s) where
  next_moment : (n : ℕ) → moment_at s.orders n ≤ moment_at s.orders (suc n)
  next_moment n = by_step (slice_get s.orders n) refl
    where
      by_step : (o : Option Order) → slice_get s.orders n ≡ o → moment_at s.orders n ≤ moment_at s.orders (suc n)
      by_step (Some o) is =
          let e : n + 1 ≡ suc n = omega arith in
          subst (λ k. moment_at s.orders n ≤ moment_at s.orders k) e (clear.not_back n o is)
      by_step None is = let same = moment_past s.orders 0 n is in omega (arith, same)

  later_moment : (n d : ℕ) → moment_at s.orders n ≤ moment_at s.orders (n + d)
  later_moment n zero = let e : n ≡ n + 0 = omega arith in let same = ap (moment_at s.orders) e in omega (arith, same)
  later_moment n (suc d) =
      let e : n + suc d ≡ suc (n + d) = omega arith in
      let same = ap (moment_at s.orders) e in
      let more = next_moment (n + d) in
      let rest = later_moment n d in
      omega (arith, same, more, rest)

  moment_rises : (n k : ℕ) → n ≤ k → moment_at s.orders n ≤ moment_at s.orders k
  moment_rises n k up =
      let e : n + (k - n) ≡ k = omega (arith, up) in
      subst (λ j. moment_at s.orders n ≤ moment_at s.orders j) e (later_moment n (k - n))

  module _ (ls : List ℕ) (ts : List Order) (off : ℕ → Bool) (t : Thin off s.orders ts) where
    rise : (j k : ℕ) → length ls ≤ j → j < k → stands s ls ts off t j < stands s ls ts off t k
    rise j k low up = place_rises off s.orders ts t (j - length ls) (k - length ls) (omega (arith, low, up))

    pub rise_or_same : (j k : ℕ) → length ls ≤ j → j ≤ k → stands s ls ts off t j ≤ stands s ls ts off t k
    rise_or_same j k low up = ⊎_elim
        (λ (less : j < k). let more = rise j k low less in omega (arith, more))
        (λ over. let e : j ≡ k = omega (arith, up, over) in let same = ap (stands s ls ts off t) e in omega (arith, same))
        (cases_lt j k)

    moment_is : (j : ℕ) → length ls ≤ j → moment_at (map cut_step ls ++ ts) j ≡ moment_at s.orders (stands s ls ts off t j)
    moment_is j low =
        let e : j ≡ length ls + (j - length ls) = omega (arith, low) in
        ap (λ n. moment_behind 0 (take n (map cut_step ls ++ ts))) e ∙ (cut_moment ls ts 0 (j - length ls) ∙ place_moment off s.orders ts t 0 (j - length ls))

    pub sub : AreSomeOf (length ls) (stands s ls ts off t) (spans s) (spans (made s ls ts))
    sub =
        subst (λ (xs : List SendSpan). AreSomeOf (length ls) (stands s ls ts off t) (spans s) xs) (sym (cut_spans ls ts s.within 0 0))
        (thin_spans off s.orders ts t s.within 0 (0 + length ls) 0 (length ls) (stands s ls ts off t) (omega arith) at)
      where
        at : (n : ℕ) → stands s ls ts off t (0 + length ls + n) ≡ 0 + place off s.orders ts t n
        at n =
            let e : 0 + length ls + n - length ls ≡ n = omega arith in
            let same = ap (place off s.orders ts t) e in
            omega (arith, same)

    meets_too : (a b : SendSpan) → IsSame (length ls) (stands s ls ts off t) a b → (x y : SendSpan) → IsSame (length ls) (stands s ls ts off t) x y → meets b y ≡ true → meets a x ≡ true
    meets_too a b ab x y xy is =
        let parts = and_parts (nat_lt b.index y.end) (nat_lt y.index b.end) is in
        let first = rise b.index y.end ab.low (ltb-true b.index y.end parts.0) in
        let second = rise y.index b.end xy.low (ltb-true y.index b.end parts.1) in
        let a_index = ab.index in
        let a_end = ab.end in
        let x_index = xy.index in
        let x_end = xy.end in
        and_from (nat_lt a.index x.end) (nat_lt x.index a.end) (lt-ltb a.index x.end (omega (arith, first, a_index, x_end))) (lt-ltb x.index a.end (omega (arith, second, x_index, a_end)))

    open_too : (a b : SendSpan) → IsSame (length ls) (stands s ls ts off t) a b → (x y : SendSpan) → IsSame (length ls) (stands s ls ts off t) x y → is_open_at (b.index + 1) y ≡ true → is_open_at (a.index + 1) x ≡ true
    open_too a b ab x y xy is =
        let parts = and_parts (nat_lt y.index (b.index + 1)) (nat_le (b.index + 1) y.end) is in
        let low = ltb-true y.index (b.index + 1) parts.0 in
        let high = leb-true (b.index + 1) y.end parts.1 in
        let first = rise_or_same y.index b.index xy.low (omega (arith, low)) in
        let second = rise b.index y.end ab.low (omega (arith, high)) in
        let a_index = ab.index in
        let x_index = xy.index in
        let x_end = xy.end in
        and_from (nat_lt x.index (a.index + 1)) (nat_le (a.index + 1) x.end) (lt-ltb x.index (a.index + 1) (omega (arith, first, a_index, x_index))) (le-leb (a.index + 1) x.end (omega (arith, second, a_index, x_end)))

    numbered_too : (a b : SendSpan) → IsSame (length ls) (stands s ls ts off t) a b → (x y : SendSpan) → IsSame (length ls) (stands s ls ts off t) x y → is_numbered_by_then (net_of s) b y ≡ true → is_numbered_by_then (net_of s) a x ≡ true
    numbered_too a b ab x y xy is =
        let parts = and_parts (is_same_counter (numbers_of (net_of s) b.asked.node) (numbers_of (net_of s) y.asked.node)) (nat_le y.index b.index) is in
        let up = rise_or_same y.index b.index xy.low (leb-true y.index b.index parts.1) in
        let a_index = ab.index in
        let x_index = xy.index in
        and_from (is_same_counter (numbers_of (net_of s) a.asked.node) (numbers_of (net_of s) x.asked.node)) (nat_le x.index a.index)
        (ap (λ (k : Asked). is_same_counter (numbers_of (net_of s) k.node) (numbers_of (net_of s) x.asked.node)) ab.asked
        ∙ (ap (λ (k : Asked). is_same_counter (numbers_of (net_of s) b.asked.node) (numbers_of (net_of s) k.node)) xy.asked ∙ parts.0))
        (le-leb x.index a.index (omega (arith, up, a_index, x_index)))

    -- no span ends at the last step of all that are left unless it doesn't end
    ended : (i : ℕ) (b : SendSpan) → slice_get (spans (made s ls ts)) i ≡ Some b → b.end < length (map cut_step ls ++ ts)
    ended i b got =
        let found = some_got (length ls) (stands s ls ts off t) (spans s) (spans (made s ls ts)) sub i b got in
        let a = found.1 in
        let a_end = clear.ended found.0 found.1 found.2 in
        let same = found.3.end in
        let inside = (is_placed s.within (map cut_step ls ++ ts) i b got).inside in
        ⊎_elim
        (λ (less : b.end < length (map cut_step ls ++ ts)). less)
        (λ over.
        let long = cut_length ls ts in
        let e : b.end - length ls ≡ length ts = omega (arith, inside, over, long) in
        let last = ap (place off s.orders ts t) e in
        let all = place_end off s.orders ts t in
        absurd (omega (arith, a_end, same, last, all)))
        (cases_lt b.end (length (map cut_step ls ++ ts)))

    fine : (i : ℕ) (o : Order) → slice_get (map cut_step ls ++ ts) i ≡ Some o → is_fine o ≡ false
    fine i o got = ⊎_elim
        (λ (cut : (l : ℕ) × (cut_step l ≡ o) × (i < length ls)). ap is_fine (sym cut.1))
        (λ (later : (j : ℕ) × (i ≡ length ls + j) × (slice_get ts j ≡ Some o)). clear.fine (place off s.orders ts t later.0) o (place_got off s.orders ts t later.0 o later.2))
        (cut_got ls ts i o got)

    not_back : (i : ℕ) (o : Order) → slice_get (map cut_step ls ++ ts) i ≡ Some o → moment_at (map cut_step ls ++ ts) i ≤ moment_at (map cut_step ls ++ ts) (i + 1)
    not_back i o got = ⊎_elim
        (λ (cut : (l : ℕ) × (cut_step l ≡ o) × (i < length ls)).
        let low = cut.2 in
        let first = cut_before ls ts 0 i (omega (arith, low)) in
        let second = cut_before ls ts 0 (i + 1) (omega (arith, low)) in
        omega (arith, first, second))
        (λ (later : (j : ℕ) × (i ≡ length ls + j) × (slice_get ts j ≡ Some o)).
        let is = later.1 in
        let first = moment_is i (omega (arith, is)) in
        let second = moment_is (i + 1) (omega (arith, is)) in
        let up = rise i (i + 1) (omega (arith, is)) (omega arith) in
        let more = moment_rises (stands s ls ts off t i) (stands s ls ts off t (i + 1)) (omega (arith, up)) in
        omega (arith, first, second, more))
        (cut_got ls ts i o got)

    brief : (i : ℕ) (b : SendSpan) → slice_get (spans (made s ls ts)) i ≡ Some b → IsBrief (made s ls ts) b
    brief i b got =
        let found = some_got (length ls) (stands s ls ts off t) (spans s) (spans (made s ls ts)) sub i b got in
        let held = clear.brief found.0 found.1 found.2 in
        let low = found.3.low in
        let a_index = found.3.index in
        let a_end = found.3.end in
        λ j k first j_end up last.
        let rises = rise b.index j low first in
        let to_end = rise_or_same j b.end (omega (arith, low, first)) j_end in
        let on = rise_or_same j k (omega (arith, low, first)) up in
        let k_end = rise_or_same k b.end (omega (arith, low, first, up)) last in
        let at_j = moment_is j (omega (arith, low, first)) in
        let at_k = moment_is k (omega (arith, low, first, up)) in
        let less = held (stands s ls ts off t j) (stands s ls ts off t k) (omega (arith, rises, a_index)) (omega (arith, to_end, a_end)) on (omega (arith, k_end, a_end)) in
        omega (arith, at_j, at_k, less)

    uncrowded : (i : ℕ) (b : SendSpan) → slice_get (spans (made s ls ts)) i ≡ Some b → IsUncrowded (made s ls ts) b
    uncrowded i b got =
        let found = some_got (length ls) (stands s ls ts off t) (spans s) (spans (made s ls ts)) sub i b got in
        let held = clear.uncrowded found.0 found.1 found.2 in
        let few = some_count (length ls) (stands s ls ts off t) (meets found.1) (meets b) (λ x y xy is. meets_too found.1 b found.3 x y xy is) (spans s) (spans (made s ls ts)) sub in
        omega (arith, held, few)

    unwrapped : (i : ℕ) (b : SendSpan) → slice_get (spans (made s ls ts)) i ≡ Some b → IsUnwrapped (made s ls ts) b
    unwrapped i b got =
        let found = some_got (length ls) (stands s ls ts off t) (spans s) (spans (made s ls ts)) sub i b got in
        let held = clear.unwrapped found.0 found.1 found.2 in
        let few = some_count (length ls) (stands s ls ts off t) (is_numbered_by_then (net_of s) found.1) (is_numbered_by_then (net_of s) b) (λ x y xy is. numbered_too found.1 b found.3 x y xy is) (spans s) (spans (made s ls ts)) sub in
        omega (arith, held, few)

    room : (i : ℕ) (b : SendSpan) → slice_get (spans (made s ls ts)) i ≡ Some b → HasRoom (made s ls ts) b
    room i b got =
        let found = some_got (length ls) (stands s ls ts off t) (spans s) (spans (made s ls ts)) sub i b got in
        let held = clear.room found.0 found.1 found.2 in
        let few = some_count (length ls) (stands s ls ts off t) (is_open_at (found.1.index + 1)) (is_open_at (b.index + 1)) (λ x y xy is. open_too found.1 b found.3 x y xy is) (spans s) (spans (made s ls ts)) sub in
        omega (arith, held, few)

    covered : (i : ℕ) (b : SendSpan) → slice_get (spans (made s ls ts)) i ≡ Some b → is_covered_send (net_of s) b ≡ true
    covered i b got =
        let found = some_got (length ls) (stands s ls ts off t) (spans s) (spans (made s ls ts)) sub i b got in
        let a : SendSpan = found.1 in
        ap (λ (k : Asked). is_covered_send (net_of s) (record a { asked = k })) (sym found.3.asked) ∙ clear.covered found.0 found.1 found.2

    pub left_of : IsLeft (made s ls ts)
    left_of = record {
      fine = fine;
      ended = ended;
      network = clear.network;
      not_back = not_back;
      brief = brief;
      uncrowded = uncrowded;
      unwrapped = unwrapped;
      covered = covered;
      room = room;
    }

pub leaves : Leaves
leaves s fault clear =
    left_of s clear (filter (is_link_off s.links fault) (range_with_len 0 (length s.links))) (filter (stays s.links fault) s.orders) (is_link_off s.links fault) (thin_filter (is_link_off s.links fault) (stays s.links fault) (idle_step s.links fault) s.orders)
