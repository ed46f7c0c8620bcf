-- A play has few moves: each send is put, taken and judged at most once in each direction of each link.
use Rattle.std.proofs.Common.{◌≡◌, ◌⊎◌, ℕ, ◌+◌, ◌*◌, ◌<◌, ◌≤◌, ◌==◌, ◌&&◌, nat_lt, not, Bool, true, false, cond, if◌then◌else◌, List, [], ◌∷◌, ◌++◌, length, take, count_by, filter_map, Option, Some, None, refl, sym, ap, ◌∙◌, subst, arith, ⊎_elim, zero, suc, lt-ltb, ltb-true, mul_assoc, mul_comm, suc-mul}
use Rattle.std.specs.Prelude.{sum_by}
use Rattle.std.specs.List.{AllByRecursion, cons_option, list_any}
use Rattle.std.proofs.lemmas.Bool.{and_from, cases_Bool, false≢true, or_parts}
use Rattle.std.proofs.lemmas.List.Sums.{sum_by-append, sum_by-cons}
use Rattle.hsr_node.specs.declared.event.Carried.{Carried}
use Rattle.hsr_node.specs.declared.event.Probe.{Probe}
use Rattle.hsr_link.specs.Rows.{is_same_dir, is_taken, put_copies, put_copy}
use Rattle.hsr_link.specs.declared.row.Dir.{Dir}
use Rattle.hsr_link.specs.declared.row.Dir.TheVariants.{Forth, Back}
use Rattle.hsr_link.specs.declared.row.Row.{Row}
use Rattle.hsr_run_laws.specs.Closed.{IsOfSend}
use Rattle.hsr_run_laws.specs.Once.{is_copy}
use Rattle.hsr_run_laws.specs.Run.{is_of}
use Rattle.hsr_run_laws.proofs.Lists.{all_weaker, count_more, one_if, zero_if}
use Rattle.hsr_run_laws.proofs.Pigeon.{pigeon}
use Rattle.hsr_scenario.specs.declared.steps.Order.{Order}
use Rattle.hsr_scenario.specs.declared.steps.Order.TheVariants as order
use Rattle.hsr_world_laws.specs.Origin.{InSpan, has_injected, is_injected}
use Rattle.hsr_world_laws.specs.Spans.{Span, lane_of}
use Rattle.hsr_world_laws.specs.World.{World, span_at, span_in}
use Rattle.hsr_world_laws.proofs.Counts.{count_append}
use Rattle.hsr_world_steps.specs.declared.step.Step.TheVariants.{Clock, Send, Supervise, Age, Put, Take, Judge, Cut, Mend, Inject}
use Rattle.hsr_plays.specs.Conditions.{IsClear}
use Rattle.hsr_plays.specs.Law.{MovesAreFew, is_send, run_in}
use Rattle.hsr_plays.specs.Setup.{Setup, asked_by}
use Rattle.hsr_plays.specs.Spans.{end_from, moment_after, span_if, spans, spans_from}
use Rattle.hsr_plays.specs.declared.span.Asked.{Asked}
use Rattle.hsr_plays.specs.declared.span.SendSpan.{SendSpan}
use Rattle.hsr_plays.proofs.Open.{open_parts}
use Rattle.hsr_under_way.specs.StepsOn.{IsBalanced, hands_of, judged_in, moves_in, rows_moved, taken_of}
use Rattle.hsr_play_laws.specs.Told.{IsTold}
use Rattle.hsr_play_laws.proofs.Ending.{asked_now}
use Rattle.hsr_play_laws.proofs.OneSpan.{IsNamed, all_apart, is_span_of, listed_any, tested}
use Rattle.hsr_play_laws.proofs.Worlds.{copies, links_are}
use Rattle.hsr_play_laws.proofs.Remembers.{once_now}
use Rattle.hsr_play_laws.proofs.Room.{in_spans_at, own_at}
use Rattle.hsr_play_laws.proofs.Told.{tells_all}

-- ---- sends so far

-- a step that is no send has no span, and one that is one has one
asked_send : (o : Order) → Rattle.std.specs.Prelude.is_some (asked_by o) ≡ is_send o
asked_send (order.Step (Clock at)) = refl
asked_send (order.Step (Send node from dst vlan ethertype payload)) = refl
asked_send (order.Step (Supervise node about)) = refl
asked_send (order.Step (Age node)) = refl
asked_send (order.Step (Put node port)) = refl
asked_send (order.Step (Take link dir)) = refl
asked_send (order.Step (Judge node port)) = refl
asked_send (order.Step (Cut link)) = refl
asked_send (order.Step (Mend link)) = refl
asked_send (order.Step (Inject link dir octets)) = refl
asked_send order.Drain = refl

abbrev before : ℕ → SendSpan → Bool
before time span = nat_lt span.index time

none_before : (within : Option ℕ) (moment index time : ℕ) (orders : List Order) → time ≤ index → count_by (before time) (spans_from within moment index orders) ≤ 0
none_before within moment index time [] low = omega arith
none_before within moment index time (o ∷ later) low = by_asked (asked_by o) (none_before within (moment_after moment o) (index + 1) time later (omega (arith, low)))
  where
    by_asked : (a : Option Asked) → count_by (before time) (spans_from within (moment_after moment o) (index + 1) later) ≤ 0 →
        count_by (before time) (span_if within moment index later a ++ spans_from within (moment_after moment o) (index + 1) later) ≤ 0
    by_asked None rest = rest
    by_asked (Some a) rest =
        let more = count_more (before time) (record { asked = a; index = index; moment = moment; end = end_from within moment (index + 1) later }) (spans_from within (moment_after moment o) (index + 1) later) in
        ⊎_elim (λ yes. let less = ltb-true index time yes in absurd (omega (arith, less, low))) (λ no. let none = zero_if (nat_lt index time) no in omega (arith, rest, more, none)) (cases_Bool (nat_lt index time))

few_before : (within : Option ℕ) (moment index t : ℕ) (orders : List Order) → count_by (before (index + t)) (spans_from within moment index orders) ≤ count_by is_send (take t orders)
few_before within moment index zero orders = let none = none_before within moment index (index + 0) orders (omega arith) in omega (arith, none)
few_before within moment index (suc t) [] = omega arith
few_before within moment index (suc t) (o ∷ later) =
    let e : index + suc t ≡ index + 1 + t = omega arith in
    let rest : count_by (before (index + suc t)) (spans_from within (moment_after moment o) (index + 1) later) ≤ count_by is_send (take t later) =
    subst (λ m. count_by (before m) (spans_from within (moment_after moment o) (index + 1) later) ≤ count_by is_send (take t later)) (sym e) (few_before within (moment_after moment o) (index + 1) t later) in
    by_asked (asked_by o) (asked_send o) rest
  where
    at_most : (b : Bool) → cond {A = ℕ} b 1 0 ≤ 1
    at_most true = omega arith
    at_most false = omega arith

    by_asked : (a : Option Asked) → Rattle.std.specs.Prelude.is_some a ≡ is_send o → count_by (before (index + suc t)) (spans_from within (moment_after moment o) (index + 1) later) ≤ count_by is_send (take t later) →
        count_by (before (index + suc t)) (span_if within moment index later a ++ spans_from within (moment_after moment o) (index + 1) later) ≤ count_by is_send (o ∷ take t later)
    by_asked None is rest = let more = count_more is_send o (take t later) in omega (arith, rest, more)
    by_asked (Some a) is rest =
        let more = count_more is_send o (take t later) in
        let one = one_if (is_send o) (sym is) in
        let first = count_more (before (index + suc t)) (record { asked = a; index = index; moment = moment; end = end_from within moment (index + 1) later }) (spans_from within (moment_after moment o) (index + 1) later) in
        let most = at_most (nat_lt index (index + suc t)) in
        omega (arith, rest, more, one, first, most)

-- ---- rows

-- each row that was put is of one direction
split_rows : (rows : List Row) → list_any (λ (row : Row). row.injected) rows ≡ false → length rows ≡ length (put_copies Forth rows) + length (put_copies Back rows)
split_rows [] own = refl
split_rows (row ∷ rows) own =
    let parts = or_parts row.injected (list_any (λ (r : Row). r.injected) rows) own in
    let rest = split_rows rows parts.1 in
    let one = by_dir row.dir row.injected parts.0 in
    omega (arith, rest, one)
  where
    by_dir : (d : Dir) (i : Bool) → i ≡ false →
        length (cons_option (if is_same_dir Forth d && not i then Some row.carried else None) (put_copies Forth rows)) + length (cons_option (if is_same_dir Back d && not i then Some row.carried else None) (put_copies Back rows))
        ≡ length (put_copies Forth rows) + length (put_copies Back rows) + 1
    by_dir d true is = absurd (false≢true (sym is))
    by_dir Forth false is = omega arith
    by_dir Back false is = omega arith

put_all : (P : Carried → Type 0) (dir : Dir) (rows : List Row) → AllByRecursion (λ (row : Row). P row.carried) rows → AllByRecursion P (put_copies dir rows)
put_all P dir [] all = tt
put_all P dir (row ∷ rows) all = by_copy (put_copy dir row) refl (put_all P dir rows all.1)
  where
    by_test : (b : Bool) (o : Option Carried) → (if b then Some row.carried else None) ≡ o → AllByRecursion P (put_copies dir rows) → AllByRecursion P (cons_option o (put_copies dir rows))
    by_test true (Some c) is rest = let same : row.carried ≡ c = let e : Some row.carried ≡ Some c = is in cc in (subst P same all.0, rest)
    by_test true None is rest = rest
    by_test false None is rest = rest
    by_test false (Some c) is rest = absurd cc

    by_copy : (o : Option Carried) → put_copy dir row ≡ o → AllByRecursion P (put_copies dir rows) → AllByRecursion P (cons_option o (put_copies dir rows))
    by_copy o is rest = by_test (Rattle.hsr_link.specs.Rows.goes dir row && not row.injected) o is rest

taken_most : (rows : List Row) → count_by (λ (row : Row). is_taken row.fate) rows ≤ length rows
taken_most [] = omega arith
taken_most (row ∷ rows) =
    let more = count_more (λ (r : Row). is_taken r.fate) row rows in
    let rest = taken_most rows in
    ⊎_elim (λ yes. let one = one_if (is_taken row.fate) yes in omega (arith, more, rest, one)) (λ no. let none = zero_if (is_taken row.fate) no in omega (arith, more, rest, none)) (cases_Bool (is_taken row.fate))

-- ---- sums

add_up : (s first rest some all most : ℕ) → s ≡ first + rest → rest ≤ some → first ≤ most → all ≡ some + most → s ≤ all
add_up s first rest some all most a b c e = omega arith

in_all : (n rows taken judged hands sum some all : ℕ) → n ≡ rows + judged → sum ≡ rows + taken → sum ≤ some → judged + hands ≡ taken → some ≡ all → n ≤ all
in_all n rows taken judged hands sum some all a b c d e = omega arith

sum_most : {X : Type 0} (f : X → ℕ) (most : ℕ) (xs : List X) → AllByRecursion (λ x. f x ≤ most) xs → sum_by f xs ≤ length xs * most
sum_most f most [] all = omega arith
sum_most f most (x ∷ xs) all =
    add_up (sum_by f (x ∷ xs)) (f x) (sum_by f xs) (length xs * most) (length (x ∷ xs) * most) most (sum_by-cons f x xs) (sum_most f most xs all.1) all.0 (suc-mul (length xs) most)

sum_both : {X : Type 0} (f g : X → ℕ) (xs : List X) → sum_by (λ x. f x + g x) xs ≡ sum_by f xs + sum_by g xs
sum_both f g [] = refl
sum_both f g (x ∷ xs) =
    let a = sum_by-cons (λ x. f x + g x) x xs in
    let b = sum_by-cons f x xs in
    let c = sum_by-cons g x xs in
    let rest = sum_both f g xs in
    omega (arith, a, b, c, rest)

-- ---- a world of a play

module _ (s : Setup) (clear : IsClear s) (time n : ℕ) (w : World) (told : IsTold s time n w) where
  record IsBefore (copy : Carried) : Type 0 where
    named : IsNamed s w copy.probe
    listed : list_any (λ y. is_span_of s w copy.probe y && before time y) (spans s) ≡ true

  is_before : (copy : Carried) → IsOfSend (run_in s w) copy → IsBefore copy
  is_before copy o =
      let a = asked_now s clear time n w told o.send o.sending o.is_send in
      let is = a.is in
      let of_it = is.is in
      let low = a.low in
      let p = open_parts a.time is.span is.open_then in
      let named : IsNamed s w copy.probe = record { of_send = o.send; named = o.named; main = is.main } in
      record {
        named = named;
        listed = listed_any (λ y. is_span_of s w copy.probe y && before time y) (spans s) of_it.at is.span of_it.listed
            (and_from (is_span_of s w copy.probe is.span) (before time is.span) (ap (λ q. is_span_of s w q is.span) o.named ∙ tested s w o.send is.span of_it) (lt-ltb is.span.index time (omega (arith, p, low))));
      }

  -- a direction carried no more copies than sends were asked for
  few_put : (l : ℕ) (dir : Dir) → l < length w.spans → length (put_copies dir (span_at w l).link.rows) ≤ count_by is_send (take time s.orders)
  few_put l dir below =
      let rows = (span_at w l).link.rows in
      let here = in_spans_at (IsOfSend (run_in s w)) w.spans l below (copies s w told.own).spans in
      let all = all_weaker (IsOfSend (run_in s w)) IsBefore (put_copies dir (span_at w l).link.rows) is_before (put_all (IsOfSend (run_in s w)) dir (span_at w l).link.rows here.rows) in
      let apart = all_apart s w {X = Carried} (λ c. c.probe) (put_copies dir (span_at w l).link.rows) (all_weaker IsBefore (λ (c : Carried). IsNamed s w c.probe) (put_copies dir (span_at w l).link.rows) (λ c o. o.named) all) once in
      let most = pigeon (λ (c : Carried) (y : SendSpan). is_span_of s w c.probe y) (before time) (put_copies dir (span_at w l).link.rows) (spans s) apart
      (all_weaker IsBefore (λ (c : Carried). list_any (λ y. is_span_of s w c.probe y && before time y) (spans s) ≡ true) (put_copies dir (span_at w l).link.rows) (λ c o. o.listed) all) in
      let few : count_by (before (0 + time)) (spans s) ≤ count_by is_send (take time s.orders) = few_before s.within 0 0 time s.orders in
      let e : 0 + time ≡ time = omega arith in
      let so = ap (λ m. count_by (before m) (spans s)) e in
      omega (arith, most, few, so)
    where
      once : (send : Probe) → count_by (λ (c : Carried). is_of send c.probe) (put_copies dir (span_at w l).link.rows) ≤ 1
      once send =
          let both = once_now s clear time n w told l dir send below in
          let sum = count_append (is_copy send) (put_copies dir (span_at w l).link.rows) (lane_of dir (span_at w l)).outbox in
          let all : count_by (is_copy send) (put_copies dir (span_at w l).link.rows) ≤ 1 = omega (arith, both, sum) in
          all

  few_rows : (l : ℕ) → l < length w.spans → rows_moved (span_at w l) + taken_of (span_at w l) ≤ 6 * count_by is_send (take time s.orders)
  few_rows l below =
      let forth = few_put l Forth below in
      let back = few_put l Back below in
      let split = split_rows (span_at w l).link.rows (own_at w.spans l told.own.own) in
      let taken = taken_most (span_at w l).link.rows in
      omega (arith, forth, back, split, taken)

  all_few : (spans : List Span) → ((l : ℕ) → l < length spans → rows_moved (span_in spans l) + taken_of (span_in spans l) ≤ 6 * count_by is_send (take time s.orders)) →
      AllByRecursion (λ (x : Span). rows_moved x + taken_of x ≤ 6 * count_by is_send (take time s.orders)) spans
  all_few [] few = tt
  all_few (x ∷ xs) few = (few zero (omega arith), all_few xs (λ l below. few (suc l) (omega (arith, below))))

  pub few_moves : n ≤ length s.links * (6 * count_by is_send (take time s.orders))
  few_moves =
      in_all n (sum_by rows_moved w.spans) (sum_by taken_of w.spans) (sum_by judged_in w.records) (sum_by hands_of w.spans) (sum_by (λ (x : Span). rows_moved x + taken_of x) w.spans)
      (length w.spans * (6 * count_by is_send (take time s.orders))) (length s.links * (6 * count_by is_send (take time s.orders)))
      told.moves (sum_both rows_moved taken_of w.spans)
      (sum_most (λ (x : Span). rows_moved x + taken_of x) (6 * count_by is_send (take time s.orders)) w.spans (all_few w.spans few_rows)) told.balanced
      (ap (λ m. m * (6 * count_by is_send (take time s.orders))) (links_are s w told.own))

pub moves_are_few : MovesAreFew
moves_are_few s done later n w setup clear played =
    let told = tells_all s done later n w setup clear played in
    let few = few_moves s clear (length done) n w told in
    let same : take (length done) s.orders ≡ done = ap (take (length done)) played.whole ∙ front done later in
    let so = ap (λ (xs : List Order). length s.links * (6 * count_by is_send xs)) same in
    let e : length s.links * (6 * count_by is_send done) ≡ 6 * length s.links * count_by is_send done = product (length s.links) (count_by is_send done) in
    subst (λ m. n ≤ m) (so ∙ e) few
  where
    front : (xs ys : List Order) → take (length xs) (xs ++ ys) ≡ xs
    front [] ys = refl
    front (x ∷ xs) ys = ap (λ (zs : List Order). x ∷ zs) (front xs ys)

    product : (a b : ℕ) → a * (6 * b) ≡ 6 * a * b
    product a b = sym (mul_assoc a 6 b) ∙ ap (λ (m : ℕ). m * b) (mul_comm a 6)
