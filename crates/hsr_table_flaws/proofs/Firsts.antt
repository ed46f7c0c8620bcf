-- The first places of a record, and of all records.
use Rattle.std.proofs.Common.{◌≡◌, ℕ, ◌+◌, ◌<◌, ◌≤◌, Bool, true, false, if◌then◌else◌, List, ◌∷◌, length, reverse, take, slice_index_or, Option, Some, None, sym, ap, ◌∙◌, subst, arith, ⊎_elim}
use Rattle.std.specs.Option.{option_or}
use Rattle.std.proofs.lemmas.Bool.{cases_lt, false≢true}
use Rattle.hsr_node.specs.Record.{now}
use Rattle.hsr_node.specs.declared.entry.Entry.{Entry}
use Rattle.hsr_run_laws.specs.Premises.{KnowsOwn, NothingForgotten, NothingMistaken, Remembers}
use Rattle.hsr_run_laws.specs.Run.{Run, owner_of, place_of, record_of}
use Rattle.hsr_finished_run.proofs.Places.{each_from, here_is, no_entry, past_more, past_with}
use Rattle.hsr_table_flaws.specs.Flaws.{ClearBelow, IsFirstAt, IsFirstNot, IsFirstPlace, IsFirstPlaceOf, IsInTimeAt, KnowsOwnAt, NoneBelow, RemembersAt, Test, first_after, test_at}
use Rattle.hsr_table_flaws.specs.Looked.{IsLogOf, IsLoggedAfter, came_in, forgets_by, forgets_of, is_late_by, lates_of, mistakes_by, mistakes_of, moment_of, read_by}
use Rattle.hsr_table_flaws.specs.declared.log.Log.{Log}
use Rattle.hsr_node.specs.declared.event.Probe.{Probe}
use Rattle.hsr_network_laws.specs.Late.{NothingLate, is_numbered_late}
use Rattle.hsr_table_flaws.proofs.Logging.{forgets_same, late_same, log_more, mistakes_same}
use Rattle.hsr_table_flaws.proofs.Judging.{forgotten, knows_own, mistaken, remembers}

-- ---- one record

none_more : (test : Test) (run : Run) (k n : ℕ) → NoneBelow test run k n → test_at test run k n ≡ false → NoneBelow test run k (n + 1)
none_more test run k n before here i low =
    ⊎_elim (λ lower. before i lower)
    (λ high. let same : i ≡ n = omega (arith, low, high) in ap (test_at test run k) same ∙ here)
    (cases_lt i n)

pub first_more : (test : Test) (run : Run) (k n : ℕ) (first : Option ℕ) (b : Bool) → b ≡ test_at test run k n → IsFirstAt test run k n first →
    IsFirstAt test run k (n + 1) (option_or first (if b then Some n else None))
first_more test run k n (Some i) b is f = record { below = let low = f.below in omega (arith, low); here = f.here; before = f.before }
first_more test run k n None true is none = record { below = omega arith; here = sym is; before = none }
first_more test run k n None false is none = none_more test run k n none (sym is)

-- ---- one more entry

module _ (run : Run) (k i : ℕ) (x : Entry) (below : i < length (record_of run k)) (x_is : x ≡ slice_index_or (record_of run k) i x) where
  abbrev before : List Entry
  before = reverse (take i (record_of run k))

  more_is : reverse (take (i + 1) (record_of run k)) ≡ x ∷ reverse (take i (record_of run k))
  more_is = past_with (record_of run k) i x below x_is

  pub walk_more : (old new : Log) (here : Probe) → here ≡ record { node = k; place = i } → IsLogOf (owner_of run k) (reverse (take i (record_of run k))) old →
      IsLoggedAfter old (place_of run k) here x new → IsLogOf (owner_of run k) (reverse (take (i + 1) (record_of run k))) new
  walk_more old new here at_here is after =
      let P : List Entry → Type 0 = λ past. IsLogOf (owner_of run k) past new in
      subst P (sym more_is) (log_more (owner_of run k) before old new here x is (here_is (record_of run k) k i here below at_here) after)

  pub walk_forgets : (old : Log) (here : Probe) → here ≡ record { node = k; place = i } → IsLogOf (owner_of run k) (reverse (take i (record_of run k))) old →
      forgets_by run.capacity old (read_by old (place_of run k) here x) (moment_of old x) ≡ test_at forgets_of run k i
  walk_forgets old here at_here is =
      forgets_same run.capacity (owner_of run k) before old here x is (here_is (record_of run k) k i here below at_here) ∙ sym (ap (forgets_of run.capacity (owner_of run k)) more_is)

  pub walk_mistakes : (old : Log) (here : Probe) → here ≡ record { node = k; place = i } → IsLogOf (owner_of run k) (reverse (take i (record_of run k))) old →
      mistakes_by run.capacity old (read_by old (place_of run k) here x) (came_in x.event) (moment_of old x) ≡ test_at mistakes_of run k i
  walk_mistakes old here at_here is =
      mistakes_same run.capacity (owner_of run k) before old here x is (here_is (record_of run k) k i here below at_here) ∙ sym (ap (mistakes_of run.capacity (owner_of run k)) more_is)

  pub walk_late : (old : Log) → IsLogOf (owner_of run k) (reverse (take i (record_of run k))) old → is_late_by old x.event x.outcome ≡ test_at lates_of run k i
  walk_late old is = late_same (owner_of run k) before old is x ∙ sym (ap (lates_of run.capacity (owner_of run k)) more_is)

-- ---- all records

clear_more : (test : Test) (run : Run) (n : ℕ) → ClearBelow test run n → NoneBelow test run n (length (record_of run n)) → ClearBelow test run (n + 1)
clear_more test run n before here k low =
    ⊎_elim (λ lower. before k lower)
    (λ high.
    let same : n ≡ k = omega (arith, low, high) in
    let P : ℕ → Type 0 = λ m. NoneBelow test run m (length (record_of run m)) in
    subst P same here)
    (cases_lt k n)

pub place_more : (test : Test) (run : Run) (n : ℕ) (first : Option (ℕ × ℕ)) (here : Option ℕ) → IsFirstAt test run n (length (record_of run n)) here → IsFirstPlaceOf test run n first →
    IsFirstPlaceOf test run (n + 1) (first_after first n here)
place_more test run n (Some at) here found f = record { node = let low = f.node in omega (arith, low); first = f.first; nodes = f.nodes }
place_more test run n None None found clear = clear_more test run n clear found
place_more test run n None (Some i) found clear = record { node = omega arith; first = found; nodes = clear }

-- ---- what the tests tell

module _ (run : Run) where
  test_there : (test : Test) (k i : ℕ) (d : Entry) → i < length (record_of run k) →
      test_at test run k i ≡ test run.capacity (owner_of run k) (slice_index_or (record_of run k) i d ∷ reverse (take i (record_of run k)))
  test_there test k i d below = ap (test run.capacity (owner_of run k)) (past_more (record_of run k) i d below)

  remembers_at : (k i : ℕ) → i < length (record_of run k) → test_at forgets_of run k i ≡ false → RemembersAt run k i
  remembers_at k i below h = λ d. remembers run.capacity (owner_of run k) (reverse (take i (record_of run k))) (slice_index_or (record_of run k) i d) (sym (test_there forgets_of k i d below) ∙ h)

  not_remembers : (k i : ℕ) → i < length (record_of run k) → test_at forgets_of run k i ≡ true → RemembersAt run k i → ⊥
  not_remembers k i below h all =
      forgotten run.capacity (owner_of run k) (reverse (take i (record_of run k))) (slice_index_or (record_of run k) i no_entry) (sym (test_there forgets_of k i no_entry below) ∙ h) (all no_entry)

  knows_at : (k i : ℕ) → i < length (record_of run k) → test_at mistakes_of run k i ≡ false → KnowsOwnAt run k i
  knows_at k i below h = λ d. knows_own run.capacity (owner_of run k) (reverse (take i (record_of run k))) (slice_index_or (record_of run k) i d) (sym (test_there mistakes_of k i d below) ∙ h)

  not_knows : (k i : ℕ) → i < length (record_of run k) → test_at mistakes_of run k i ≡ true → KnowsOwnAt run k i → ⊥
  not_knows k i below h all =
      mistaken run.capacity (owner_of run k) (reverse (take i (record_of run k))) (slice_index_or (record_of run k) i no_entry) (sym (test_there mistakes_of k i no_entry below) ∙ h) (all no_entry)

  in_time_at : (k i : ℕ) → i < length (record_of run k) → test_at lates_of run k i ≡ false → IsInTimeAt run k i
  in_time_at k i below h = λ d. sym (test_there lates_of k i d below) ∙ h

  not_in_time : (k i : ℕ) → i < length (record_of run k) → test_at lates_of run k i ≡ true → IsInTimeAt run k i → ⊥
  not_in_time k i below h all = false≢true (sym (all no_entry) ∙ (sym (test_there lates_of k i no_entry below) ∙ h))

  pub nothing_forgotten : (n : ℕ) → length run.places ≤ n → ClearBelow forgets_of run n → NothingForgotten run
  nothing_forgotten n all clear = λ k below.
      each_from (λ x past. Remembers run.capacity (owner_of run k) past (now (x ∷ past)) x.event) (record_of run k) (λ i under. remembers_at k i under (clear k (omega (arith, below, all)) i under))

  pub nothing_mistaken : (n : ℕ) → length run.places ≤ n → ClearBelow mistakes_of run n → NothingMistaken run
  nothing_mistaken n all clear = λ k below.
      each_from (λ x past. KnowsOwn run.capacity (owner_of run k) past (now (x ∷ past)) x.event) (record_of run k) (λ i under. knows_at k i under (clear k (omega (arith, below, all)) i under))

  pub nothing_late : (n : ℕ) → length run.places ≤ n → ClearBelow lates_of run n → NothingLate run
  nothing_late n all clear = λ k below.
      each_from (λ x past. is_numbered_late (owner_of run k) past x.event x.outcome ≡ false) (record_of run k) (λ i under. in_time_at k i under (clear k (omega (arith, below, all)) i under))

  -- the first place where a test holds is the first where the fact fails that it tests
  first_not : (test : Test) (P : ℕ → ℕ → Type 0) →
      ((k i : ℕ) → i < length (record_of run k) → test_at test run k i ≡ false → P k i) →
      ((k i : ℕ) → i < length (record_of run k) → test_at test run k i ≡ true → P k i → ⊥) →
      (n k i : ℕ) → n ≤ length run.places → IsFirstPlace test run n k i → IsFirstNot run P k i
  first_not test P holds fails n k i most f =
      let low = f.node in
      let under = f.first.below in
      record {
        node = omega (arith, low, most);
        place = under;
        fails = fails k i under f.first.here;
        before = λ j lower. holds k j (omega (arith, lower, under)) (f.first.before j lower);
        nodes = λ l j lower in_record. holds l j in_record (f.nodes l lower j in_record);
      }

  pub first_forgotten : (n k i : ℕ) → n ≤ length run.places → IsFirstPlace forgets_of run n k i → IsFirstNot run (RemembersAt run) k i
  first_forgotten = first_not forgets_of (RemembersAt run) remembers_at not_remembers

  pub first_mistaken : (n k i : ℕ) → n ≤ length run.places → IsFirstPlace mistakes_of run n k i → IsFirstNot run (KnowsOwnAt run) k i
  first_mistaken = first_not mistakes_of (KnowsOwnAt run) knows_at not_knows

  pub first_late : (n k i : ℕ) → n ≤ length run.places → IsFirstPlace lates_of run n k i → IsFirstNot run (IsInTimeAt run) k i
  first_late = first_not lates_of (IsInTimeAt run) in_time_at not_in_time
