-- Arrivals in time, and the moments of sends.
use Rattle.std.proofs.Common.{◌≡◌, ℕ, ◌+◌, ◌-◌, ◌<◌, ◌≤◌, ◌==◌, Bool, true, false, if◌then◌else◌, List, [], ◌∷◌, ◌++◌, length, map, reverse, take, slice_index_or, Option, Some, None, refl, sym, ap, ◌∙◌, subst, arith, zero, suc, ⊎_elim, eq-eqb, ne_eqb, leb-true, ltb-true, le-leb, lt-ltb}
use Rattle.std.specs.Prelude.{max, nat_le, nat_lt, IsPermutation}
use Rattle.std.specs.List.{cons_option}
use Rattle.std.specs.List.Sorted.{IsNonDecreasing}
use Rattle.std.proofs.lemmas.Bool.{and_from, and_parts, cases_lt, cond-false, cond-true, false≢true}
use Rattle.std.proofs.lemmas.List.{append-nil, get_or_read, map-append, reverse-append, take_all}
use Rattle.std.proofs.lemmas.List.Sorted.{IsPermutation-reverse, IsPermutation-trans}
use Rattle.hsr_node.specs.Record.{now}
use Rattle.hsr_node.specs.declared.entry.Entry.{Entry}
use Rattle.hsr_node.specs.declared.event.Event.{Event}
use Rattle.hsr_node.specs.declared.event.Event.TheVariants.{Send, Supervise, Arrive, Age}
use Rattle.hsr_node.specs.declared.event.Probe.{Probe}
use Rattle.hsr_run_laws.specs.Budget.{IsInTime, Sent, is_sending, moment_at, moment_of, sends_at, sends_below, sends_of}
use Rattle.hsr_run_laws.specs.Run.{Run, past_of, record_of}
use Rattle.hsr_audit.specs.Budgeted.{IsInTimeAt}
use Rattle.hsr_audit.specs.Timed.{AreSendMoments, is_in_time, is_timely, is_timely_of, moment_sent, sent_moments, sent_moments_below}
use Rattle.hsr_table_demand.proofs.Places.{past_length, past_more}

-- ---- one more entry

pub now_more : (xs : List Entry) (i : ℕ) (d : Entry) → i < length xs → now (reverse (take (i + 1) xs)) ≡ max (now (reverse (take i xs))) (slice_index_or xs i d).at
now_more xs i d below = ap now (past_more xs i d below)

pub sent_more : (xs : List Entry) (i : ℕ) (d : Entry) → i < length xs →
    sent_moments (reverse (take (i + 1) xs))
    ≡ sent_moments (reverse (take i xs)) ++ (if is_sending (slice_index_or xs i d).event then max (now (reverse (take i xs))) (slice_index_or xs i d).at ∷ [] else [])
sent_more xs i d below = ap sent_moments (past_more xs i d below)

-- ---- the moment of an entry

-- the moment at a place of a record is that of its entry on its past
moment_here : (xs : List Entry) (i : ℕ) (d : Entry) → i < length xs → moment_at i (reverse xs) ≡ now (slice_index_or xs i d ∷ reverse (take i xs))
moment_here xs i d below =
    let P : List Entry → Type 0 = λ ys. moment_at i (reverse ys) ≡ now (slice_index_or xs i d ∷ reverse (take i xs)) in
    subst P (take_all (length xs) xs (omega arith)) (up_to (length xs) (omega arith) below)
  where
    up_to : (n : ℕ) → n ≤ length xs → i < n → moment_at i (reverse (take n xs)) ≡ now (slice_index_or xs i d ∷ reverse (take i xs))
    up_to zero short low = absurd (omega (arith, low))
    up_to (suc n) short low =
        let past = reverse (take n xs) in
        let many = past_length xs n (omega (arith, short)) in
        let next : suc n ≡ n + 1 = omega arith in
        ap (λ m. moment_at i (reverse (take m xs))) next
        ∙ (ap (moment_at i) (past_more xs n d (omega (arith, short)))
        ∙ ⊎_elim
        (λ lower.
        cond-false (i == length past) (now (slice_index_or xs n d ∷ past)) (moment_at i past) (ne_eqb i (length past) (λ same. omega (arith, same, lower, many)))
        ∙ up_to n (omega (arith, short)) lower)
        (λ last.
        let same : n ≡ i = omega (arith, low, last) in
        cond-true (i == length past) (now (slice_index_or xs n d ∷ past)) (moment_at i past) (eq-eqb i (length past) (omega (arith, same, many)))
        ∙ ap (λ m. now (slice_index_or xs m d ∷ reverse (take m xs))) same)
        (cases_lt i n))

-- ---- arrivals

timely : (sent at : ℕ) → is_timely sent at ≡ true → (sent ≤ at) × (at < sent + 400000)
timely sent at h =
    let both = and_parts (nat_le sent at) (nat_lt (at - sent) 400000) h in
    let since = leb-true sent at both.0 in
    let until = ltb-true (at - sent) 400000 both.1 in
    (since, omega (arith, since, until))

so_timely : (sent at : ℕ) → sent ≤ at → at < sent + 400000 → is_timely sent at ≡ true
so_timely sent at since until = and_from (nat_le sent at) (nat_lt (at - sent) 400000) (le-leb sent at since) (lt-ltb (at - sent) 400000 (omega (arith, since, until)))

in_time : (run : Run) (at : ℕ) (event : Event) → is_in_time run at event ≡ true → IsInTime run at event
in_time run at (Send from dst vlan ethertype payload) h = tt
in_time run at (Supervise about) h = tt
in_time run at Age h = tt
in_time run at (Arrive port copy) h = λ send named.
    let P : Option Probe → Type 0 = λ o. is_timely_of run at o ≡ true in
    timely (moment_of run send) at (subst P named h)

late : (run : Run) (at : ℕ) (event : Event) → is_in_time run at event ≡ false → IsInTime run at event → ⊥
late run at (Send from dst vlan ethertype payload) h all = false≢true (sym h)
late run at (Supervise about) h all = false≢true (sym h)
late run at Age h all = false≢true (sym h)
late run at (Arrive port copy) h all = by_probe copy.probe h all
  where
    by_probe : (o : Option Probe) → is_timely_of run at o ≡ false → ((send : Probe) → o ≡ Some send → (moment_of run send ≤ at) × (at < moment_of run send + 400000)) → ⊥
    by_probe None not all = false≢true (sym not)
    by_probe (Some send) not all =
        let both = all send refl in
        false≢true (sym not ∙ so_timely (moment_of run send) at both.0 both.1)

-- an entry as it was read, and its moment
module _ (run there : Run) (k i at : ℕ) (x : Entry) (same : there ≡ run) (below : i < length (record_of run k))
    (at_is : at ≡ moment_of there (record { node = k; place = i })) (x_is : x ≡ slice_index_or (record_of run k) i x) where
  moment_as : (d : Entry) → at ≡ now (slice_index_or (record_of run k) i d ∷ reverse (take i (record_of run k)))
  moment_as d = at_is ∙ (ap (λ r. moment_of r (record { node = k; place = i })) same ∙ moment_here (record_of run k) i d below)

  as_read : (b : Bool) (d : Entry) → is_in_time there at x.event ≡ b → is_in_time run (now (slice_index_or (record_of run k) i d ∷ reverse (take i (record_of run k)))) (slice_index_or (record_of run k) i d).event ≡ b
  as_read b d h =
      let P : Run → Type 0 = λ r. is_in_time r at x.event ≡ b in
      let Q : ℕ → Type 0 = λ m. is_in_time run m x.event ≡ b in
      let R : Entry → Type 0 = λ y. is_in_time run (now (slice_index_or (record_of run k) i d ∷ reverse (take i (record_of run k)))) y.event ≡ b in
      subst R (get_or_read (record_of run k) i x below x_is d) (subst Q (moment_as d) (subst P same h))

  pub in_time_at : is_in_time there at x.event ≡ true → IsInTimeAt run k i
  in_time_at h = λ d.
      in_time run (now (slice_index_or (record_of run k) i d ∷ reverse (take i (record_of run k)))) (slice_index_or (record_of run k) i d).event (as_read true d h)

  pub late_at : is_in_time there at x.event ≡ false → IsInTimeAt run k i → ⊥
  late_at h all =
      late run (now (slice_index_or (record_of run k) i x ∷ reverse (take i (record_of run k)))) (slice_index_or (record_of run k) i x).event (as_read false x h) (all x)

-- ---- the moments of sends

sends_more : (yes : Bool) (s : Sent) (ms : List ℕ) (ss : List Sent) → ms ≡ reverse (map moment_sent ss) →
    ms ++ (if yes then s.moment ∷ [] else []) ≡ reverse (map moment_sent (cons_option (if yes then Some s else None) ss))
sends_more true s ms ss h = ap (λ ns. ns ++ s.moment ∷ []) h ∙ sym (reverse-append (s.moment ∷ []) (map moment_sent ss))
sends_more false s ms ss h = append-nil ms ∙ h

sends_in : (k : ℕ) (past : List Entry) → sent_moments past ≡ reverse (map moment_sent (sends_at k past))
sends_in k [] = refl
sends_in k (x ∷ past) = sends_more (is_sending x.event) (record { send = record { node = k; place = length past }; moment = now (x ∷ past) }) (sent_moments past) (sends_at k past) (sends_in k past)

sends_all : (run : Run) (n : ℕ) → sent_moments_below run n ≡ reverse (map moment_sent (sends_below run n))
sends_all run zero = refl
sends_all run (suc n) =
    ap (λ ms. ms ++ sent_moments (past_of run n)) (sends_all run n)
    ∙ (ap (λ ms. reverse (map moment_sent (sends_below run n)) ++ ms) (sends_in n (past_of run n))
    ∙ (sym (reverse-append (map moment_sent (sends_at n (past_of run n))) (map moment_sent (sends_below run n)))
    ∙ ap reverse (sym (map-append moment_sent (sends_at n (past_of run n)) (sends_below run n)))))

pub are_sends : (run : Run) (ms sorted : List ℕ) → ms ≡ sent_moments_below run (length run.places) → IsPermutation ms sorted → IsNonDecreasing sorted → AreSendMoments run sorted
are_sends run ms sorted is moved rise =
    let P : List ℕ → Type 0 = λ ns. IsPermutation ns sorted in
    record {
      rise = rise;
      same = IsPermutation-trans (map moment_sent (sends_of run)) (reverse (map moment_sent (sends_of run))) sorted (IsPermutation-reverse (map moment_sent (sends_of run)))
          (subst P (is ∙ sends_all run (length run.places)) moved);
    }
