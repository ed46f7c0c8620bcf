-- The most that was needed, from entry to entry and from node to node.
use Rattle.std.proofs.Common.{◌≡◌, ◌⊎◌, inl, inr, ⊎_elim, ℕ, zero, suc, ◌+◌, ◌<◌, ◌≤◌, ◌^◌, Bool, true, false, cond, nat_lt, max, if◌then◌else◌, List, [], ◌∷◌, length, take, reverse, slice_index_or, Option, Some, None, refl, sym, ap, ◌∙◌, subst, arith}
use Rattle.std.proofs.lemmas.Bool.{cases_lt, false≢true, ltb-false}
use Rattle.std.proofs.lemmas.List.{get_or_default}
use borrow.Author.Tests.{ltb-true}
use Rattle.hsr_frame.specs.Egress.{Egress, up, a, b, c, d, has_exit, no_exits}
use Rattle.hsr_frame.specs.declared.egress.Exits.{Exits}
use Rattle.hsr_tag.specs.Seen.{classified}
use Rattle.hsr_redbox.specs.declared.wanted.Handling.{Handling}
use Rattle.hsr_node.specs.Flow.{wanted_at}
use Rattle.hsr_node.specs.Record.{Each, Owner, handling, knows, notes, now, probe_handled}
use Rattle.hsr_node.specs.declared.entry.Entry.{Entry}
use Rattle.hsr_node.specs.declared.event.Carried.{Carried}
use Rattle.hsr_node.specs.declared.event.Event.{Event}
use Rattle.hsr_node.specs.declared.event.Event.TheVariants.{Send, Supervise, Arrive, Age}
use Rattle.hsr_node.specs.declared.event.Probe.{Probe}
use Rattle.hsr_node.specs.declared.place.Place.{Place}
use Rattle.hsr_node.specs.declared.place.Place.TheVariants.{QuadBox}
use Rattle.hsr_run_laws.specs.Premises.{is_on_ring}
use Rattle.hsr_run_laws.specs.Run.{Run, owner_of, place_of, record_of}
use Rattle.hsr_table_demand.specs.Logged.{HasRoom, IsLogOf, IsLoggedAfter, moment_of, needs_by, needs_of, read_by, widest}
use Rattle.hsr_table_demand.specs.Needs.{IsFirst, IsMet, IsMost, IsWanted, Needs, NeedsThere}
use Rattle.hsr_table_demand.specs.Read.{exits_of, wanted_in}
use Rattle.hsr_table_demand.specs.Tallied.{reach_in}
use Rattle.hsr_table_demand.specs.Walked.{IsBefore, IsFoundBefore, IsMetBefore, IsMostBefore, needs_at, nothing_needed, or_more, walked}
use Rattle.hsr_table_demand.specs.declared.log.Log.{Log}
use Rattle.hsr_table_demand.specs.declared.most.Needed.{Needed}
use Rattle.hsr_table_demand.proofs.Latest.{reach_latest, reached}
use Rattle.hsr_table_demand.proofs.Logging.{has_room, is_aged, log_more, needs_same}
use Rattle.hsr_finished_run.proofs.Places.{each_from, here_is, no_entry, past_length, past_more, past_with}

-- ---- one entry

exit_same : (o : Option Handling) (e : Egress) → has_exit (exits_of o) e ≡ wanted_at o e
exit_same None up = refl
exit_same None a = refl
exit_same None b = refl
exit_same None c = refl
exit_same None d = refl
exit_same (Some h) e = refl

no_exit : (e : Egress) → has_exit no_exits e ≡ false
no_exit up = refl
no_exit a = refl
no_exit b = refl
no_exit c = refl
no_exit d = refl

part : (t : Bool) (n : ℕ) → t ≡ true → n ≡ cond t n 0
part true n is = refl
part false n is = absurd (false≢true is)

at_widest : (exits : Exits) (f : Egress → ℕ) (e : Egress) → has_exit exits e ≡ true → f e ≤ widest exits f
at_widest exits f up is = let h = part exits.up (f up) is in omega (arith, h)
at_widest exits f a is = let h = part exits.a (f a) is in omega (arith, h)
at_widest exits f b is = let h = part exits.b (f b) is in omega (arith, h)
at_widest exits f c is = let h = part exits.c (f c) is in omega (arith, h)
at_widest exits f d is = let h = part exits.d (f d) is in omega (arith, h)

-- the widest is at an egress that is wanted
record IsWidestAt (exits : Exits) (f : Egress → ℕ) (n : ℕ) : Type 0 where
  egress : Egress
  is : has_exit exits egress ≡ true
  widest_is : f egress ≡ n

max_cases : (m n : ℕ) → (max m n ≡ m) ⊎ (max m n ≡ n)
max_cases m n = ⊎_elim (λ low. inr (omega (arith, low))) (λ high. inl (omega (arith, high))) (cases_lt m n)

in_part : (exits : Exits) (f : Egress → ℕ) (e : Egress) (t : Bool) → has_exit exits e ≡ t → (n : ℕ) → 0 < n → n ≡ cond t (f e) 0 → IsWidestAt exits f n
in_part exits f e true is n some same = record { egress = e; is = is; widest_is = sym same }
in_part exits f e false is n some same = absurd (omega (arith, some, same))

widest_at : (exits : Exits) (f : Egress → ℕ) (n : ℕ) → 0 < n → n ≡ widest exits f → IsWidestAt exits f n
widest_at exits f n some is =
    let u : ℕ = cond exits.up (f up) 0 in
    let v : ℕ = cond exits.a (f a) 0 in
    let w : ℕ = cond exits.b (f b) 0 in
    let x : ℕ = cond exits.c (f c) 0 in
    let y : ℕ = cond exits.d (f d) 0 in
    ⊎_elim
    (λ four. ⊎_elim
    (λ three. ⊎_elim
    (λ two. ⊎_elim
    (λ one. in_part exits f up exits.up refl n some (is ∙ (four ∙ (three ∙ (two ∙ one)))))
    (λ one. in_part exits f a exits.a refl n some (is ∙ (four ∙ (three ∙ (two ∙ one)))))
    (max_cases u v))
    (λ two. in_part exits f b exits.b refl n some (is ∙ (four ∙ (three ∙ two))))
    (max_cases (max u v) w))
    (λ three. in_part exits f c exits.c refl n some (is ∙ (four ∙ three)))
    (max_cases (max (max u v) w) x))
    (λ four. in_part exits f d exits.d refl n some (is ∙ four))
    (max_cases (max (max (max u v) w) x) y)

module _ (owner : Owner) (past : List Entry) (at : ℕ) (here : Probe) where
  abbrev needs_on : Event → ℕ
  needs_on event = widest (wanted_in owner.place (knows owner.place past at event) event) (λ e. reach_in at (probe_handled here event) (notes owner e past))

  pub wanted_is : (port : ℕ) (copy : Carried) (e : Egress) → IsWanted owner past at port copy e → has_exit (wanted_in owner.place (knows owner.place past at (Arrive port copy)) (Arrive port copy)) e ≡ true
  wanted_is port copy e w =
      let known = knows owner.place past at (Arrive port copy) in
      let o = handling owner.place known port (classified copy.octets) in
      ap (λ t. has_exit (cond t (exits_of o) no_exits) e) w.ring ∙ (exit_same o e ∙ w.wanted)

  pub is_wanted : (port : ℕ) (copy : Carried) (e : Egress) → has_exit (wanted_in owner.place (knows owner.place past at (Arrive port copy)) (Arrive port copy)) e ≡ true → IsWanted owner past at port copy e
  is_wanted port copy e h = by_ring (is_on_ring owner.place port) refl h
    where
      o : Option Handling
      o = handling owner.place (knows owner.place past at (Arrive port copy)) port (classified copy.octets)

      by_ring : (t : Bool) → is_on_ring owner.place port ≡ t → has_exit (cond t (exits_of (handling owner.place (knows owner.place past at (Arrive port copy)) port (classified copy.octets))) no_exits) e ≡ true →
          IsWanted owner past at port copy e
      by_ring true on h = record { ring = on; wanted = sym (exit_same (handling owner.place (knows owner.place past at (Arrive port copy)) port (classified copy.octets)) e) ∙ h }
      by_ring false off h = absurd (false≢true (sym (no_exit e) ∙ h))

  pub needs_most : (event : Event) (n : ℕ) → Needs owner past at event n → n ≤ needs_on event
  needs_most (Arrive port copy) n needs =
      let reach : ℕ = reach_in at copy.probe (notes owner needs.egress past) in
      let same : reach ≡ length needs.younger + 1 = reach_latest at copy.probe (notes owner needs.egress past) needs.younger needs.note needs.latest needs.unexpired in
      let most : reach ≤ needs_on (Arrive port copy) =
      at_widest (wanted_in owner.place (knows owner.place past at (Arrive port copy)) (Arrive port copy)) (λ e. reach_in at copy.probe (notes owner e past)) needs.egress (wanted_is port copy needs.egress needs.wanted) in
      let count = needs.count in
      omega (arith, same, most, count)
  needs_most (Send from dst vlan ethertype payload) n needs = absurd needs
  needs_most (Supervise about) n needs = absurd needs
  needs_most Age n needs = absurd needs

  pub needs_met : (event : Event) (n : ℕ) → 0 < n → n ≡ needs_on event → Needs owner past at event n
  needs_met (Arrive port copy) n some is =
      let w = widest_at (wanted_in owner.place (knows owner.place past at (Arrive port copy)) (Arrive port copy)) (λ e. reach_in at copy.probe (notes owner e past)) n some is in
      let reach = w.widest_is in
      let r = reached at copy.probe (notes owner w.egress past) (omega (arith, some, reach)) in
      let counted = r.count in
      record {
        egress = w.egress;
        wanted = is_wanted port copy w.egress w.is;
        younger = r.younger;
        note = r.note;
        latest = r.latest;
        unexpired = r.unexpired;
        count = omega (arith, reach, counted);
      }
  needs_met (Send from dst vlan ethertype payload) n some is = absurd (omega (arith, some, is))
  needs_met (Supervise about) n some is = absurd (omega (arith, some, is))
  needs_met Age n some is = absurd (omega (arith, some, is))

-- ---- one more entry of a node

-- a place of a record, by its entry and its past
pub needs_there : (run : Run) (k i : ℕ) (other : Entry) → i < length (record_of run k) →
    needs_at run k i ≡ needs_of (owner_of run k) (slice_index_or (record_of run k) i other ∷ reverse (take i (record_of run k)))
needs_there run k i other below = ap (needs_of (owner_of run k)) (past_more (record_of run k) i other below)

module _ (run : Run) (k i : ℕ) (x : Entry) (below : i < length (record_of run k)) (x_is : x ≡ slice_index_or (record_of run k) i x) where
  abbrev before : List Entry
  before = reverse (take i (record_of run k))

  more_is : reverse (take (i + 1) (record_of run k)) ≡ x ∷ reverse (take i (record_of run k))
  more_is = past_with (record_of run k) i x below x_is

  pub walk_more : (old new : Log) (here : Probe) → here ≡ record { node = k; place = i } → IsLogOf (owner_of run k) (reverse (take i (record_of run k))) old →
      IsLoggedAfter old (place_of run k) here x new → IsLogOf (owner_of run k) (reverse (take (i + 1) (record_of run k))) new
  walk_more old new here at_here is after =
      let P : List Entry → Type 0 = λ past. IsLogOf (owner_of run k) past new in
      subst P (sym more_is) (log_more (owner_of run k) before old new here x is (here_is (record_of run k) k i here below at_here) after)

  pub walk_needs : (old : Log) (here : Probe) → here ≡ record { node = k; place = i } → IsLogOf (owner_of run k) (reverse (take i (record_of run k))) old →
      needs_by old (read_by old (place_of run k) here x) (moment_of old x) ≡ needs_at run k i
  walk_needs old here at_here is =
      needs_same (owner_of run k) before old here x is (here_is (record_of run k) k i here below at_here) ∙ sym (ap (needs_of (owner_of run k)) more_is)

  pub walk_room : (old : Log) → IsLogOf (owner_of run k) (reverse (take i (record_of run k))) old → i + 1 < 2 ^ 64 → HasRoom old
  walk_room old is few =
      let long = past_length (record_of run k) i (omega (arith, below)) in
      has_room (owner_of run k) before old is (omega (arith, long, few))

pub walk_aged : (run : Run) (k i : ℕ) (old : Log) → IsLogOf (owner_of run k) (reverse (take i (record_of run k))) old → old.stations.last ≤ old.moment
walk_aged run k i old is = is_aged (owner_of run k) (reverse (take i (record_of run k))) old is

pub walk_start : (run : Run) (k : ℕ) (log : Log) → log.moment ≡ 0 → log.stations ≡ Rattle.hsr_tables.specs.Proxies.no_proxies →
    ((e : Egress) → Rattle.hsr_table_demand.specs.Tallied.Tells (Rattle.hsr_table_demand.specs.Logged.tally_at log e) []) → IsLogOf (owner_of run k) (reverse (take 0 (record_of run k))) log
walk_start run k log moment stations tells = record { moment = moment; stations = stations; tells = tells }

-- the place of a node
pub place_at : (places : List Place) (k : ℕ) (p : Place) → k < length places → p ≡ slice_index_or places k p → p ≡ slice_index_or places k QuadBox
place_at places k p below is = is ∙ get_or_default places k p QuadBox below

-- ---- the most so far

earlier : (k i l j : ℕ) → IsBefore k i l (j + 1) → IsBefore k i l j ⊎ ((k ≡ l) × (i ≡ j))
earlier k i l j is =
    ⊎_elim (λ lower. inl (inl lower))
    (λ same. let low = same.1 in ⊎_elim (λ less. inl (inr (same.0, less))) (λ high. inr (same.0, omega (arith, low, high))) (cases_lt i j))
    is

later : (k i l j : ℕ) → IsBefore k i l j → IsBefore k i l (j + 1)
later k i l j is = ⊎_elim (λ lower. inl lower) (λ same. inr (same.0, let low = same.1 in omega (arith, low))) is

pub most_more : (run : Run) (k i n : ℕ) (m : Needed) → n ≡ needs_at run k i → i < length (record_of run k) → IsMostBefore run k i m → IsMostBefore run k (i + 1) (or_more m n k i)
most_more run k i n m is below so_far = by_more (nat_lt m.entries n) refl
  where
    at_most : (top : ℕ) → m.entries ≤ top → n ≤ top → (l j : ℕ) → j < length (record_of run l) → IsBefore l j k (i + 1) → needs_at run l j ≤ top
    at_most top old new l j inside there =
        ⊎_elim
        (λ before. let h = so_far.most l j inside before in omega (arith, h, old))
        (λ same. let e : needs_at run l j ≡ needs_at run k i = ap (λ u. needs_at run u j) same.0 ∙ ap (needs_at run k) same.1 in omega (arith, e, is, new))
        (earlier l j k i there)

    met_later : (top : ℕ) (at : Option (ℕ × ℕ)) → IsMetBefore run k i top at → IsMetBefore run k (i + 1) top at
    met_later top None h = h
    met_later top (Some at) h = record { some = h.some; place = h.place; here = later at.0 at.1 k i h.here; needs = h.needs; first = h.first }

    by_more : (b : Bool) → nat_lt m.entries n ≡ b → IsMostBefore run k (i + 1) (if b then record { entries = n; at = Some (k, i) } else m)
    by_more true more =
        let less = ltb-true m.entries n more in
        record {
          most = at_most n (omega (arith, less)) (omega arith);
          met = record {
            some = omega (arith, less);
            place = below;
            here = inr (refl, omega arith);
            needs = sym is;
            first = λ l j inside before. let h = so_far.most l j inside before in omega (arith, h, less);
          };
        }
    by_more false more =
        let no_more = ltb-false m.entries n more in
        record { most = at_most m.entries (omega arith) no_more; met = met_later m.entries m.at so_far.met }

-- ---- the next node

pub most_next : (run : Run) (k n : ℕ) (m : Needed) → length (record_of run k) ≤ n → IsMostBefore run k n m → IsMostBefore run (k + 1) 0 m
most_next run k n m all so_far = record {
  most = λ l j inside there. so_far.most l j inside (into l j inside there);
  met = met_next m.at so_far.met;
}
  where
    into : (l j : ℕ) → j < length (record_of run l) → IsBefore l j (k + 1) 0 → IsBefore l j k n
    into l j inside there =
        ⊎_elim
        (λ low. ⊎_elim
        (λ lower. inl lower)
        (λ high.
        let same : l ≡ k = omega (arith, low, high) in
        let P : ℕ → Type 0 = λ u. j < length (record_of run u) in
        let here = subst P same inside in
        inr (same, omega (arith, here, all)))
        (cases_lt l k))
        (λ none. absurd (let less = none.1 in omega (arith, less)))
        there

    met_next : (at : Option (ℕ × ℕ)) → IsMetBefore run k n m.entries at → IsMetBefore run (k + 1) 0 m.entries at
    met_next None h = h
    met_next (Some at) h =
        let here : at.0 < k + 1 = ⊎_elim (λ low. omega (arith, low)) (λ same. let e = same.0 in omega (arith, e)) h.here in
        record { some = h.some; place = h.place; here = inl here; needs = h.needs; first = h.first }

-- all entries of a node
pub most_walked : (run : Run) (k : ℕ) (m : Needed) → IsMostBefore run k 0 m → (i : ℕ) → i ≤ length (record_of run k) → IsMostBefore run k i (walked run k m i)
most_walked run k m before zero low = before
most_walked run k m before (suc i) low =
    let P : ℕ → Type 0 = λ j. IsMostBefore run k j (walked run k m (suc i)) in
    let e : i + 1 ≡ suc i = omega arith in
    subst P e (most_more run k i (needs_at run k i) (walked run k m i) refl (omega (arith, low)) (most_walked run k m before i (omega (arith, low))))

pub most_start : (run : Run) → IsMostBefore run 0 0 nothing_needed
most_start run = record { most = λ k i inside before. absurd (⊎_elim (λ low. omega (arith, low)) (λ same. let low = same.1 in omega (arith, low)) before); met = refl }

-- ---- all nodes

module _ (run : Run) where
  -- a place needs what its entry needs
  entry_most : (k i n : ℕ) (other : Entry) → i < length (record_of run k) →
      (let past = reverse (take i (record_of run k)) in let x = slice_index_or (record_of run k) i other in Needs (owner_of run k) past (now (x ∷ past)) x.event n) → n ≤ needs_at run k i
  entry_most k i n other below needs =
      let past = reverse (take i (record_of run k)) in
      let x = slice_index_or (record_of run k) i other in
      let most : n ≤ needs_of (owner_of run k) (x ∷ past) =
      needs_most (owner_of run k) past (now (x ∷ past)) (record { node = k; place = length past }) x.event n needs in
      let same = needs_there run k i other below in
      omega (arith, most, same)

  pub there_most : (k i n : ℕ) → i < length (record_of run k) → NeedsThere run k i n → n ≤ needs_at run k i
  there_most k i n below needs = entry_most k i n no_entry below (needs no_entry)

  -- where no place needs more than this, no entry does
  pub each_needs : (k top : ℕ) → ((i : ℕ) → i < length (record_of run k) → needs_at run k i ≤ top) →
      Each (λ x past. (n : ℕ) → Needs (owner_of run k) past (now (x ∷ past)) x.event n → n ≤ top) (reverse (record_of run k))
  each_needs k top all = each_from (λ x past. (n : ℕ) → Needs (owner_of run k) past (now (x ∷ past)) x.event n → n ≤ top) (record_of run k)
      (λ i below other n needs. let most = entry_most k i n other below needs in let upper = all i below in omega (arith, most, upper))

  pub there_met : (k i n : ℕ) → i < length (record_of run k) → 0 < n → needs_at run k i ≡ n → NeedsThere run k i n
  there_met k i n below some is other =
      let past = reverse (take i (record_of run k)) in
      let x = slice_index_or (record_of run k) i other in
      needs_met (owner_of run k) past (now (x ∷ past)) (record { node = k; place = length past }) x.event n some (sym is ∙ needs_there run k i other below)

  first_is : (n l k i : ℕ) → l ≤ length run.places → IsFoundBefore run l 0 n k i → IsFirst run n k i
  first_is n l k i all f =
      let node : k < l = ⊎_elim (λ low. low) (λ same. absurd (let low = same.1 in omega (arith, low))) f.here in
      record {
        node = omega (arith, node, all);
        place = f.place;
        needs = there_met k i n f.place f.some f.needs;
        before = λ j low needs.
            let place = f.place in
            let inside : j < length (record_of run k) = omega (arith, low, place) in
            let most = there_most k j n inside needs in
            let fewer = f.first k j inside (inr (refl, low)) in
            omega (arith, most, fewer);
        nodes = λ m j low inside needs. let most = there_most m j n inside needs in let fewer = f.first m j inside (inl low) in omega (arith, most, fewer);
      }

  pub most_is : (l : ℕ) (m : Needed) → l ≡ length run.places → IsMostBefore run l 0 m → IsMost run m
  most_is l m all so_far = record {
    most = λ k node. each_needs k m.entries (λ i below. so_far.most k i below (inl (omega (arith, node, all))));
    met = met_is m.entries m.at so_far.met;
  }
    where
      met_is : (n : ℕ) (at : Option (ℕ × ℕ)) → IsMetBefore run l 0 n at → IsMet run n at
      met_is n None h = h
      met_is n (Some at) h = first_is n l at.0 at.1 (omega (arith, all)) h
