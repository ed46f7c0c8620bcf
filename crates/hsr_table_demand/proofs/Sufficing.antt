-- What was needed was not forgotten just where it wasn't expired and tables have room for it.
use Rattle.std.proofs.Common.{◌≡◌, ℕ, zero, suc, ◌+◌, ◌-◌, ◌<◌, ◌≤◌, Bool, true, false, cond, ◌||◌, nat_lt, List, [], ◌∷◌, ◌++◌, length, take, reverse, filter, slice_index_or, Option, Some, None, refl, sym, ap, ◌∙◌, subst, arith}
use Rattle.std.specs.List.{list_any}
use Rattle.std.proofs.lemmas.Bool.{false≢true, le-ltb, ltb-false, or_parts}
use Rattle.std.proofs.Math.Nat.{le-max_left}
use Rattle.hsr_frame.specs.Egress.{Egress}
use Rattle.hsr_duptable.specs.Notes.{entry_forget}
use Rattle.hsr_node.specs.Record.{Each, Noted, Owner, notes, now}
use Rattle.hsr_node.specs.declared.entry.Entry.{Entry}
use Rattle.hsr_node.specs.declared.event.Carried.{Carried}
use Rattle.hsr_node.specs.declared.event.Event.{Event}
use Rattle.hsr_node.specs.declared.event.Event.TheVariants.{Send, Supervise, Arrive, Age}
use Rattle.hsr_node.specs.declared.event.Probe.{Probe}
use Rattle.hsr_run_laws.specs.Premises.{NothingForgotten, Remembers, is_note_of}
use Rattle.hsr_run_laws.specs.Run.{Run, owner_of, past_of, record_of}
use Rattle.hsr_run_laws.proofs.Records.{each_so, notes_more}
use Rattle.hsr_table_demand.specs.Needs.{AreUpTo, IsLatest, IsJustEnough, IsMet, IsMost, IsWanted, IsYoung, Needs, NothingExpired, is_unexpired}
use Rattle.hsr_table_demand.specs.declared.most.Needed.{Needed}
use Rattle.hsr_finished_run.proofs.Places.{from_each, no_entry}

-- ---- moments

pub up_to_later : (m at : ℕ) (noted : List Noted) → m ≤ at → AreUpTo m noted → AreUpTo at noted
up_to_later m at [] low aged = tt
up_to_later m at (note ∷ past) low aged = let h = aged.0 in (omega (arith, h, low), aged.1)

pub notes_up_to : (owner : Owner) (e : Egress) (past : List Entry) → AreUpTo (now past) (notes owner e past)
notes_up_to owner e [] = tt
notes_up_to owner e (x ∷ past) =
    let before = notes_up_to owner e past in
    notes_more (AreUpTo (now (x ∷ past))) owner e x past
    (λ note is.
    let same = is.moment in
    (omega (arith, same), up_to_later (now past) note.moment (notes owner e past) (let low = le-max_left (now past) x.at in omega (arith, same, low)) before))
    (up_to_later (now past) (now (x ∷ past)) (notes owner e past) (le-max_left (now past) x.at) before)

-- ---- the latest note

up_to_older : (at : ℕ) (younger : List Noted) (note : Noted) (older : List Noted) → AreUpTo at (younger ++ note ∷ older) → AreUpTo note.moment older
up_to_older at [] note older aged = aged.1
up_to_older at (y ∷ ys) note older aged = up_to_older y.moment ys note older aged.1

-- no note is remembered that isn't younger than one that is too old
pub none_young : (test : Noted → Bool) (at m : ℕ) (noted : List Noted) (c : ℕ) → nat_lt (at - m) entry_forget ≡ false → AreUpTo m noted →
    list_any test (filter (is_unexpired at) (take c noted)) ≡ false
none_young test at m [] zero old aged = refl
none_young test at m [] (suc c) old aged = refl
none_young test at m (note ∷ past) zero old aged = refl
none_young test at m (note ∷ past) (suc c) old aged =
    let h = ltb-false (at - m) entry_forget old in
    let earlier = aged.0 in
    let too_old : is_unexpired at note ≡ false = le-ltb (at - note.moment) entry_forget (omega (arith, h, earlier)) in
    ap (λ b. list_any test (cond b (note ∷ filter (is_unexpired at) (take c past)) (filter (is_unexpired at) (take c past)))) too_old
    ∙ none_young test at note.moment past c too_old aged.1

-- the latest note that passes a test is unexpired, and among the youngest, where any that passes is remembered
latest_kept : (test : Noted → Bool) (at : ℕ) (note : Noted) (older : List Noted) → AreUpTo note.moment older → (younger : List Noted) (c : ℕ) → list_any test younger ≡ false →
    list_any test (filter (is_unexpired at) (take c (younger ++ note ∷ older))) ≡ true → (is_unexpired at note ≡ true) × (length younger < c)
latest_kept test at note older aged [] zero none any = absurd (false≢true any)
latest_kept test at note older aged [] (suc c) none any = by_age (is_unexpired at note) refl any
  where
    by_age : (b : Bool) → is_unexpired at note ≡ b → list_any test (cond b (note ∷ filter (is_unexpired at) (take c older)) (filter (is_unexpired at) (take c older))) ≡ true →
        (is_unexpired at note ≡ true) × (0 < suc c)
    by_age true young any = (young, omega arith)
    by_age false old any = absurd (false≢true (sym (none_young test at note.moment older c old aged) ∙ any))
latest_kept test at note older aged (y ∷ ys) zero none any = absurd (false≢true any)
latest_kept test at note older aged (y ∷ ys) (suc c) none any =
    let parts = or_parts (test y) (list_any test ys) none in
    let rest = latest_kept test at note older aged ys c parts.1 (by_age (is_unexpired at y) parts.0 any) in
    let low = rest.1 in
    (rest.0, omega (arith, low))
  where
    by_age : (b : Bool) → test y ≡ false → list_any test (cond b (y ∷ filter (is_unexpired at) (take c (ys ++ note ∷ older))) (filter (is_unexpired at) (take c (ys ++ note ∷ older)))) ≡ true →
        list_any test (filter (is_unexpired at) (take c (ys ++ note ∷ older))) ≡ true
    by_age true off any = sym (ap (λ b. b || list_any test (filter (is_unexpired at) (take c (ys ++ note ∷ older)))) off) ∙ any
    by_age false off any = any

-- and the other way round
kept_latest : (test : Noted → Bool) (at : ℕ) (note : Noted) (older : List Noted) → test note ≡ true → is_unexpired at note ≡ true → (younger : List Noted) (c : ℕ) → length younger < c →
    list_any test (filter (is_unexpired at) (take c (younger ++ note ∷ older))) ≡ true
kept_latest test at note older on young [] zero low = absurd (omega (arith, low))
kept_latest test at note older on young [] (suc c) low =
    ap (λ b. list_any test (cond b (note ∷ filter (is_unexpired at) (take c older)) (filter (is_unexpired at) (take c older)))) young
    ∙ ap (λ b. b || list_any test (filter (is_unexpired at) (take c older))) on
kept_latest test at note older on young (y ∷ ys) zero low = absurd (omega (arith, low))
kept_latest test at note older on young (y ∷ ys) (suc c) low = by_age (is_unexpired at y) (kept_latest test at note older on young ys c (omega (arith, low)))
  where
    either : (b t : Bool) → t ≡ true → (b || t) ≡ true
    either true t is = refl
    either false t is = is

    by_age : (b : Bool) → list_any test (filter (is_unexpired at) (take c (ys ++ note ∷ older))) ≡ true →
        list_any test (cond b (y ∷ filter (is_unexpired at) (take c (ys ++ note ∷ older))) (filter (is_unexpired at) (take c (ys ++ note ∷ older)))) ≡ true
    by_age true is = either (test y) _ is
    by_age false is = is

-- where a send was noted there is a latest note of it
pub record HasLatest (send : Option Probe) (noted : List Noted) : Type 0 where
  pub younger : List Noted
  pub note : Noted
  pub is : IsLatest send noted younger note

pub has_latest : (send : Option Probe) (noted : List Noted) → list_any (is_note_of send) noted ≡ true → HasLatest send noted
has_latest send [] any = absurd (false≢true any)
has_latest send (n ∷ ns) any = by_head (is_note_of send n) refl any (has_latest send ns)
  where
    by_head : (b : Bool) → is_note_of send n ≡ b → (b || list_any (is_note_of send) ns) ≡ true → (list_any (is_note_of send) ns ≡ true → HasLatest send ns) → HasLatest send (n ∷ ns)
    by_head true on any rest = record { younger = []; note = n; is = record { older = ns; all = refl; of_send = on; none_later = refl } }
    by_head false off any rest =
        let l = rest any in
        record {
          younger = n ∷ l.younger;
          note = l.note;
          is = record { older = l.is.older; all = ap (λ xs. n ∷ xs) l.is.all; of_send = l.is.of_send; none_later = ap (λ b. b || list_any (is_note_of send) l.younger) off ∙ l.is.none_later };
        }

pub was_noted : (send : Option Probe) (noted younger : List Noted) (note : Noted) → IsLatest send noted younger note → list_any (is_note_of send) noted ≡ true
was_noted send noted younger note l = ap (list_any (is_note_of send)) l.all ∙ among younger
  where
    among : (ys : List Noted) → list_any (is_note_of send) (ys ++ note ∷ l.older) ≡ true
    among [] = ap (λ b. b || list_any (is_note_of send) l.older) l.of_send
    among (y ∷ ys) = either (is_note_of send y) _ (among ys)
      where
        either : (b t : Bool) → t ≡ true → (b || t) ≡ true
        either true t is = refl
        either false t is = is

-- ---- one arrival

-- what is remembered wasn't expired, and a table has room for it
kept : (capacity : ℕ) (owner : Owner) (past : List Entry) (at port : ℕ) (copy : Carried) (e : Egress) → Remembers capacity owner past at (Arrive port copy) → IsWanted owner past at port copy e →
    (younger : List Noted) (note : Noted) → IsLatest copy.probe (notes owner e past) younger note → (is_unexpired at note ≡ true) × (length younger < capacity)
kept capacity owner past at port copy e rem w younger note l =
    let any = rem w.ring e w.wanted (was_noted copy.probe (notes owner e past) younger note l) in
    let A : List Noted → Type 0 = λ ns. list_any (is_note_of copy.probe) (filter (is_unexpired at) (take capacity ns)) ≡ true in
    let U : List Noted → Type 0 = λ ns. AreUpTo (now past) ns in
    latest_kept (is_note_of copy.probe) at note l.older (up_to_older (now past) younger note l.older (subst U l.all (notes_up_to owner e past))) younger capacity l.none_later (subst A l.all any)

young : (capacity : ℕ) (owner : Owner) (past : List Entry) (at : ℕ) (event : Event) → Remembers capacity owner past at event → IsYoung owner past at event
young capacity owner past at (Arrive port copy) rem = λ e w younger note l. (kept capacity owner past at port copy e rem w younger note l).0
young capacity owner past at (Send from dst vlan ethertype payload) rem = tt
young capacity owner past at (Supervise about) rem = tt
young capacity owner past at Age rem = tt

fits : (capacity : ℕ) (owner : Owner) (past : List Entry) (at : ℕ) (event : Event) (n : ℕ) → Remembers capacity owner past at event → Needs owner past at event n → n ≤ capacity
fits capacity owner past at (Arrive port copy) n rem needs =
    let room = (kept capacity owner past at port copy needs.egress rem needs.wanted needs.younger needs.note needs.latest).1 in
    let count = needs.count in
    omega (arith, room, count)
fits capacity owner past at (Send from dst vlan ethertype payload) n rem needs = absurd needs
fits capacity owner past at (Supervise about) n rem needs = absurd needs
fits capacity owner past at Age n rem needs = absurd needs

remembers : (capacity : ℕ) (owner : Owner) (past : List Entry) (at : ℕ) (event : Event) → IsYoung owner past at event → ((n : ℕ) → Needs owner past at event n → n ≤ capacity) →
    Remembers capacity owner past at event
remembers capacity owner past at (Arrive port copy) unexpired room = λ ring e wanted any.
    let w : IsWanted owner past at port copy e = record { ring = ring; wanted = wanted } in
    let l = has_latest copy.probe (notes owner e past) any in
    let fresh = unexpired e w l.younger l.note l.is in
    let low = room (length l.younger + 1) (record { egress = e; wanted = w; younger = l.younger; note = l.note; latest = l.is; unexpired = fresh; count = refl }) in
    let A : List Noted → Type 0 = λ ns. list_any (is_note_of copy.probe) (filter (is_unexpired at) (take capacity ns)) ≡ true in
    subst A (sym l.is.all) (kept_latest (is_note_of copy.probe) at l.note l.is.older l.is.of_send fresh l.younger capacity (omega (arith, low)))
remembers capacity owner past at (Send from dst vlan ethertype payload) unexpired room = tt
remembers capacity owner past at (Supervise about) unexpired room = tt
remembers capacity owner past at Age unexpired room = tt

-- ---- a run

each_two : (P Q R : Entry → List Entry → Type 0) (h : List Entry) → ((x : Entry) (past : List Entry) → P x past → Q x past → R x past) → Each P h → Each Q h → Each R h
each_two P Q R [] so ps qs = tt
each_two P Q R (x ∷ past) so ps qs = (so x past ps.0 qs.0, each_two P Q R past so ps.1 qs.1)

module _ (run : Run) (needed : Needed) (most : IsMost run needed) where
  abbrev Kept : ℕ → Entry → List Entry → Type 0
  Kept k x past = Remembers run.capacity (owner_of run k) past (now (x ∷ past)) x.event

  abbrev Young : ℕ → Entry → List Entry → Type 0
  Young k x past = IsYoung (owner_of run k) past (now (x ∷ past)) x.event

  abbrev Bound : ℕ → Entry → List Entry → Type 0
  Bound k x past = (n : ℕ) → Needs (owner_of run k) past (now (x ∷ past)) x.event n → n ≤ needed.entries

  pub expired : NothingForgotten run → NothingExpired run
  expired all k below = each_so (Kept k) (Young k) (past_of run k) (λ x past rem. young run.capacity (owner_of run k) past (now (x ∷ past)) x.event rem) (all k below)

  room : (n : ℕ) (at : Option (ℕ × ℕ)) → IsMet run n at → NothingForgotten run → n ≤ run.capacity
  room n None met all = omega (arith, met)
  room n (Some at) met all =
      let past = reverse (take at.1 (record_of run at.0)) in
      let x = slice_index_or (record_of run at.0) at.1 no_entry in
      fits run.capacity (owner_of run at.0) past (now (x ∷ past)) x.event n (from_each (Kept at.0) (record_of run at.0) (all at.0 met.node) at.1 met.place no_entry) (met.needs no_entry)

  pub remembered_by : (n : ℕ) → NothingExpired run → needed.entries ≤ n → (k : ℕ) → k < length run.places →
      Each (λ x past. Remembers n (owner_of run k) past (now (x ∷ past)) x.event) (past_of run k)
  remembered_by n unexpired low k below = each_two (Young k) (Bound k) (λ x past. Remembers n (owner_of run k) past (now (x ∷ past)) x.event) (past_of run k)
      (λ x past fresh bound. remembers n (owner_of run k) past (now (x ∷ past)) x.event fresh (λ m needs. let h = bound m needs in omega (arith, h, low)))
      (unexpired k below) (most.most k below)

pub just_enough : (run : Run) (needed : Needed) → IsMost run needed → IsJustEnough run needed.entries
just_enough run needed most = (λ all. (expired run needed most all, room run needed most needed.entries needed.at most.met all), λ both. remembered_by run needed most run.capacity both.0 both.1)
