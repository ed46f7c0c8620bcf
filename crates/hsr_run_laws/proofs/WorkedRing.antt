-- Group round a ring: a ring of three nodes, the second in mode U, of which the first sends to a group. Each of the others
-- takes the first copy up and passes both on, and both come back. All that the law asks for holds, so each of the others took
-- the frame up once; and it doesn't if a copy that was taken counts as lost.
use Rattle.std.proofs.Common.{◌≡◌, if◌then◌else◌, ◌||◌, subst, slice_index_or, ◌⊎◌, ℕ, ◌+◌, ◌%◌, ◌<◌, ◌==◌, true, false, not, List, [], ◌∷◌, length, count_by, Option, Some, None, IsPermutation, refl, sym, ap, ◌∙◌, arith, inl, inr, zero, suc}
use Rattle.std.specs.List.{list_any, AllByRecursion}
use Rattle.std.proofs.lemmas.List.Sorted.{IsPermutation-refl, length_permutation}
use Rattle.std.proofs.lemmas.Bool.{and_right, false≢true}
use Rattle.hsr_frame.specs.Address.{is_group}
use Rattle.hsr_frame.specs.Egress.{Egress, up, a, b, c, d}
use Rattle.hsr_frame.specs.declared.node.Cause.TheVariants.{Passed, Returned}
use Rattle.hsr_frame.specs.declared.node.Mode.TheVariants.{H, U}
use Rattle.hsr_duptable.specs.Key.{Key, is_same_key}
use Rattle.hsr_tag.specs.Seen.{classified}
use Rattle.hsr_node.specs.Copies.{copy_octets, passed_octets}
use Rattle.hsr_node.specs.Counts.{counters}
use Rattle.hsr_node.specs.Flow.{arrivals}
use Rattle.hsr_node.specs.Record.{Each, IsLegal, Noted, Owner, notes, now, remembered}
use Rattle.hsr_node.specs.declared.entry.Entry.{Entry}
use Rattle.hsr_node.specs.declared.event.Event.{Event}
use Rattle.hsr_node.specs.declared.event.Event.TheVariants.{Send, Supervise, Arrive, Age}
use Rattle.hsr_node.specs.declared.event.Outcome.TheVariants.{Sent}
use Rattle.hsr_node.specs.declared.event.Probe.{Probe}
use Rattle.hsr_node.specs.declared.place.Place.TheVariants.{Danh}
use Rattle.hsr_link.specs.declared.row.Dir.{Dir}
use Rattle.hsr_link.specs.declared.row.Dir.TheVariants.{Forth, Back}
use Rattle.hsr_link.specs.declared.row.Fate.TheVariants.{LostDown}
use Rattle.hsr_link.specs.declared.row.Row.{Row}
use Rattle.hsr_run_laws.specs.Closed.{HasLink, IsClosed, IsOfSend, IsSettled, PutAgrees, TakenAgrees}
use Rattle.hsr_run_laws.specs.Once.{IsExactlyOnce, delivers}
use Rattle.hsr_run_laws.specs.Premises.{IsRing, Joins, KnowsOwn, NothingForgotten, NothingMistaken, OneLossyLink, Remembers, is_mistaken, is_note_of, mac_at}
use Rattle.hsr_run_laws.specs.Run.{Run, ends_of, owner_of, past_of, place_of, record_of, rows_of}
use Rattle.hsr_run_laws.proofs.Once.{exactly_once}
use Rattle.hsr_run_laws.proofs.Records.{each_so}
use Rattle.hsr_run_laws.proofs.Worked.{copy, entry, far, frame, group, join, judged, mac, nothing_far, of_tagged, row, tagged_copy}

-- the run, with these rows
abbrev run_with : List (List Row) → Run
run_with rows = record {
  capacity = 512;
  places = Danh (mac 1) H ∷ Danh (mac 2) U ∷ Danh (mac 3) H ∷ [];
  links = join 0 1 ∷ join 1 2 ∷ join 2 0 ∷ [];
  records = (entry (Send 0 group None 0x0800 (0xAA ∷ 0xBB ∷ [])) (Sent (Some 0) (true ∷ true ∷ false ∷ false ∷ []))
      ∷ entry (Arrive 0 (copy 1)) (judged false false false Returned) ∷ entry (Arrive 1 (copy 0)) (judged false false false Returned) ∷ [])
      ∷ (entry (Arrive 0 (copy 1)) (judged true false true Passed) ∷ entry (Arrive 1 (copy 0)) (judged false true false Passed) ∷ [])
      ∷ (entry (Arrive 1 (copy 0)) (judged true true false Passed) ∷ entry (Arrive 0 (copy 1)) (judged false false true Passed) ∷ []) ∷ [];
  rows = rows;
}

abbrev both_ways : List Row
both_ways = row Forth 1 ∷ row Back 0 ∷ []

abbrev ring3 : Run
ring3 = run_with (both_ways ∷ both_ways ∷ both_ways ∷ [])

abbrev macs : List (List ℕ)
macs = mac 1 ∷ mac 2 ∷ mac 3 ∷ []

-- ---- it is closed

legal_at : (k : ℕ) → k < 3 → IsLegal 512 (owner_of ring3 k) (past_of ring3 k)
unfolding IsLegal classified
legal_at zero h = (refl, (refl, (refl, tt)))
legal_at (suc zero) h = (refl, (refl, tt))
legal_at (suc (suc zero)) h = (refl, (refl, tt))
legal_at (suc (suc (suc k))) h = absurd (omega arith)

of_send : (path : ℕ) → path < 2 → IsOfSend ring3 (copy path)
of_send path h = of_tagged ring3 (record { node = 0; place = 0 }) (record { frame = frame; seq = Some 0 }) path 0 (copy path) refl (tagged_copy path h) (omega arith, refl) refl

settled_rows : AllByRecursion (IsSettled ring3) both_ways
settled_rows = (record { put = refl; origin = of_send 1 (omega arith); gone = refl }, (record { put = refl; origin = of_send 0 (omega arith); gone = refl }, tt))

settled_at : (l : ℕ) → l < 3 → AllByRecursion (IsSettled ring3) (rows_of ring3 l)
settled_at zero h = settled_rows
settled_at (suc zero) h = settled_rows
settled_at (suc (suc zero)) h = settled_rows
settled_at (suc (suc (suc l))) h = absurd (omega arith)

put_at : (l : ℕ) (dir : Dir) → l < 3 → PutAgrees ring3 l dir
unfolding copy_octets passed_octets
put_at zero Forth h = IsPermutation-refl (copy 1 ∷ [])
put_at zero Back h = IsPermutation-refl (copy 0 ∷ [])
put_at (suc zero) Forth h = IsPermutation-refl (copy 1 ∷ [])
put_at (suc zero) Back h = IsPermutation-refl (copy 0 ∷ [])
put_at (suc (suc zero)) Forth h = IsPermutation-refl (copy 1 ∷ [])
put_at (suc (suc zero)) Back h = IsPermutation-refl (copy 0 ∷ [])
put_at (suc (suc (suc l))) dir h = absurd (omega arith)

taken_at : (l : ℕ) (dir : Dir) → l < 3 → TakenAgrees ring3 l dir
taken_at zero Forth h = IsPermutation-refl (copy 1 ∷ [])
taken_at zero Back h = IsPermutation-refl (copy 0 ∷ [])
taken_at (suc zero) Forth h = IsPermutation-refl (copy 1 ∷ [])
taken_at (suc zero) Back h = IsPermutation-refl (copy 0 ∷ [])
taken_at (suc (suc zero)) Forth h = IsPermutation-refl (copy 1 ∷ [])
taken_at (suc (suc zero)) Back h = IsPermutation-refl (copy 0 ∷ [])
taken_at (suc (suc (suc l))) dir h = absurd (omega arith)

linked_at : (k port : ℕ) → k < 3 → HasLink ring3 k port ⊎ (arrivals port (past_of ring3 k) ≡ [])
linked_at zero zero h = inl (record { link = 2; dir = Forth; below = omega arith; ends = refl })
linked_at zero (suc zero) h = inl (record { link = 0; dir = Back; below = omega arith; ends = refl })
linked_at (suc zero) zero h = inl (record { link = 0; dir = Forth; below = omega arith; ends = refl })
linked_at (suc zero) (suc zero) h = inl (record { link = 1; dir = Back; below = omega arith; ends = refl })
linked_at (suc (suc zero)) zero h = inl (record { link = 1; dir = Forth; below = omega arith; ends = refl })
linked_at (suc (suc zero)) (suc zero) h = inl (record { link = 2; dir = Back; below = omega arith; ends = refl })
linked_at zero (suc (suc p)) h = inr (nothing_far (1 == suc (suc p)) (0 == suc (suc p)) (copy 0) (copy 1) (far 1 p (omega arith)) (far 0 p (omega arith)))
linked_at (suc zero) (suc (suc p)) h = inr (nothing_far (1 == suc (suc p)) (0 == suc (suc p)) (copy 0) (copy 1) (far 1 p (omega arith)) (far 0 p (omega arith)))
linked_at (suc (suc zero)) (suc (suc p)) h = inr (nothing_far (0 == suc (suc p)) (1 == suc (suc p)) (copy 1) (copy 0) (far 0 p (omega arith)) (far 1 p (omega arith)))
linked_at (suc (suc (suc k))) p h = absurd (omega arith)

pub is_closed : IsClosed ring3
is_closed = record { tables = (omega arith, omega arith); records = refl; rows = refl; legal = legal_at; put = put_at; taken = taken_at; settled = settled_at; linked = linked_at }

-- ---- it is a ring, and loses nothing

single_at : (k : ℕ) → k < 3 → is_group (mac_at macs k) ≡ false
single_at zero h = refl
single_at (suc zero) h = refl
single_at (suc (suc zero)) h = refl
single_at (suc (suc (suc k))) h = absurd (omega arith)

abbrev last : List ℕ → ℕ
last xs = slice_index_or xs 5 0

-- the last octet of an address tells which it is
last_at : (k : ℕ) → k < 3 → last (mac_at macs k) ≡ k + 1
last_at zero h = refl
last_at (suc zero) h = refl
last_at (suc (suc zero)) h = refl
last_at (suc (suc (suc k))) h = absurd (omega arith)

differ_at : (i j : ℕ) → i < 3 → j < 3 → mac_at macs i ≡ mac_at macs j → i ≡ j
differ_at i j g h e = let here = last_at i g in let there = last_at j h in let same : last (mac_at macs i) ≡ last (mac_at macs j) = ap last e in omega arith

joined_at : (k : ℕ) → k < 3 → Joins (ends_of ring3 k) k ((k + 1) % 3)
joined_at zero h = inl (refl, refl)
joined_at (suc zero) h = inl (refl, refl)
joined_at (suc (suc zero)) h = inl (refl, refl)
joined_at (suc (suc (suc k))) h = absurd (omega arith)

nodes_at : (k : ℕ) → k < 3 → (place_of ring3 k ≡ Danh (mac_at macs k) H) ⊎ (place_of ring3 k ≡ Danh (mac_at macs k) U)
nodes_at zero h = inl refl
nodes_at (suc zero) h = inr refl
nodes_at (suc (suc zero)) h = inl refl
nodes_at (suc (suc (suc k))) h = absurd (omega arith)

pub is_ring : IsRing ring3 macs
is_ring = record { two = omega arith; places = refl; nodes = nodes_at; single = single_at; differ = differ_at; count = refl; joined = joined_at }

pub lossless : OneLossyLink ring3
lossless zero j g h here there = absurd (false≢true here)
lossless (suc zero) j g h here there = absurd (false≢true here)
lossless (suc (suc zero)) j g h here there = absurd (false≢true here)
lossless (suc (suc (suc i))) j g h here there = absurd (omega arith)

-- ---- nothing is forgotten, and nothing mistaken

-- where something comes all notes are still remembered, and are of its send
abbrev OwnNotes : Owner → List Entry → ℕ → Event → Egress → Type 0
OwnNotes owner past at (Arrive port copy) e =
    (remembered 512 at (notes owner e past) ≡ notes owner e past) × AllByRecursion (λ n. is_note_of copy.probe n ≡ true) (notes owner e past)
OwnNotes owner past at event e = Unit {0}

at_each : (P : Egress → Type 0) → P up → P a → P b → P c → P d → (e : Egress) → P e
at_each P x y z v w up = x
at_each P x y z v w a = y
at_each P x y z v w b = z
at_each P x y z v w c = v
at_each P x y z v w d = w

own_notes : (k : ℕ) → k < 3 → Each (λ x past. (e : Egress) → OwnNotes (owner_of ring3 k) past (now (x ∷ past)) x.event e) (past_of ring3 k)
unfolding classified
own_notes zero h = (
  at_each _ (refl, tt) (refl, (refl, tt)) (refl, (refl, tt)) (refl, tt) (refl, tt),
  (at_each _ (refl, tt) (refl, (refl, tt)) (refl, (refl, tt)) (refl, tt) (refl, tt), ((λ e. tt), tt)),
)
own_notes (suc zero) h =
    (at_each _ (refl, (refl, tt)) (refl, tt) (refl, (refl, tt)) (refl, tt) (refl, tt), ((λ e. (refl, tt)), tt))
own_notes (suc (suc zero)) h =
    (at_each _ (refl, (refl, tt)) (refl, (refl, tt)) (refl, tt) (refl, tt) (refl, tt), ((λ e. (refl, tt)), tt))
own_notes (suc (suc (suc k))) h = absurd (omega arith)

none_mistaken : (key : Key) (probe : Option Probe) (ns : List Noted) → AllByRecursion (λ n. is_note_of probe n ≡ true) ns → list_any (is_mistaken key probe) ns ≡ false
none_mistaken key probe [] h = refl
none_mistaken key probe (n ∷ ns) h =
    let mine : is_mistaken key probe n ≡ false = and_right (is_same_key n.key key) (not (is_note_of probe n)) (ap not h.0) in
    ap (λ x. x || list_any (is_mistaken key probe) ns) mine ∙ none_mistaken key probe ns h.1

keeps : (owner : Owner) (past : List Entry) (at : ℕ) (event : Event) → ((e : Egress) → OwnNotes owner past at event e) → Remembers 512 owner past at event
keeps owner past at (Arrive port copy) all = λ ring e wanted noted. subst (λ ns. list_any (is_note_of copy.probe) ns ≡ true) (sym (all e).0) noted
keeps owner past at (Send from dst vlan ethertype payload) all = tt
keeps owner past at (Supervise about) all = tt
keeps owner past at Age all = tt

tells : (owner : Owner) (past : List Entry) (at : ℕ) (event : Event) → ((e : Egress) → OwnNotes owner past at event e) → KnowsOwn 512 owner past at event
tells owner past at (Arrive port copy) all = λ ring e wanted key is.
    ap (λ ns. list_any (is_mistaken key copy.probe) ns) (all e).0 ∙ none_mistaken key copy.probe (notes owner e past) (all e).1
tells owner past at (Send from dst vlan ethertype payload) all = tt
tells owner past at (Supervise about) all = tt
tells owner past at Age all = tt

pub remembers_all : NothingForgotten ring3
remembers_all k h = each_so (λ x past. (e : Egress) → OwnNotes (owner_of ring3 k) past (now (x ∷ past)) x.event e) (λ x past. Remembers 512 (owner_of ring3 k) past (now (x ∷ past)) x.event) (past_of ring3 k)
    (λ x past all. keeps (owner_of ring3 k) past (now (x ∷ past)) x.event all) (own_notes k h)

pub mistakes_none : NothingMistaken ring3
mistakes_none k h = each_so (λ x past. (e : Egress) → OwnNotes (owner_of ring3 k) past (now (x ∷ past)) x.event e) (λ x past. KnowsOwn 512 (owner_of ring3 k) past (now (x ∷ past)) x.event) (past_of ring3 k)
    (λ x past all. tells (owner_of ring3 k) past (now (x ∷ past)) x.event all) (own_notes k h)

-- so each of the others took the frame up once, and nobody else did
pub delivered_once : IsExactlyOnce ring3 macs
delivered_once = exactly_once ring3 macs is_closed is_ring lossless remembers_all mistakes_none

-- as the records say themselves
pub counted_once : (k : ℕ) → k < 3 → count_by (delivers (record { node = 0; place = 0 })) (record_of ring3 k) ≡ (if k == 0 then 0 else 1)
counted_once zero h = refl
counted_once (suc zero) h = refl
counted_once (suc (suc zero)) h = refl
counted_once (suc (suc (suc k))) h = absurd (omega arith)

-- the counters of the first, and of the others
pub counted_first : let c = counters (place_of ring3 0) (past_of ring3 0) in (c.sent ≡ 1) × (c.returned ≡ 2) × (c.up ≡ 0) × (c.forwarded ≡ 0)
counted_first = (refl, refl, refl, refl)

pub counted_others : (k : ℕ) → 0 < k → k < 3 → let c = counters (place_of ring3 k) (past_of ring3 k) in (c.sent ≡ 0) × (c.returned ≡ 0) × (c.up ≡ 1) × (c.forwarded ≡ 2)
counted_others zero g h = absurd (omega arith)
counted_others (suc zero) g h = (refl, refl, refl, refl)
counted_others (suc (suc zero)) g h = (refl, refl, refl, refl)
counted_others (suc (suc (suc k))) g h = absurd (omega arith)

-- ---- with a copy that was taken counted as lost it isn't

abbrev one_lost : Run
one_lost = run_with ((record (row Forth 1) { fate = LostDown } ∷ row Back 0 ∷ []) ∷ both_ways ∷ both_ways ∷ [])

pub not_closed : IsClosed one_lost → ⊥
not_closed closed =
    let moved : IsPermutation [] (copy 1 ∷ []) = closed.taken 0 Forth (omega arith) in
    let long : length (copy 1 ∷ []) ≡ 0 = length_permutation [] (copy 1 ∷ []) moved in omega arith
