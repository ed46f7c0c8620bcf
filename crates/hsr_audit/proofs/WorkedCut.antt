-- One link lost: a ring of three nodes, of which the first sends to a group, and the copy by its link to the second is lost.
-- The other copy goes all the way round. All that the law asks for holds, so each of the others took the frame up once. With
-- that copy lost as well, on another link, the run is closed too, but nobody took the frame up.
use Rattle.std.proofs.Common.{◌≡◌, if◌then◌else◌, ◌&&◌, ◌||◌, subst, ◌⊎◌, ℕ, ◌<◌, ◌==◌, Bool, true, false, List, [], ◌∷◌, count_by, Some, None, refl, sym, arith, inl, inr, zero, suc}
use Rattle.std.specs.List.{list_any, AllByRecursion}
use Rattle.std.proofs.lemmas.List.Sorted.{IsPermutation-refl}
use Rattle.std.proofs.lemmas.Bool.{false≢true}
use Rattle.hsr_frame.specs.Egress.{Egress, up, a, b, c, d}
use Rattle.hsr_frame.specs.declared.node.Cause.TheVariants.{Passed, Returned}
use Rattle.hsr_frame.specs.declared.node.Mode.TheVariants.{H, U}
use Rattle.hsr_duptable.specs.Key.{Key, is_same_key}
use Rattle.hsr_tag.specs.Seen.{classified}
use Rattle.hsr_node.specs.Copies.{copy_octets, passed_octets}
use Rattle.hsr_node.specs.Flow.{arrivals}
use Rattle.hsr_node.specs.Record.{IsLegal, notes, remembered}
use Rattle.hsr_node.specs.declared.entry.Entry.{Entry}
use Rattle.hsr_node.specs.declared.event.Event.TheVariants.{Send, Arrive}
use Rattle.hsr_node.specs.declared.event.Outcome.TheVariants.{Sent}
use Rattle.hsr_node.specs.declared.place.Place.TheVariants.{Danh}
use Rattle.hsr_link.specs.declared.row.Dir.{Dir}
use Rattle.hsr_link.specs.declared.row.Dir.TheVariants.{Forth, Back}
use Rattle.hsr_link.specs.declared.row.Fate.TheVariants.{LostDown}
use Rattle.hsr_link.specs.declared.row.Row.{Row}
use Rattle.hsr_run_laws.specs.Closed.{HasLink, IsClosed, IsOfSend, IsSettled, PutAgrees, TakenAgrees}
use Rattle.hsr_run_laws.specs.Once.{IsExactlyOnce, delivers}
use Rattle.hsr_run_laws.specs.Premises.{IsRing, NothingForgotten, NothingMistaken, OneLossyLink, any_lost, is_mistaken, is_note_of, mac_at}
use Rattle.hsr_run_laws.specs.Run.{Run, owner_of, past_of, place_of, record_of, rows_of}
use Rattle.hsr_run_laws.proofs.Once.{exactly_once}
use Rattle.hsr_run_laws.proofs.Worked.{copy, entry, far, frame, group, join, judged, mac, nothing_else, of_tagged, row, tagged_copy}
use Rattle.hsr_run_laws.proofs.WorkedRing as whole

-- the copy of a path is lost on its way
abbrev lost : Dir → ℕ → Row
lost dir path = record (row dir path) { fate = LostDown }

abbrev send : Entry
send = entry (Send 0 group None 0x0800 (0xAA ∷ 0xBB ∷ [])) (Sent (Some 0) (true ∷ true ∷ false ∷ false ∷ []))

-- the run, with these records and rows
abbrev run_with : List (List Entry) → List (List Row) → Run
run_with records rows = record {
  capacity = 512;
  places = Danh (mac 1) H ∷ Danh (mac 2) U ∷ Danh (mac 3) H ∷ [];
  links = join 0 1 ∷ join 1 2 ∷ join 2 0 ∷ [];
  records = records;
  rows = rows;
}

abbrev macs : List (List ℕ)
macs = mac 1 ∷ mac 2 ∷ mac 3 ∷ []

abbrev cut : Run
cut = run_with ((send ∷ entry (Arrive 1 (copy 0)) (judged false false false Returned) ∷ [])
    ∷ (entry (Arrive 1 (copy 0)) (judged true true false Passed) ∷ []) ∷ (entry (Arrive 1 (copy 0)) (judged true true false Passed) ∷ []) ∷ [])
    ((lost Forth 1 ∷ row Back 0 ∷ []) ∷ (row Back 0 ∷ []) ∷ (row Back 0 ∷ []) ∷ [])

-- ---- it is closed

legal_at : (k : ℕ) → k < 3 → IsLegal 512 (owner_of cut k) (past_of cut k)
unfolding IsLegal classified
legal_at zero h = (refl, (refl, tt))
legal_at (suc zero) h = (refl, tt)
legal_at (suc (suc zero)) h = (refl, tt)
legal_at (suc (suc (suc k))) h = absurd (omega arith)

of_send : (path : ℕ) → path < 2 → IsOfSend cut (copy path)
of_send path h = of_tagged cut (record { node = 0; place = 0 }) (record { frame = frame; seq = Some 0 }) path 0 (copy path) refl (tagged_copy path h) (omega arith, refl) refl

settled_at : (l : ℕ) → l < 3 → AllByRecursion (IsSettled cut) (rows_of cut l)
settled_at zero h = (record { put = refl; origin = of_send 1 (omega arith); gone = refl }, (record { put = refl; origin = of_send 0 (omega arith); gone = refl }, tt))
settled_at (suc zero) h = (record { put = refl; origin = of_send 0 (omega arith); gone = refl }, tt)
settled_at (suc (suc zero)) h = (record { put = refl; origin = of_send 0 (omega arith); gone = refl }, tt)
settled_at (suc (suc (suc l))) h = absurd (omega arith)

put_at : (l : ℕ) (dir : Dir) → l < 3 → PutAgrees cut l dir
unfolding copy_octets passed_octets
put_at zero Forth h = IsPermutation-refl (copy 1 ∷ [])
put_at zero Back h = IsPermutation-refl (copy 0 ∷ [])
put_at (suc zero) Forth h = IsPermutation-refl []
put_at (suc zero) Back h = IsPermutation-refl (copy 0 ∷ [])
put_at (suc (suc zero)) Forth h = IsPermutation-refl []
put_at (suc (suc zero)) Back h = IsPermutation-refl (copy 0 ∷ [])
put_at (suc (suc (suc l))) dir h = absurd (omega arith)

taken_at : (l : ℕ) (dir : Dir) → l < 3 → TakenAgrees cut l dir
taken_at zero Forth h = IsPermutation-refl []
taken_at zero Back h = IsPermutation-refl (copy 0 ∷ [])
taken_at (suc zero) Forth h = IsPermutation-refl []
taken_at (suc zero) Back h = IsPermutation-refl (copy 0 ∷ [])
taken_at (suc (suc zero)) Forth h = IsPermutation-refl []
taken_at (suc (suc zero)) Back h = IsPermutation-refl (copy 0 ∷ [])
taken_at (suc (suc (suc l))) dir h = absurd (omega arith)

linked_at : (k port : ℕ) → k < 3 → HasLink cut k port ⊎ (arrivals port (past_of cut k) ≡ [])
linked_at zero zero h = inr refl
linked_at (suc zero) zero h = inr refl
linked_at (suc (suc zero)) zero h = inr refl
linked_at zero (suc zero) h = inl (record { link = 0; dir = Back; below = omega arith; ends = refl })
linked_at (suc zero) (suc zero) h = inl (record { link = 1; dir = Back; below = omega arith; ends = refl })
linked_at (suc (suc zero)) (suc zero) h = inl (record { link = 2; dir = Back; below = omega arith; ends = refl })
linked_at zero (suc (suc p)) h = inr (nothing_else (1 == suc (suc p)) (copy 0) (far 1 p (omega arith)))
linked_at (suc zero) (suc (suc p)) h = inr (nothing_else (1 == suc (suc p)) (copy 0) (far 1 p (omega arith)))
linked_at (suc (suc zero)) (suc (suc p)) h = inr (nothing_else (1 == suc (suc p)) (copy 0) (far 1 p (omega arith)))
linked_at (suc (suc (suc k))) p h = absurd (omega arith)

pub is_closed : IsClosed cut
is_closed = record { tables = (omega arith, omega arith); records = refl; rows = refl; legal = legal_at; put = put_at; taken = taken_at; settled = settled_at; linked = linked_at }

-- ---- it is a ring, and loses a copy on one link alone

nodes_at : (k : ℕ) → k < 3 → (place_of cut k ≡ Danh (mac_at macs k) H) ⊎ (place_of cut k ≡ Danh (mac_at macs k) U)
nodes_at zero h = inl refl
nodes_at (suc zero) h = inr refl
nodes_at (suc (suc zero)) h = inl refl
nodes_at (suc (suc (suc k))) h = absurd (omega arith)

pub is_ring : IsRing cut macs
is_ring = record {
  two = whole.is_ring.two;
  places = refl;
  nodes = nodes_at;
  single = whole.is_ring.single;
  differ = whole.is_ring.differ;
  count = refl;
  joined = whole.is_ring.joined;
}

pub has_lost : any_lost (rows_of cut 0) ≡ true
has_lost = refl

lost_at : (l : ℕ) → l < 3 → any_lost (rows_of cut l) ≡ true → l ≡ 0
lost_at zero h there = refl
lost_at (suc zero) h there = absurd (false≢true there)
lost_at (suc (suc zero)) h there = absurd (false≢true there)
lost_at (suc (suc (suc l))) h there = absurd (omega arith)

pub one_lossy : OneLossyLink cut
one_lossy i j g h here there = let first = lost_at i g here in let second = lost_at j h there in omega arith

-- ---- nothing is forgotten, and nothing mistaken

-- where the first node's own copy comes back its note is still remembered, and is of its send
own_remembered : (e : Egress) → remembered 512 0 (notes (owner_of cut 0) e (send ∷ [])) ≡ notes (owner_of cut 0) e (send ∷ [])
own_remembered up = refl
own_remembered a = refl
own_remembered b = refl
own_remembered c = refl
own_remembered d = refl

alone : (x : Bool) → ((x && false) || false) ≡ false
alone true = refl
alone false = refl

own_known : (e : Egress) (key : Key) → list_any (is_mistaken key (copy 0).probe) (remembered 512 0 (notes (owner_of cut 0) e (send ∷ []))) ≡ false
own_known up key = refl
own_known a key = alone (is_same_key (record { src = mac 1; seq = 0 }) key)
own_known b key = alone (is_same_key (record { src = mac 1; seq = 0 }) key)
own_known c key = refl
own_known d key = refl

pub remembers_all : NothingForgotten cut
remembers_all zero h = ((λ ring e wanted noted. subst (λ ns. list_any (is_note_of (copy 0).probe) ns ≡ true) (sym (own_remembered e)) noted), (tt, tt))
remembers_all (suc zero) h = ((λ ring e wanted noted. noted), tt)
remembers_all (suc (suc zero)) h = ((λ ring e wanted noted. noted), tt)
remembers_all (suc (suc (suc k))) h = absurd (omega arith)

pub mistakes_none : NothingMistaken cut
mistakes_none zero h = ((λ ring e wanted key is. own_known e key), (tt, tt))
mistakes_none (suc zero) h = ((λ ring e wanted key is. refl), tt)
mistakes_none (suc (suc zero)) h = ((λ ring e wanted key is. refl), tt)
mistakes_none (suc (suc (suc k))) h = absurd (omega arith)

-- so each of the others took the frame up once, and nobody else did
pub delivered_once : IsExactlyOnce cut macs
delivered_once = exactly_once cut macs is_closed is_ring one_lossy remembers_all mistakes_none

-- as the records say themselves
pub counted_once : (k : ℕ) → k < 3 → count_by (delivers (record { node = 0; place = 0 })) (record_of cut k) ≡ (if k == 0 then 0 else 1)
counted_once zero h = refl
counted_once (suc zero) h = refl
counted_once (suc (suc zero)) h = refl
counted_once (suc (suc (suc k))) h = absurd (omega arith)

-- ---- with the other copy lost on another link nobody takes it up

abbrev lost_twice : Run
lost_twice = run_with ((send ∷ []) ∷ [] ∷ [] ∷ []) ((lost Forth 1 ∷ []) ∷ [] ∷ (lost Back 0 ∷ []) ∷ [])

legal_twice : (k : ℕ) → k < 3 → IsLegal 512 (owner_of lost_twice k) (past_of lost_twice k)
unfolding IsLegal
legal_twice zero h = (refl, tt)
legal_twice (suc zero) h = tt
legal_twice (suc (suc zero)) h = tt
legal_twice (suc (suc (suc k))) h = absurd (omega arith)

of_lost : (path : ℕ) → path < 2 → IsOfSend lost_twice (copy path)
of_lost path h = of_tagged lost_twice (record { node = 0; place = 0 }) (record { frame = frame; seq = Some 0 }) path 0 (copy path) refl (tagged_copy path h) (omega arith, refl) refl

settled_twice : (l : ℕ) → l < 3 → AllByRecursion (IsSettled lost_twice) (rows_of lost_twice l)
settled_twice zero h = (record { put = refl; origin = of_lost 1 (omega arith); gone = refl }, tt)
settled_twice (suc zero) h = tt
settled_twice (suc (suc zero)) h = (record { put = refl; origin = of_lost 0 (omega arith); gone = refl }, tt)
settled_twice (suc (suc (suc l))) h = absurd (omega arith)

put_twice : (l : ℕ) (dir : Dir) → l < 3 → PutAgrees lost_twice l dir
unfolding copy_octets passed_octets
put_twice zero Forth h = IsPermutation-refl (copy 1 ∷ [])
put_twice zero Back h = IsPermutation-refl []
put_twice (suc zero) Forth h = IsPermutation-refl []
put_twice (suc zero) Back h = IsPermutation-refl []
put_twice (suc (suc zero)) Forth h = IsPermutation-refl []
put_twice (suc (suc zero)) Back h = IsPermutation-refl (copy 0 ∷ [])
put_twice (suc (suc (suc l))) dir h = absurd (omega arith)

taken_twice : (l : ℕ) (dir : Dir) → l < 3 → TakenAgrees lost_twice l dir
taken_twice zero Forth h = IsPermutation-refl []
taken_twice zero Back h = IsPermutation-refl []
taken_twice (suc zero) Forth h = IsPermutation-refl []
taken_twice (suc zero) Back h = IsPermutation-refl []
taken_twice (suc (suc zero)) Forth h = IsPermutation-refl []
taken_twice (suc (suc zero)) Back h = IsPermutation-refl []
taken_twice (suc (suc (suc l))) dir h = absurd (omega arith)

nothing_came : (k port : ℕ) → k < 3 → arrivals port (past_of lost_twice k) ≡ []
nothing_came zero port h = refl
nothing_came (suc zero) port h = refl
nothing_came (suc (suc zero)) port h = refl
nothing_came (suc (suc (suc k))) port h = absurd (omega arith)

pub is_closed_too : IsClosed lost_twice
is_closed_too = record { tables = (omega arith, omega arith); records = refl; rows = refl; legal = legal_twice; put = put_twice; taken = taken_twice; settled = settled_twice; linked = λ k port h. inr (nothing_came k port h) }

pub two_lossy : OneLossyLink lost_twice → ⊥
two_lossy one = let same = one 0 2 (omega arith) (omega arith) refl refl in omega arith

never : (n : ℕ) → n ≡ 0 → n ≡ 1 → ⊥
never n none one = omega arith

pub not_once : IsExactlyOnce lost_twice macs → ⊥
not_once all =
    let took = all.once (record { node = 0; place = 0 }) (record { frame = frame; seq = Some 0 }) 1 (omega arith, refl) (omega arith) refl in
    never (count_by (delivers (record { node = 0; place = 0 })) (record_of lost_twice 1)) refl took
