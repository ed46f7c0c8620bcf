-- Two links lost: a ring of two nodes, of which the first sends to the other twice. Of the first frame the copy on the one
-- link is lost, of the second that on the other. The run is closed and the frames come up, but there is more than one
-- lossy link.
use Rattle.std.proofs.Common.{◌≡◌, ◌⊎◌, ℕ, ◌<◌, ◌==◌, true, false, [], ◌∷◌, count_by, Some, None, Ok, IsPermutation, refl, arith, inl, inr, zero, suc}
use Rattle.std.specs.List.{AllByRecursion}
use Rattle.std.proofs.lemmas.List.Sorted.{IsPermutation-refl}
use Rattle.hsr_frame.specs.Grammar.{Fields}
use Rattle.hsr_frame.specs.declared.node.Cause.TheVariants.{Passed}
use Rattle.hsr_frame.specs.declared.node.Mode.TheVariants.{H, U}
use Rattle.hsr_tag.specs.Seen.{classified}
use Rattle.hsr_tag.specs.Tag.{tag_of, tagged_spelling}
use Rattle.hsr_tag.specs.declared.seen.Seen.TheVariants.{Tagged}
use Rattle.hsr_node.specs.Copies.{copy_octets, passed_octets}
use Rattle.hsr_node.specs.Flow.{arrivals}
use Rattle.hsr_node.specs.Record.{IsLegal}
use Rattle.hsr_node.specs.declared.event.Carried.{Carried}
use Rattle.hsr_node.specs.declared.event.Event.{Event}
use Rattle.hsr_node.specs.declared.event.Event.TheVariants.{Send, Arrive}
use Rattle.hsr_node.specs.declared.event.Outcome.{Outcome}
use Rattle.hsr_node.specs.declared.event.Outcome.TheVariants.{Sent}
use Rattle.hsr_node.specs.declared.place.Place.TheVariants.{Danh}
use Rattle.hsr_link.specs.declared.row.Dir.{Dir}
use Rattle.hsr_link.specs.declared.row.Dir.TheVariants.{Forth, Back}
use Rattle.hsr_link.specs.declared.row.Fate.{Fate}
use Rattle.hsr_link.specs.declared.row.Fate.TheVariants.{Taken, LostDown}
use Rattle.hsr_link.specs.declared.row.Row.{Row}
use Rattle.hsr_run_laws.specs.Closed.{HasLink, IsClosed, IsOfSend, IsSettled, PutAgrees, TakenAgrees}
use Rattle.hsr_run_laws.specs.Once.{delivers}
use Rattle.hsr_run_laws.specs.Premises.{IsRing, OneLossyLink, mac_at}
use Rattle.hsr_run_laws.specs.Run.{Run, owner_of, past_of, place_of, record_of, rows_of}
use Rattle.hsr_run_laws.proofs.Worked as two_nodes
use Rattle.hsr_run_laws.proofs.Worked.{entry, far, join, judged, mac, macs, nothing_far, of_tagged}

abbrev frame : Fields
frame = record { dst = mac 2; src = mac 1; vlan = None; kind = 0x0800; rest = 0xAA ∷ 0xBB ∷ [] }

-- the copy of a send and a path
abbrev copy : ℕ → ℕ → Carried
copy n path = record { probe = Some (record { node = 0; place = n }); octets = tagged_spelling (tag_of frame path n) }

abbrev sent : Event
sent = Send 0 (mac 2) None 0x0800 (0xAA ∷ 0xBB ∷ [])

abbrev numbered : ℕ → Outcome
numbered n = Sent (Some n) (true ∷ true ∷ false ∷ false ∷ [])

abbrev went : Dir → Carried → Fate → Row
went dir carried fate = record { dir = dir; carried = carried; injected = false; fate = fate }

abbrev lossy : Run
lossy = record {
  capacity = 512;
  places = Danh (mac 1) H ∷ Danh (mac 2) H ∷ [];
  links = join 0 1 ∷ join 1 0 ∷ [];
  records = (entry sent (numbered 0) ∷ entry sent (numbered 1) ∷ [])
      ∷ (entry (Arrive 1 (copy 0 0)) (judged true false false Passed) ∷ entry (Arrive 0 (copy 1 1)) (judged true false false Passed) ∷ []) ∷ [];
  rows = (went Forth (copy 0 1) LostDown ∷ went Forth (copy 1 1) Taken ∷ []) ∷ (went Back (copy 0 0) Taken ∷ went Back (copy 1 0) LostDown ∷ []) ∷ [];
}

-- ---- it is closed

legal_at : (k : ℕ) → k < 2 → IsLegal 512 (owner_of lossy k) (past_of lossy k)
unfolding IsLegal classified
legal_at zero h = (refl, (refl, tt))
legal_at (suc zero) h = (refl, (refl, tt))
legal_at (suc (suc k)) h = absurd (omega arith)

tagged : (n path : ℕ) → n < 2 → path < 2 → classified (copy n path).octets ≡ Ok (Tagged (tag_of frame path n))
unfolding classified
tagged zero zero g h = refl
tagged zero (suc zero) g h = refl
tagged (suc zero) zero g h = refl
tagged (suc zero) (suc zero) g h = refl
tagged (suc (suc n)) path g h = absurd (omega arith)
tagged n (suc (suc path)) g h = absurd (omega arith)

first_send : (path : ℕ) → path < 2 → IsOfSend lossy (copy 0 path)
first_send path h = of_tagged lossy (record { node = 0; place = 0 }) (record { frame = frame; seq = Some 0 }) path 0 (copy 0 path) refl (tagged 0 path (omega arith) h) (omega arith, refl) refl

second_send : (path : ℕ) → path < 2 → IsOfSend lossy (copy 1 path)
second_send path h = of_tagged lossy (record { node = 0; place = 1 }) (record { frame = frame; seq = Some 1 }) path 1 (copy 1 path) refl (tagged 1 path (omega arith) h) (omega arith, refl) refl

settled_at : (l : ℕ) → l < 2 → AllByRecursion (IsSettled lossy) (rows_of lossy l)
settled_at zero h = (record { put = refl; origin = first_send 1 (omega arith); gone = refl }, (record { put = refl; origin = second_send 1 (omega arith); gone = refl }, tt))
settled_at (suc zero) h = (record { put = refl; origin = first_send 0 (omega arith); gone = refl }, (record { put = refl; origin = second_send 0 (omega arith); gone = refl }, tt))
settled_at (suc (suc l)) h = absurd (omega arith)

turned : (x y : Carried) → IsPermutation (x ∷ y ∷ []) (y ∷ x ∷ [])
turned x y = record { moves = (0, 1) ∷ []; below = (omega arith, omega arith, tt); is = refl }

put_at : (l : ℕ) (dir : Dir) → l < 2 → PutAgrees lossy l dir
unfolding copy_octets passed_octets
put_at zero Forth h = turned (copy 1 1) (copy 0 1)
put_at zero Back h = IsPermutation-refl []
put_at (suc zero) Forth h = IsPermutation-refl []
put_at (suc zero) Back h = turned (copy 1 0) (copy 0 0)
put_at (suc (suc l)) dir h = absurd (omega arith)

taken_at : (l : ℕ) (dir : Dir) → l < 2 → TakenAgrees lossy l dir
taken_at zero Forth h = IsPermutation-refl (copy 1 1 ∷ [])
taken_at zero Back h = IsPermutation-refl []
taken_at (suc zero) Forth h = IsPermutation-refl []
taken_at (suc zero) Back h = IsPermutation-refl (copy 0 0 ∷ [])
taken_at (suc (suc l)) dir h = absurd (omega arith)

linked_at : (k port : ℕ) → k < 2 → HasLink lossy k port ⊎ (arrivals port (past_of lossy k) ≡ [])
linked_at zero p h = inr refl
linked_at (suc zero) zero h = inl (record { link = 0; dir = Forth; below = omega arith; ends = refl })
linked_at (suc zero) (suc zero) h = inl (record { link = 1; dir = Back; below = omega arith; ends = refl })
linked_at (suc zero) (suc (suc p)) h = inr (nothing_far (0 == suc (suc p)) (1 == suc (suc p)) (copy 1 1) (copy 0 0) (far 0 p (omega arith)) (far 1 p (omega arith)))
linked_at (suc (suc k)) p h = absurd (omega arith)

pub is_closed : IsClosed lossy
is_closed = record { tables = (omega arith, omega arith); records = refl; rows = refl; legal = legal_at; put = put_at; taken = taken_at; settled = settled_at; linked = linked_at }

-- ---- it is a ring

nodes_at : (k : ℕ) → k < 2 → (place_of lossy k ≡ Danh (mac_at macs k) H) ⊎ (place_of lossy k ≡ Danh (mac_at macs k) U)
nodes_at zero h = inl refl
nodes_at (suc zero) h = inl refl
nodes_at (suc (suc k)) h = absurd (omega arith)

pub is_ring : IsRing lossy macs
is_ring = record {
  two = two_nodes.is_ring.two;
  places = refl;
  nodes = nodes_at;
  single = two_nodes.is_ring.single;
  differ = two_nodes.is_ring.differ;
  count = refl;
  joined = two_nodes.is_ring.joined;
}

-- ---- it loses copies on both links, and each frame comes up all the same

pub two_lossy_links : OneLossyLink lossy → ⊥
two_lossy_links one = let same = one 0 1 (omega arith) (omega arith) refl refl in omega arith

pub counted : (n : ℕ) → n < 2 → count_by (delivers (record { node = 0; place = n })) (record_of lossy 1) ≡ 1
counted zero h = refl
counted (suc zero) h = refl
counted (suc (suc n)) h = absurd (omega arith)
