-- A closed run of a network in which a RedBox numbers a frame late: its record has the frame come back by the ring first, and from
-- its Station then. Nothing is forgotten and nothing mistaken, but the RedBox takes the frame up twice.
use Rattle.std.proofs.Common.{◌≡◌, ◌⊎◌, ℕ, ◌<◌, ◌==◌, true, false, [], ◌∷◌, Some, None, Ok, refl, sym, arith, inl, inr, zero, suc, ne_eqb, count_by}
use Rattle.std.specs.List.{AllByRecursion}
use Rattle.std.proofs.lemmas.Bool.{false≢true}
use Rattle.std.proofs.lemmas.List.Sorted.{IsPermutation-refl}
use Rattle.hsr_frame.specs.Grammar.{Fields, spelling}
use Rattle.hsr_frame.specs.declared.node.Cause.TheVariants.{Passed}
use Rattle.hsr_tag.specs.Seen.{classified}
use Rattle.hsr_tag.specs.Tag.{tag_of, tagged_spelling}
use Rattle.hsr_tag.specs.declared.seen.Seen.TheVariants.{Plain, Tagged}
use Rattle.hsr_node.specs.Copies.{copy_octets, passed_octets}
use Rattle.hsr_node.specs.Flow.{arrivals}
use Rattle.hsr_node.specs.Record.{IsLegal}
use Rattle.hsr_node.specs.declared.event.Carried.{Carried}
use Rattle.hsr_node.specs.declared.event.Event.TheVariants.{Send, Arrive}
use Rattle.hsr_node.specs.declared.event.Outcome.TheVariants.{Sent, Judged}
use Rattle.hsr_link.specs.declared.row.Dir.{Dir}
use Rattle.hsr_link.specs.declared.row.Dir.TheVariants.{Forth, Back}
use Rattle.hsr_link.specs.declared.row.Fate.{Fate}
use Rattle.hsr_link.specs.declared.row.Fate.TheVariants.{Taken, LostDown}
use Rattle.hsr_link.specs.declared.row.Row.{Row}
use Rattle.hsr_run_laws.specs.Closed.{HasLink, IsClosed, IsOfSend, IsSettled, PutAgrees, TakenAgrees}
use Rattle.hsr_run_laws.specs.Once.{delivers}
use Rattle.hsr_run_laws.specs.Premises.{NothingForgotten, NothingMistaken}
use Rattle.hsr_run_laws.specs.Run.{Run, owner_of, past_of, record_of, rows_of}
use Rattle.hsr_run_laws.proofs.Worked.{entry, group, mac, nothing_else, nothing_far, of_plain, of_tagged}
use Rattle.hsr_run_laws.proofs.WorkedBox.{first, red}
use Rattle.hsr_network_laws.specs.Late.{NothingLate}
use Rattle.hsr_network_laws.specs.Network.{IsNetwork}
use Rattle.hsr_network_laws.proofs.WorkedBox as box

abbrev frame : Fields
frame = record { dst = group; src = mac 10; vlan = None; kind = 0x0800; rest = 0xAA ∷ 0xBB ∷ [] }

abbrev copy : ℕ → Carried
copy path = record { probe = Some first; octets = tagged_spelling (tag_of frame path 0) }

abbrev plain : Carried
plain = record { probe = Some first; octets = spelling frame }

abbrev row : Dir → Carried → Fate → Row
row dir carried fate = record { dir = dir; carried = carried; injected = false; fate = fate }

abbrev late : Run
late = record {
  capacity = 4;
  places = red.places;
  links = red.links;
  records = (entry (Arrive 0 (copy 1)) (Judged true (false ∷ true ∷ false ∷ false ∷ []) None Passed) ∷ [])
      ∷ (entry (Arrive 0 (copy 1)) (Judged true (false ∷ true ∷ true ∷ false ∷ []) None Passed) ∷ entry (Arrive 2 plain) (Judged true (true ∷ true ∷ false ∷ false ∷ []) (Some 0) Passed) ∷ [])
      ∷ (entry (Send 0 group None 0x0800 (0xAA ∷ 0xBB ∷ [])) (Sent None (true ∷ false ∷ false ∷ false ∷ [])) ∷ []) ∷ [];
  rows = (row Forth (copy 1) Taken ∷ row Back (copy 0) LostDown ∷ []) ∷ (row Forth (copy 1) Taken ∷ row Forth (copy 1) LostDown ∷ []) ∷ (row Back plain Taken ∷ row Forth plain LostDown ∷ []) ∷ [];
}

-- ---- it is closed

legal_at : (k : ℕ) → k < 3 → IsLegal 4 (owner_of late k) (past_of late k)
unfolding IsLegal classified
legal_at zero h = (refl, tt)
legal_at (suc zero) h = (refl, (refl, tt))
legal_at (suc (suc zero)) h = (refl, tt)
legal_at (suc (suc (suc k))) h = absurd (omega arith)

tagged_copy : (path : ℕ) → path < 2 → classified (copy path).octets ≡ Ok (Tagged (tag_of frame path 0))
unfolding classified
tagged_copy zero h = refl
tagged_copy (suc zero) h = refl
tagged_copy (suc (suc path)) h = absurd (omega arith)

plain_copy : classified plain.octets ≡ Ok (Plain frame)
unfolding classified
plain_copy = refl

of_send : (path : ℕ) → path < 2 → IsOfSend late (copy path)
of_send path h = of_tagged late first (record { frame = frame; seq = None }) path 0 (copy path) refl (tagged_copy path h) (omega arith, refl) refl

plain_of_send : IsOfSend late plain
plain_of_send = of_plain late first (record { frame = frame; seq = None }) plain refl plain_copy (omega arith, refl)

settled_at : (l : ℕ) → l < 3 → AllByRecursion (IsSettled late) (rows_of late l)
settled_at zero h = (record { put = refl; origin = of_send 1 (omega arith); gone = refl }, (record { put = refl; origin = of_send 0 (omega arith); gone = refl }, tt))
settled_at (suc zero) h = (record { put = refl; origin = of_send 1 (omega arith); gone = refl }, (record { put = refl; origin = of_send 1 (omega arith); gone = refl }, tt))
settled_at (suc (suc zero)) h = (record { put = refl; origin = plain_of_send; gone = refl }, (record { put = refl; origin = plain_of_send; gone = refl }, tt))
settled_at (suc (suc (suc l))) h = absurd (omega arith)

put_at : (l : ℕ) (dir : Dir) → l < 3 → PutAgrees late l dir
unfolding copy_octets passed_octets classified
put_at zero Forth h = IsPermutation-refl (copy 1 ∷ [])
put_at zero Back h = IsPermutation-refl (copy 0 ∷ [])
put_at (suc zero) Forth h = IsPermutation-refl (copy 1 ∷ copy 1 ∷ [])
put_at (suc zero) Back h = IsPermutation-refl []
put_at (suc (suc zero)) Forth h = IsPermutation-refl (plain ∷ [])
put_at (suc (suc zero)) Back h = IsPermutation-refl (plain ∷ [])
put_at (suc (suc (suc l))) dir h = absurd (omega arith)

taken_at : (l : ℕ) (dir : Dir) → l < 3 → TakenAgrees late l dir
taken_at zero Forth h = IsPermutation-refl (copy 1 ∷ [])
taken_at zero Back h = IsPermutation-refl []
taken_at (suc zero) Forth h = IsPermutation-refl (copy 1 ∷ [])
taken_at (suc zero) Back h = IsPermutation-refl []
taken_at (suc (suc zero)) Forth h = IsPermutation-refl []
taken_at (suc (suc zero)) Back h = IsPermutation-refl (plain ∷ [])
taken_at (suc (suc (suc l))) dir h = absurd (omega arith)

linked_at : (k port : ℕ) → k < 3 → HasLink late k port ⊎ (arrivals port (past_of late k) ≡ [])
linked_at zero zero h = inl (record { link = 1; dir = Forth; below = omega arith; ends = refl })
linked_at zero (suc p) h = inr (nothing_else (0 == suc p) (copy 1) (ne_eqb 0 (suc p) (λ e. omega arith)))
linked_at (suc zero) zero h = inl (record { link = 0; dir = Forth; below = omega arith; ends = refl })
linked_at (suc zero) (suc zero) h = inr refl
linked_at (suc zero) (suc (suc zero)) h = inl (record { link = 2; dir = Back; below = omega arith; ends = refl })
linked_at (suc zero) (suc (suc (suc p))) h = inr (nothing_far (2 == suc (suc (suc p))) (0 == suc (suc (suc p))) plain (copy 1) (ne_eqb 2 (suc (suc (suc p))) (λ e. omega arith)) (ne_eqb 0 (suc (suc (suc p))) (λ e. omega arith)))
linked_at (suc (suc zero)) p h = inr refl
linked_at (suc (suc (suc k))) p h = absurd (omega arith)

pub is_closed : IsClosed late
is_closed = record { tables = (omega arith, omega arith); records = refl; rows = refl; legal = legal_at; put = put_at; taken = taken_at; settled = settled_at; linked = linked_at }

-- ---- it is a network, with nothing forgotten and nothing mistaken

pub is_network : IsNetwork late
is_network = box.network_with late.records late.rows

pub remembers : NothingForgotten late
remembers zero h = ((λ ring e wanted before. absurd (false≢true before)), tt)
remembers (suc zero) h = ((λ ring. absurd (false≢true ring)), ((λ ring e wanted before. absurd (false≢true before)), tt))
remembers (suc (suc zero)) h = (tt, tt)
remembers (suc (suc (suc k))) h = absurd (omega arith)

pub sure : NothingMistaken late
sure zero h = ((λ ring e wanted key is. refl), tt)
sure (suc zero) h = ((λ ring. absurd (false≢true ring)), ((λ ring e wanted key is. refl), tt))
sure (suc (suc zero)) h = (tt, tt)
sure (suc (suc (suc k))) h = absurd (omega arith)

-- ---- but a number came late, and the frame went up twice

pub not_in_time : NothingLate late → ⊥
unfolding classified
not_in_time h = false≢true (sym (h 1 (omega arith)).0)

pub box_twice : count_by (delivers first) (record_of late 1) ≡ 2
box_twice = refl
