-- A run in which a Station is answered: it sends to a DANH as in hsr_run_laws's run with a RedBox, and the DANH sends to the Station. The
-- RedBox knows the Station by then, and passes the first of two copies down. The Station takes it up once.
use Rattle.std.proofs.Common.{◌≡◌, ◌⊎◌, ℕ, ◌<◌, ◌==◌, Bool, true, false, if◌then◌else◌, List, [], ◌∷◌, Some, None, Ok, refl, sym, ap, ◌∙◌, subst, arith, inl, inr, zero, suc, ne_eqb, count_by}
use Rattle.std.specs.List.{list_any, AllByRecursion, cons_option}
use Rattle.std.proofs.lemmas.Bool.{false≢true}
use Rattle.std.proofs.lemmas.List.Sorted.{IsPermutation-refl}
use Rattle.hsr_frame.specs.Egress.{Egress, up, a, b, c, d}
use Rattle.hsr_frame.specs.Grammar.{Fields, spelling}
use Rattle.hsr_frame.specs.declared.node.Cause.TheVariants.{Passed, Duplicate}
use Rattle.hsr_tag.specs.Seen.{classified}
use Rattle.hsr_tag.specs.Tag.{tag_of, tagged_spelling}
use Rattle.hsr_tag.specs.declared.seen.Seen.TheVariants.{Plain, Tagged}
use Rattle.hsr_duptable.specs.Key.{Key}
use Rattle.hsr_node.specs.Copies.{copy_octets, passed_octets}
use Rattle.hsr_node.specs.Flow.{arrivals}
use Rattle.hsr_node.specs.Record.{IsLegal, key_in, notes, remembered}
use Rattle.hsr_node.specs.declared.entry.Entry.{Entry}
use Rattle.hsr_node.specs.declared.event.Carried.{Carried}
use Rattle.hsr_node.specs.declared.event.Event.TheVariants.{Send, Arrive}
use Rattle.hsr_node.specs.declared.event.Outcome.TheVariants.{Sent, Judged}
use Rattle.hsr_node.specs.declared.event.Probe.{Probe}
use Rattle.hsr_link.specs.declared.row.Dir.{Dir}
use Rattle.hsr_link.specs.declared.row.Dir.TheVariants.{Forth, Back}
use Rattle.hsr_link.specs.declared.row.Fate.TheVariants.{Taken}
use Rattle.hsr_link.specs.declared.row.Row.{Row}
use Rattle.hsr_run_laws.specs.Closed.{HasLink, IsClosed, IsOfSend, IsSettled, PutAgrees, TakenAgrees}
use Rattle.hsr_run_laws.specs.Once.{delivers}
use Rattle.hsr_run_laws.specs.Premises.{NothingForgotten, NothingMistaken, NumberedFirst, is_mistaken, is_note_of}
use Rattle.hsr_run_laws.specs.Run.{Run, owner_of, past_of, record_of, rows_of}
use Rattle.hsr_run_laws.proofs.Worked.{entry, far, mac, nothing_else, nothing_far, of_plain, of_tagged}
use Rattle.hsr_run_laws.proofs.WorkedBox.{copy, first, frame, plain, plain_copy, red, tagged_copy}
use Rattle.hsr_network_laws.specs.Late.{NothingLate}
use Rattle.hsr_network_laws.specs.Network.{IsNetwork}
use Rattle.hsr_network_laws.specs.Stations.{FindsEach}
use Rattle.hsr_network_laws.specs.Channels.{ComesOver, sent}
use Rattle.hsr_network_laws.proofs.Late.{late_decides}
use Rattle.hsr_network_laws.proofs.Stations.{once_to_station}
use Rattle.hsr_network_laws.proofs.WorkedBox as box
use Rattle.hsr_network_laws.proofs.WorkedBox.{own_notes, channel_at}

abbrev answer : Fields
answer = record { dst = mac 10; src = mac 1; vlan = None; kind = 0x0800; rest = 0xCC ∷ [] }

abbrev second : Probe
second = record { node = 0; place = 2 }

abbrev reply : ℕ → Carried
reply path = record { probe = Some second; octets = tagged_spelling (tag_of answer path 0) }

abbrev plain_reply : Carried
plain_reply = record { probe = Some second; octets = spelling answer }

abbrev row : Dir → Carried → Row
row dir carried = record { dir = dir; carried = carried; injected = false; fate = Taken }

-- what the RedBox did: it numbers the Station's frame, and passes one copy of the answer down
abbrev taken_in : Entry
taken_in = entry (Arrive 2 plain) (Judged false (true ∷ true ∷ false ∷ false ∷ []) (Some 0) Passed)

abbrev passed_down : Entry
passed_down = entry (Arrive 0 (reply 1)) (Judged false (false ∷ false ∷ true ∷ false ∷ []) None Passed)

-- and the DANH: it takes up one copy
abbrev taken_up : Entry
taken_up = entry (Arrive 1 (copy 0)) (Judged true (false ∷ false ∷ false ∷ false ∷ []) None Passed)

abbrev answered : Run
answered = record {
  capacity = 4;
  places = red.places;
  links = red.links;
  records = (taken_up ∷ entry (Arrive 0 (copy 1)) (Judged false (false ∷ false ∷ false ∷ false ∷ []) None Duplicate) ∷ entry (Send 0 (mac 10) None 0x0800 (0xCC ∷ [])) (Sent (Some 0) (true ∷ true ∷ false ∷ false ∷ [])) ∷ [])
      ∷ (taken_in ∷ passed_down ∷ entry (Arrive 1 (reply 0)) (Judged false (false ∷ false ∷ false ∷ false ∷ []) None Duplicate) ∷ [])
      ∷ (entry (Send 0 (mac 1) None 0x0800 (0xAA ∷ 0xBB ∷ [])) (Sent None (true ∷ false ∷ false ∷ false ∷ [])) ∷ entry (Arrive 0 plain_reply) (Judged true (false ∷ false ∷ false ∷ false ∷ []) None Passed) ∷ []) ∷ [];
  rows = (row Back (copy 0) ∷ row Forth (reply 1) ∷ []) ∷ (row Forth (copy 1) ∷ row Back (reply 0) ∷ []) ∷ (row Back plain ∷ row Forth plain_reply ∷ []) ∷ [];
}

-- ---- it is closed

legal_at : (k : ℕ) → k < 3 → IsLegal 4 (owner_of answered k) (past_of answered k)
unfolding IsLegal classified
legal_at zero h = (refl, (refl, (refl, tt)))
legal_at (suc zero) h = (refl, (refl, (refl, tt)))
legal_at (suc (suc zero)) h = (refl, (refl, tt))
legal_at (suc (suc (suc k))) h = absurd (omega arith)

tagged_reply : (path : ℕ) → path < 2 → classified (reply path).octets ≡ Ok (Tagged (tag_of answer path 0))
unfolding classified
tagged_reply zero h = refl
tagged_reply (suc zero) h = refl
tagged_reply (suc (suc path)) h = absurd (omega arith)

plain_read : classified plain_reply.octets ≡ Ok (Plain answer)
unfolding classified
plain_read = refl

asked : (path : ℕ) → path < 2 → IsOfSend answered (copy path)
asked path h = of_tagged answered first (record { frame = frame; seq = None }) path 0 (copy path) refl (tagged_copy path h) (omega arith, refl) refl

replied : (path : ℕ) → path < 2 → IsOfSend answered (reply path)
replied path h = of_tagged answered second (record { frame = answer; seq = Some 0 }) path 0 (reply path) refl (tagged_reply path h) (omega arith, refl) refl

settled_at : (l : ℕ) → l < 3 → AllByRecursion (IsSettled answered) (rows_of answered l)
settled_at zero h = (record { put = refl; origin = asked 0 (omega arith); gone = refl }, (record { put = refl; origin = replied 1 (omega arith); gone = refl }, tt))
settled_at (suc zero) h = (record { put = refl; origin = asked 1 (omega arith); gone = refl }, (record { put = refl; origin = replied 0 (omega arith); gone = refl }, tt))
settled_at (suc (suc zero)) h = (
  record { put = refl; origin = of_plain answered first (record { frame = frame; seq = None }) plain refl plain_copy (omega arith, refl); gone = refl },
  (record { put = refl; origin = of_plain answered second (record { frame = answer; seq = Some 0 }) plain_reply refl plain_read (omega arith, refl); gone = refl }, tt),
)
settled_at (suc (suc (suc l))) h = absurd (omega arith)

put_at : (l : ℕ) (dir : Dir) → l < 3 → PutAgrees answered l dir
unfolding copy_octets passed_octets classified
put_at zero Forth h = IsPermutation-refl (reply 1 ∷ [])
put_at zero Back h = IsPermutation-refl (copy 0 ∷ [])
put_at (suc zero) Forth h = IsPermutation-refl (copy 1 ∷ [])
put_at (suc zero) Back h = IsPermutation-refl (reply 0 ∷ [])
put_at (suc (suc zero)) Forth h = IsPermutation-refl (plain_reply ∷ [])
put_at (suc (suc zero)) Back h = IsPermutation-refl (plain ∷ [])
put_at (suc (suc (suc l))) dir h = absurd (omega arith)

taken_at : (l : ℕ) (dir : Dir) → l < 3 → TakenAgrees answered l dir
taken_at zero Forth h = IsPermutation-refl (reply 1 ∷ [])
taken_at zero Back h = IsPermutation-refl (copy 0 ∷ [])
taken_at (suc zero) Forth h = IsPermutation-refl (copy 1 ∷ [])
taken_at (suc zero) Back h = IsPermutation-refl (reply 0 ∷ [])
taken_at (suc (suc zero)) Forth h = IsPermutation-refl (plain_reply ∷ [])
taken_at (suc (suc zero)) Back h = IsPermutation-refl (plain ∷ [])
taken_at (suc (suc (suc l))) dir h = absurd (omega arith)

other_port : (p : Bool) (x : Carried) (xs : List Carried) → p ≡ false → cons_option (if p then Some x else None) xs ≡ xs
other_port false x xs e = refl
other_port true x xs e = absurd (false≢true (sym e))

linked_at : (k port : ℕ) → k < 3 → HasLink answered k port ⊎ (arrivals port (past_of answered k) ≡ [])
linked_at zero zero h = inl (record { link = 1; dir = Forth; below = omega arith; ends = refl })
linked_at zero (suc zero) h = inl (record { link = 0; dir = Back; below = omega arith; ends = refl })
linked_at zero (suc (suc p)) h = inr (nothing_far (0 == suc (suc p)) (1 == suc (suc p)) (copy 1) (copy 0) (far 0 p (omega arith)) (far 1 p (omega arith)))
linked_at (suc zero) zero h = inl (record { link = 0; dir = Forth; below = omega arith; ends = refl })
linked_at (suc zero) (suc zero) h = inl (record { link = 1; dir = Back; below = omega arith; ends = refl })
linked_at (suc zero) (suc (suc zero)) h = inl (record { link = 2; dir = Back; below = omega arith; ends = refl })
linked_at (suc zero) (suc (suc (suc p))) h =
    inr (other_port (1 == suc (suc (suc p))) (reply 0) (arrivals (suc (suc (suc p))) (passed_down ∷ taken_in ∷ [])) (ne_eqb 1 (suc (suc (suc p))) (λ e. omega arith))
    ∙ nothing_far (0 == suc (suc (suc p))) (2 == suc (suc (suc p))) (reply 1) plain (ne_eqb 0 (suc (suc (suc p))) (λ e. omega arith)) (ne_eqb 2 (suc (suc (suc p))) (λ e. omega arith)))
linked_at (suc (suc zero)) zero h = inl (record { link = 2; dir = Forth; below = omega arith; ends = refl })
linked_at (suc (suc zero)) (suc p) h = inr (nothing_else (0 == suc p) plain_reply (ne_eqb 0 (suc p) (λ e. omega arith)))
linked_at (suc (suc (suc k))) p h = absurd (omega arith)

pub is_closed : IsClosed answered
is_closed = record { tables = (omega arith, omega arith); records = refl; rows = refl; legal = legal_at; put = put_at; taken = taken_at; settled = settled_at; linked = linked_at }

pub is_network : IsNetwork answered
is_network = box.network_with answered.records answered.rows

-- ---- the RedBox numbers first

pub numbered_first : NumberedFirst answered
unfolding classified
numbered_first = (late_decides answered is_closed is_network).first in_time
  where
    in_time : NothingLate answered
    in_time zero h = (refl, (refl, (refl, tt)))
    in_time (suc zero) h = (refl, (refl, (refl, tt)))
    in_time (suc (suc zero)) h = (refl, (refl, tt))
    in_time (suc (suc (suc k))) h = absurd (omega arith)

-- ---- nothing forgotten, nothing mistaken

abbrev Kept : Run → ℕ → Probe → List Entry → Egress → Type 0
Kept run k send past e = list_any (is_note_of (Some send)) (notes (owner_of run k) e past) ≡ true → list_any (is_note_of (Some send)) (remembered 4 0 (notes (owner_of run k) e past)) ≡ true

first_kept : (e : Egress) → Kept answered 0 first (taken_up ∷ []) e
unfolding classified
first_kept up before = refl
first_kept a before = absurd (false≢true before)
first_kept b before = absurd (false≢true before)
first_kept c before = absurd (false≢true before)
first_kept d before = absurd (false≢true before)

not_before : (e : Egress) → Kept answered 1 second (taken_in ∷ []) e
unfolding classified
not_before up before = absurd (false≢true before)
not_before a before = absurd (false≢true before)
not_before b before = absurd (false≢true before)
not_before c before = absurd (false≢true before)
not_before d before = absurd (false≢true before)

second_kept : (e : Egress) → Kept answered 1 second (passed_down ∷ taken_in ∷ []) e
unfolding classified
second_kept up before = absurd (false≢true before)
second_kept a before = absurd (false≢true before)
second_kept b before = absurd (false≢true before)
second_kept c before = refl
second_kept d before = absurd (false≢true before)

pub remembers : NothingForgotten answered
remembers zero h = (tt, ((λ ring e wanted. first_kept e), ((λ ring e wanted before. absurd (false≢true before)), tt)))
remembers (suc zero) h = ((λ ring e wanted. second_kept e), ((λ ring e wanted. not_before e), ((λ ring. absurd (false≢true ring)), tt)))
remembers (suc (suc zero)) h = ((λ ring. absurd (false≢true ring)), (tt, tt))
remembers (suc (suc (suc k))) h = absurd (omega arith)

reply_key : (path : ℕ) → path < 2 → (key : Key) → key_in (classified (reply path).octets) None ≡ Some key → record { src = mac 1; seq = 0 } ≡ key
reply_key path h key is =
    let k : Key = record { src = mac 1; seq = 0 } in
    let both : Some k ≡ Some key = sym (ap (λ s. key_in s None) (tagged_reply path h)) ∙ is in
    cc

-- what is noted of the Station's frame has another key than the answer
abbrev NoneMistaken : List Entry → Key → Egress → Type 0
NoneMistaken past key e = list_any (is_mistaken key (Some second)) (remembered 4 0 (notes (owner_of answered 1) e past)) ≡ false

other_key : (e : Egress) → NoneMistaken (taken_in ∷ []) (record { src = mac 1; seq = 0 }) e
unfolding classified
other_key up = refl
other_key a = refl
other_key b = refl
other_key c = refl
other_key d = refl

own_key : (e : Egress) → NoneMistaken (passed_down ∷ taken_in ∷ []) (record { src = mac 1; seq = 0 }) e
unfolding classified
own_key up = refl
own_key a = refl
own_key b = refl
own_key c = refl
own_key d = refl

all_first : (e : Egress) → AllByRecursion (λ n. is_note_of (Some first) n ≡ true) (remembered 4 0 (notes (owner_of answered 0) e (taken_up ∷ [])))
unfolding classified
all_first up = (refl, tt)
all_first a = tt
all_first b = tt
all_first c = tt
all_first d = tt

pub sure : NothingMistaken answered
sure zero h = (tt, ((λ ring e wanted key is. own_notes key _ (all_first e)), ((λ ring e wanted key is. refl), tt)))
sure (suc zero) h = (
  λ ring e wanted key is. subst (λ (k : Key). NoneMistaken (passed_down ∷ taken_in ∷ []) k e) (reply_key 0 (omega arith) key is) (own_key e),
  ((λ ring e wanted key is. subst (λ (k : Key). NoneMistaken (taken_in ∷ []) k e) (reply_key 1 (omega arith) key is) (other_key e)), ((λ ring. absurd (false≢true ring)), tt)),
)
sure (suc (suc zero)) h = ((λ ring. absurd (false≢true ring)), (tt, tt))
sure (suc (suc (suc k))) h = absurd (omega arith)

-- ---- the answer reaches the RedBox, which knows the Station

to_box : ComesOver answered second answer (channel_at 0 Forth)
to_box = sent (channel_at 0 Forth) (record { below = omega arith; kept = refl }) (record { node = refl; out = refl })

found : FindsEach answered second (mac 10) 1
unfolding classified
found = (refl, (refl, (refl, tt)))

-- so the Station took it up once
pub station_once : count_by (delivers second) (record_of answered 2) ≡ 1
station_once =
    once_to_station answered is_closed is_network numbered_first remembers sure second (record { frame = answer; seq = Some 0 }) 2 (omega arith, refl) refl (omega arith) refl refl
    (record {
      last = channel_at 2 Forth;
      carries = record { below = omega arith; kept = refl };
      here = refl;
      comes = inr (refl, record { channel = channel_at 0 Forth; comes = to_box; here = refl });
      found = λ is_box. found;
    })
