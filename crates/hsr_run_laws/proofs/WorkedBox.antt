-- A run with a RedBox that is all that the laws ask for: its Station sends to a DANH on the ring, which takes the first of
-- two copies up.
use Rattle.std.proofs.Common.{◌≡◌, ◌⊎◌, ℕ, ◌+◌, ◌<◌, ◌≤◌, ◌==◌, Bool, true, false, [], ◌∷◌, if◌then◌else◌, Some, None, Ok, refl, sym, ap, ◌∙◌, arith, inl, inr, zero, suc, ne_eqb, count_by, ⊎_elim}
use Rattle.std.specs.List.{list_any, AllByRecursion}
use Rattle.std.proofs.lemmas.List.Sorted.{IsPermutation-refl}
use Rattle.hsr_frame.specs.Grammar.{Fields, spelling}
use Rattle.hsr_frame.specs.declared.node.Cause.TheVariants.{Passed, Duplicate}
use Rattle.hsr_frame.specs.declared.node.Mode.TheVariants.{H}
use Rattle.hsr_tag.specs.Seen.{classified}
use Rattle.hsr_tag.specs.Tag.{tag_of, tagged_spelling}
use Rattle.hsr_tag.specs.declared.seen.Seen.TheVariants.{Plain, Tagged}
use Rattle.hsr_node.specs.Copies.{copy_octets, passed_octets}
use Rattle.hsr_node.specs.Flow.{arrivals}
use Rattle.hsr_node.specs.declared.sending.Sending.{Sending}
use Rattle.hsr_node.specs.Record.{Each, IsLegal, now}
use Rattle.hsr_node.specs.declared.event.Carried.{Carried}
use Rattle.hsr_node.specs.declared.event.Event.TheVariants.{Send, Arrive}
use Rattle.hsr_node.specs.declared.event.Outcome.TheVariants.{Sent, Judged}
use Rattle.hsr_node.specs.declared.event.Probe.{Probe}
use Rattle.hsr_node.specs.declared.place.Place.TheVariants.{Danh, RedBox, Station}
use Rattle.hsr_link.specs.declared.row.Dir.{Dir}
use Rattle.hsr_link.specs.declared.row.Dir.TheVariants.{Forth, Back}
use Rattle.hsr_link.specs.declared.row.Fate.TheVariants.{Taken}
use Rattle.hsr_link.specs.declared.row.Row.{Row}
use Rattle.hsr_run_laws.specs.Budget.{IsBudgetHeld, IsInTime, is_within, moment_of, sends_of}
use Rattle.hsr_run_laws.specs.Closed.{HasLink, IsClosed, IsOfSend, IsSend, IsSettled, PutAgrees, TakenAgrees, number_of}
use Rattle.hsr_run_laws.specs.Premises.{NothingForgotten, NumberedFirst}
use Rattle.hsr_run_laws.specs.Run.{Run, given, owner_of, past_of, rows_of}
use Rattle.hsr_topology.specs.declared.end.End.{End}
use Rattle.hsr_run_laws.proofs.InBudget.{budget_keeps}
use Rattle.hsr_run_laws.proofs.Worked.{at_start, entry, far, mac, nothing_else, nothing_far, of_plain, of_tagged, one_within}

abbrev pub frame : Fields
frame = record { dst = mac 1; src = mac 10; vlan = None; kind = 0x0800; rest = 0xAA ∷ 0xBB ∷ [] }

abbrev pub first : Probe
first = record { node = 2; place = 0 }

-- the copy of a path, and the one that the Station sends
abbrev pub copy : ℕ → Carried
copy path = record { probe = Some first; octets = tagged_spelling (tag_of frame path 0) }

abbrev pub plain : Carried
plain = record { probe = Some first; octets = spelling frame }

abbrev row : Dir → Carried → Row
row dir carried = record { dir = dir; carried = carried; injected = false; fate = Taken }

abbrev pub end_at : ℕ → ℕ → End
end_at node port = record { node = node; port = port }

abbrev pub red : Run
red = record {
  capacity = 4;
  places = Danh (mac 1) H ∷ RedBox (mac 9) H ∷ Station (record { items = mac 10 ∷ [] }) ∷ [];
  links = (end_at 0 1 ∷ end_at 1 0 ∷ []) ∷ (end_at 1 1 ∷ end_at 0 0 ∷ []) ∷ (end_at 1 2 ∷ end_at 2 0 ∷ []) ∷ [];
  records = (entry (Arrive 1 (copy 0)) (Judged true (false ∷ false ∷ false ∷ false ∷ []) None Passed) ∷ entry (Arrive 0 (copy 1)) (Judged false (false ∷ false ∷ false ∷ false ∷ []) None Duplicate) ∷ [])
      ∷ (entry (Arrive 2 plain) (Judged false (true ∷ true ∷ false ∷ false ∷ []) (Some 0) Passed) ∷ [])
      ∷ (entry (Send 0 (mac 1) None 0x0800 (0xAA ∷ 0xBB ∷ [])) (Sent None (true ∷ false ∷ false ∷ false ∷ [])) ∷ []) ∷ [];
  rows = (row Back (copy 0) ∷ []) ∷ (row Forth (copy 1) ∷ []) ∷ (row Back plain ∷ []) ∷ [];
}

-- ---- it is closed

legal_at : (k : ℕ) → k < 3 → IsLegal 4 (owner_of red k) (past_of red k)
unfolding IsLegal classified
legal_at zero h = (refl, (refl, tt))
legal_at (suc zero) h = (refl, tt)
legal_at (suc (suc zero)) h = (refl, tt)
legal_at (suc (suc (suc k))) h = absurd (omega arith)

pub tagged_copy : (path : ℕ) → path < 2 → classified (copy path).octets ≡ Ok (Tagged (tag_of frame path 0))
unfolding classified
tagged_copy zero h = refl
tagged_copy (suc zero) h = refl
tagged_copy (suc (suc path)) h = absurd (omega arith)

pub plain_copy : classified plain.octets ≡ Ok (Plain frame)
unfolding classified
plain_copy = refl

-- the RedBox at its link gave the send number 0
given_number : given red first ≡ Some 0
given_number = refl

of_send : (path : ℕ) → path < 2 → IsOfSend red (copy path)
of_send path h = of_tagged red first (record { frame = frame; seq = None }) path 0 (copy path) refl (tagged_copy path h) (omega arith, refl) given_number

plain_of_send : IsOfSend red plain
plain_of_send = of_plain red first (record { frame = frame; seq = None }) plain refl plain_copy (omega arith, refl)

settled_at : (l : ℕ) → l < 3 → AllByRecursion (IsSettled red) (rows_of red l)
settled_at zero h = (record { put = refl; origin = of_send 0 (omega arith); gone = refl }, tt)
settled_at (suc zero) h = (record { put = refl; origin = of_send 1 (omega arith); gone = refl }, tt)
settled_at (suc (suc zero)) h = (record { put = refl; origin = plain_of_send; gone = refl }, tt)
settled_at (suc (suc (suc l))) h = absurd (omega arith)

put_at : (l : ℕ) (dir : Dir) → l < 3 → PutAgrees red l dir
unfolding copy_octets passed_octets classified
put_at zero Forth h = IsPermutation-refl []
put_at zero Back h = IsPermutation-refl (copy 0 ∷ [])
put_at (suc zero) Forth h = IsPermutation-refl (copy 1 ∷ [])
put_at (suc zero) Back h = IsPermutation-refl []
put_at (suc (suc zero)) Forth h = IsPermutation-refl []
put_at (suc (suc zero)) Back h = IsPermutation-refl (plain ∷ [])
put_at (suc (suc (suc l))) dir h = absurd (omega arith)

taken_at : (l : ℕ) (dir : Dir) → l < 3 → TakenAgrees red l dir
taken_at zero Forth h = IsPermutation-refl []
taken_at zero Back h = IsPermutation-refl (copy 0 ∷ [])
taken_at (suc zero) Forth h = IsPermutation-refl (copy 1 ∷ [])
taken_at (suc zero) Back h = IsPermutation-refl []
taken_at (suc (suc zero)) Forth h = IsPermutation-refl []
taken_at (suc (suc zero)) Back h = IsPermutation-refl (plain ∷ [])
taken_at (suc (suc (suc l))) dir h = absurd (omega arith)

linked_at : (k port : ℕ) → k < 3 → HasLink red k port ⊎ (arrivals port (past_of red k) ≡ [])
linked_at zero zero h = inl (record { link = 1; dir = Forth; below = omega arith; ends = refl })
linked_at zero (suc zero) h = inl (record { link = 0; dir = Back; below = omega arith; ends = refl })
linked_at zero (suc (suc p)) h = inr (nothing_far (0 == suc (suc p)) (1 == suc (suc p)) (copy 1) (copy 0) (far 0 p (omega arith)) (far 1 p (omega arith)))
linked_at (suc zero) zero h = inl (record { link = 0; dir = Forth; below = omega arith; ends = refl })
linked_at (suc zero) (suc zero) h = inl (record { link = 1; dir = Back; below = omega arith; ends = refl })
linked_at (suc zero) (suc (suc zero)) h = inl (record { link = 2; dir = Back; below = omega arith; ends = refl })
linked_at (suc zero) (suc (suc (suc p))) h = inr (nothing_else (2 == suc (suc (suc p))) plain (ne_eqb 2 (suc (suc (suc p))) (λ e. omega arith)))
linked_at (suc (suc zero)) p h = inr refl
linked_at (suc (suc (suc k))) p h = absurd (omega arith)

pub is_closed : IsClosed red
is_closed = record { tables = (omega arith, omega arith); records = refl; rows = refl; legal = legal_at; put = put_at; taken = taken_at; settled = settled_at; linked = linked_at }

-- ---- the RedBox numbers the frame first

numbered_here : (send : Probe) → Some first ≡ Some send → (sending : Sending) → IsSend red send sending → number_of red send sending ≡ Some 0
numbered_here send e sending is =
    let same : first ≡ send = cc in
    let P : Probe → Type 0 = λ p. IsSend red p sending → number_of red p sending ≡ Some 0 in
    Rattle.std.proofs.Common.subst P same (λ is. by_seq is) is
  where
    by_seq : IsSend red first sending → number_of red first sending ≡ Some 0
    by_seq is =
        let s : Sending = record { frame = frame; seq = None } in
        let there : Some s ≡ Some sending = is.1 in
        let same : s ≡ sending = cc in
        ap (number_of red first) (sym same)

pub numbered_first : NumberedFirst red
numbered_first zero h = (tt, (tt, tt))
numbered_first (suc zero) h = ((λ send e. (numbered_here send e, λ egress. refl)), tt)
numbered_first (suc (suc zero)) h = (tt, tt)
numbered_first (suc (suc (suc k))) h = absurd (omega arith)

-- ---- it is within budget

at_first : (send : Probe) → Some first ≡ Some send → (moment_of red send ≤ 0) × (0 < moment_of red send + 400000)
at_first send e = at_start red first refl send e

in_time_at : (k : ℕ) → k < 3 → Each (λ x past. IsInTime red (now (x ∷ past)) x.event) (past_of red k)
in_time_at zero h = (at_first, (at_first, tt))
in_time_at (suc zero) h = (at_first, tt)
in_time_at (suc (suc zero)) h = (tt, tt)
in_time_at (suc (suc (suc k))) h = absurd (omega arith)

not_crowded_at : (start : ℕ) → list_any (λ sent. sent.moment == start) (sends_of red) ≡ true → count_by (is_within start 800000) (sends_of red) ≤ 4
not_crowded_at start h = one_within start (record { send = first; moment = 0 })

pub within : IsBudgetHeld red
within = record { in_time = in_time_at; not_crowded = not_crowded_at }

-- so nothing was forgotten
pub remembers : NothingForgotten red
remembers = budget_keeps red is_closed numbered_first within
