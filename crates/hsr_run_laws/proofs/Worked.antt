-- A run that is all that the laws ask for: a ring of two nodes, of which the first sends to a group, and both copies go
-- all the way round.
use Rattle.std.proofs.Common.{◌≡◌, ◌⊎◌, ℕ, ◌+◌, ◌%◌, ◌<◌, ◌≤◌, ◌==◌, Bool, true, false, List, [], ◌∷◌, if◌then◌else◌, Some, None, Ok, refl, sym, ap, ◌∙◌, arith, inl, inr, zero, suc, ne_eqb, count_by, ⊎_elim}
use Rattle.std.specs.List.{list_any, AllByRecursion, cons_option}
use Rattle.std.proofs.lemmas.List.Sorted.{IsPermutation-refl}
use Rattle.std.proofs.lemmas.Bool.{cases_Bool, false≢true}
use Rattle.hsr_frame.specs.Address.{is_group}
use Rattle.hsr_frame.specs.Grammar.{Fields}
use Rattle.hsr_frame.specs.declared.node.Cause.{Cause}
use Rattle.hsr_frame.specs.declared.node.Cause.TheVariants.{Passed, Returned}
use Rattle.hsr_frame.specs.declared.node.Mode.TheVariants.{H, U}
use Rattle.hsr_tag.specs.Seen.{classified}
use Rattle.hsr_tag.specs.Tag.{TaggedFields, tag_of, tagged_spelling}
use Rattle.hsr_tag.specs.declared.seen.Seen.TheVariants.{Plain, Tagged}
use Rattle.hsr_node.specs.Copies.{copy_octets, passed_octets, plain_in}
use Rattle.hsr_node.specs.Flow.{arrivals}
use Rattle.hsr_node.specs.Record.{Each, IsLegal, now}
use Rattle.hsr_node.specs.declared.entry.Entry.{Entry}
use Rattle.hsr_node.specs.declared.event.Carried.{Carried}
use Rattle.hsr_node.specs.declared.event.Event.{Event}
use Rattle.hsr_node.specs.declared.event.Event.TheVariants.{Send, Arrive}
use Rattle.hsr_node.specs.declared.event.Outcome.{Outcome}
use Rattle.hsr_node.specs.declared.event.Outcome.TheVariants.{Sent, Judged}
use Rattle.hsr_node.specs.declared.place.Place.TheVariants.{Danh}
use Rattle.hsr_node.specs.declared.sending.Sending.{Sending}
use Rattle.hsr_link.specs.declared.row.Dir.{Dir}
use Rattle.hsr_link.specs.declared.row.Dir.TheVariants.{Forth, Back}
use Rattle.hsr_link.specs.declared.row.Fate.TheVariants.{Taken}
use Rattle.hsr_link.specs.declared.row.Row.{Row}
use Rattle.hsr_run_laws.specs.Budget.{IsBudgetHeld, IsInTime, is_within, moment_of, sends_of}
use Rattle.hsr_run_laws.specs.Budget as budget
use Rattle.hsr_run_laws.specs.Closed.{HasLink, IsClosed, IsOfSend, IsSend, IsSettled, PutAgrees, TakenAgrees, number_of}
use Rattle.hsr_run_laws.specs.Once.{IsExactlyOnce}
use Rattle.hsr_run_laws.specs.Premises.{IsRing, Joins, OneLossyLink, mac_at}
use Rattle.hsr_run_laws.specs.Run.{Run, ends_of, owner_of, past_of, place_of, rows_of}
use Rattle.hsr_topology.specs.declared.end.End.{End}
use Rattle.hsr_run_laws.proofs.WithoutBoxes.{once_in_budget}
use Rattle.hsr_run_laws.proofs.Lists.{count_more, one_if, zero_if}
use Rattle.hsr_node.specs.declared.event.Probe.{Probe}

abbrev pub mac : ℕ → List ℕ
mac n = 2 ∷ 0 ∷ 0 ∷ 0 ∷ 0 ∷ n ∷ []

abbrev pub group : List ℕ
group = 1 ∷ 0 ∷ 0x5E ∷ 0 ∷ 0 ∷ 1 ∷ []

abbrev pub frame : Fields
frame = record { dst = group; src = mac 1; vlan = None; kind = 0x0800; rest = 0xAA ∷ 0xBB ∷ [] }

-- the copy of a path
abbrev pub copy : ℕ → Carried
copy path = record { probe = Some (record { node = 0; place = 0 }); octets = tagged_spelling (tag_of frame path 0) }

abbrev pub entry : Event → Outcome → Entry
entry event outcome = record { worker = 0; at = 0; event = event; outcome = outcome }

abbrev pub judged : Bool → Bool → Bool → Cause → Outcome
judged up_too by_a by_b why = Judged up_too (by_a ∷ by_b ∷ false ∷ false ∷ []) None why

abbrev pub row : Dir → ℕ → Row
row dir path = record { dir = dir; carried = copy path; injected = false; fate = Taken }

abbrev pub join : ℕ → ℕ → List End
join k next = (let end : End = record { node = k; port = 1 } in end) ∷ record { node = next; port = 0 } ∷ []

abbrev ring2 : Run
ring2 = record {
  capacity = 4;
  places = Danh (mac 1) H ∷ Danh (mac 2) H ∷ [];
  links = join 0 1 ∷ join 1 0 ∷ [];
  records = (entry (Send 0 group None 0x0800 (0xAA ∷ 0xBB ∷ [])) (Sent (Some 0) (true ∷ true ∷ false ∷ false ∷ []))
      ∷ entry (Arrive 0 (copy 1)) (judged false false false Returned) ∷ entry (Arrive 1 (copy 0)) (judged false false false Returned) ∷ [])
      ∷ (entry (Arrive 0 (copy 1)) (judged true false true Passed) ∷ entry (Arrive 1 (copy 0)) (judged false true false Passed) ∷ []) ∷ [];
  rows = (row Forth 1 ∷ row Back 0 ∷ []) ∷ (row Forth 1 ∷ row Back 0 ∷ []) ∷ [];
}

abbrev pub macs : List (List ℕ)
macs = mac 1 ∷ mac 2 ∷ []

-- ---- it is closed

legal_at : (k : ℕ) → k < 2 → IsLegal 4 (owner_of ring2 k) (past_of ring2 k)
unfolding IsLegal classified
legal_at zero h = (refl, (refl, (refl, tt)))
legal_at (suc zero) h = (refl, (refl, tt))
legal_at (suc (suc k)) h = absurd (omega arith)

pub tagged_copy : (path : ℕ) → path < 2 → classified (copy path).octets ≡ Ok (Tagged (tag_of frame path 0))
unfolding classified
tagged_copy zero h = refl
tagged_copy (suc zero) h = refl
tagged_copy (suc (suc path)) h = absurd (omega arith)

-- a tagged copy of a send with this number, and a plain one
pub of_tagged : (run : Run) (send : Probe) (sending : Sending) (path seq : ℕ) (copy : Carried) → copy.probe ≡ Some send → classified copy.octets ≡ Ok (Tagged (tag_of sending.frame path seq)) →
    IsSend run send sending → number_of run send sending ≡ Some seq → IsOfSend run copy
of_tagged run send sending path seq copy named tagged is number = record {
  send = send;
  sending = sending;
  named = named;
  is_send = is;
  frame = ap plain_in tagged;
  number = λ t there. let both : Ok (Tagged (tag_of sending.frame path seq)) ≡ Ok (Tagged t) = sym tagged ∙ there in
      let same : tag_of sending.frame path seq ≡ t = cc in number ∙ ap (λ (t : TaggedFields). Some t.seq) same;
}

pub of_plain : (run : Run) (send : Probe) (sending : Sending) (copy : Carried) → copy.probe ≡ Some send → classified copy.octets ≡ Ok (Plain sending.frame) → IsSend run send sending → IsOfSend run copy
of_plain run send sending copy named plain is = record {
  send = send;
  sending = sending;
  named = named;
  is_send = is;
  frame = ap plain_in plain;
  number = λ t there. let both : Ok (Plain sending.frame) ≡ Ok (Tagged t) = sym plain ∙ there in absurd cc;
}

of_send : (path : ℕ) → path < 2 → IsOfSend ring2 (copy path)
of_send path h = of_tagged ring2 (record { node = 0; place = 0 }) (record { frame = frame; seq = Some 0 }) path 0 (copy path) refl (tagged_copy path h) (omega arith, refl) refl

settled_rows : AllByRecursion (IsSettled ring2) (row Forth 1 ∷ row Back 0 ∷ [])
settled_rows =
    (record { put = refl; origin = of_send 1 (omega arith); gone = refl }, (record { put = refl; origin = of_send 0 (omega arith); gone = refl }, tt))

settled_at : (l : ℕ) → l < 2 → AllByRecursion (IsSettled ring2) (rows_of ring2 l)
settled_at zero h = settled_rows
settled_at (suc zero) h = settled_rows
settled_at (suc (suc l)) h = absurd (omega arith)

put_at : (l : ℕ) (dir : Dir) → l < 2 → PutAgrees ring2 l dir
unfolding copy_octets passed_octets
put_at zero Forth h = IsPermutation-refl (copy 1 ∷ [])
put_at zero Back h = IsPermutation-refl (copy 0 ∷ [])
put_at (suc zero) Forth h = IsPermutation-refl (copy 1 ∷ [])
put_at (suc zero) Back h = IsPermutation-refl (copy 0 ∷ [])
put_at (suc (suc l)) dir h = absurd (omega arith)

taken_at : (l : ℕ) (dir : Dir) → l < 2 → TakenAgrees ring2 l dir
taken_at zero Forth h = IsPermutation-refl (copy 1 ∷ [])
taken_at zero Back h = IsPermutation-refl (copy 0 ∷ [])
taken_at (suc zero) Forth h = IsPermutation-refl (copy 1 ∷ [])
taken_at (suc zero) Back h = IsPermutation-refl (copy 0 ∷ [])
taken_at (suc (suc l)) dir h = absurd (omega arith)

pub nothing_else : (p : Bool) (x : Carried) → p ≡ false → cons_option (if p then Some x else None) [] ≡ []
nothing_else false x e = refl
nothing_else true x e = absurd (false≢true (sym e))

pub nothing_far : (p q : Bool) (x y : Carried) → p ≡ false → q ≡ false → cons_option (if p then Some x else None) (cons_option (if q then Some y else None) []) ≡ []
nothing_far false false x y e f = refl
nothing_far true q x y e f = absurd (false≢true (sym e))
nothing_far false true x y e f = absurd (false≢true (sym f))

pub far : (k p : ℕ) → k < 2 → (k == suc (suc p)) ≡ false
far k p h = ne_eqb k (suc (suc p)) (λ e. omega arith)

linked_at : (k port : ℕ) → k < 2 → HasLink ring2 k port ⊎ (arrivals port (past_of ring2 k) ≡ [])
linked_at zero zero h = inl (record { link = 1; dir = Forth; below = omega arith; ends = refl })
linked_at zero (suc zero) h = inl (record { link = 0; dir = Back; below = omega arith; ends = refl })
linked_at (suc zero) zero h = inl (record { link = 0; dir = Forth; below = omega arith; ends = refl })
linked_at (suc zero) (suc zero) h = inl (record { link = 1; dir = Back; below = omega arith; ends = refl })
linked_at zero (suc (suc p)) h = inr (nothing_far (1 == suc (suc p)) (0 == suc (suc p)) (copy 0) (copy 1) (far 1 p (omega arith)) (far 0 p (omega arith)))
linked_at (suc zero) (suc (suc p)) h = inr (nothing_far (1 == suc (suc p)) (0 == suc (suc p)) (copy 0) (copy 1) (far 1 p (omega arith)) (far 0 p (omega arith)))
linked_at (suc (suc k)) p h = absurd (omega arith)

pub is_closed : IsClosed ring2
is_closed = record { tables = (omega arith, omega arith); records = refl; rows = refl; legal = legal_at; put = put_at; taken = taken_at; settled = settled_at; linked = linked_at }

-- ---- it is a ring, and loses nothing

single_at : (k : ℕ) → k < 2 → is_group (mac_at macs k) ≡ false
single_at zero h = refl
single_at (suc zero) h = refl
single_at (suc (suc k)) h = absurd (omega arith)

abbrev fifth : List ℕ → ℕ
fifth xs = Rattle.std.specs.Prelude.slice_index xs 5

apart : mac 1 ≡ mac 2 → ⊥
apart e = let last : fifth (mac 1) ≡ fifth (mac 2) = ap fifth e in omega arith

differ_at : (i j : ℕ) → i < 2 → j < 2 → mac_at macs i ≡ mac_at macs j → i ≡ j
differ_at zero zero g h e = refl
differ_at zero (suc zero) g h e = absurd (apart e)
differ_at (suc zero) zero g h e = absurd (apart (sym e))
differ_at (suc zero) (suc zero) g h e = refl
differ_at (suc (suc k)) j g h e = absurd (omega arith)
differ_at i (suc (suc k)) g h e = absurd (omega arith)

joined_at : (k : ℕ) → k < 2 → Joins (ends_of ring2 k) k ((k + 1) % 2)
joined_at zero h = inl (refl, refl)
joined_at (suc zero) h = inl (refl, refl)
joined_at (suc (suc k)) h = absurd (omega arith)

nodes_at : (k : ℕ) → k < 2 → (place_of ring2 k ≡ Danh (mac_at macs k) H) ⊎ (place_of ring2 k ≡ Danh (mac_at macs k) U)
nodes_at zero h = inl refl
nodes_at (suc zero) h = inl refl
nodes_at (suc (suc k)) h = absurd (omega arith)

pub is_ring : IsRing ring2 macs
is_ring = record { two = omega arith; places = refl; nodes = nodes_at; single = single_at; differ = differ_at; count = refl; joined = joined_at }

pub lossless : OneLossyLink ring2
lossless zero j g h here there = absurd (false≢true here)
lossless (suc zero) j g h here there = absurd (false≢true here)
lossless (suc (suc i)) j g h here there = absurd (omega arith)

-- ---- it is within budget

-- the one send, at moment 0, is in time
pub at_start : (run : Run) (first : Probe) → moment_of run first ≡ 0 → (send : Probe) → Some first ≡ Some send → (moment_of run send ≤ 0) × (0 < moment_of run send + 400000)
at_start run first moment send e =
    let same : first ≡ send = cc in
    let there : moment_of run send ≡ 0 = ap (moment_of run) (sym same) ∙ moment in
    (omega arith, omega arith)

-- and no crowd
pub one_within : (start : ℕ) (s : budget.Sent) → count_by (is_within start 800000) (s ∷ []) ≤ 4
one_within start s =
    let more = count_more (is_within start 800000) s [] in
    ⊎_elim (λ t. let one = one_if (is_within start 800000 s) t in omega arith) (λ f. let nothing = zero_if (is_within start 800000 s) f in omega arith) (cases_Bool (is_within start 800000 s))

at_first : (send : Probe) → Some (let first : Probe = record { node = 0; place = 0 } in first) ≡ Some send → (moment_of ring2 send ≤ 0) × (0 < moment_of ring2 send + 400000)
at_first send e = at_start ring2 (record { node = 0; place = 0 }) refl send e

in_time_at : (k : ℕ) → k < 2 → Each (λ x past. IsInTime ring2 (now (x ∷ past)) x.event) (past_of ring2 k)
in_time_at zero h = (at_first, (at_first, (tt, tt)))
in_time_at (suc zero) h = (at_first, (at_first, tt))
in_time_at (suc (suc k)) h = absurd (omega arith)

not_crowded_at : (start : ℕ) → list_any (λ sent. sent.moment == start) (sends_of ring2) ≡ true → count_by (is_within start 800000) (sends_of ring2) ≤ 4
not_crowded_at start h = one_within start (record { send = record { node = 0; place = 0 }; moment = 0 })

pub within : IsBudgetHeld ring2
within = record { in_time = in_time_at; not_crowded = not_crowded_at }

-- so the second node took it up once, and nobody else did
pub delivered_once : IsExactlyOnce ring2 macs
delivered_once = once_in_budget ring2 macs is_closed is_ring lossless within
