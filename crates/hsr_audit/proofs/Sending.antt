-- The entry at a place of a record, and the send that it is.
use Rattle.std.proofs.Common.{◌≡◌, ℕ, ◌<◌, ◌==◌, Bool, true, false, if◌then◌else◌, List, [], ◌∷◌, length, reverse, slice_index_or, Option, Some, None, refl, sym, ap, ◌∙◌, subst, arith, eqb-true}
use Rattle.std.specs.Prelude.{is_some}
use Rattle.std.proofs.lemmas.Bool.{false≢true}
use Rattle.std.proofs.lemmas.List.{length-reverse}
use Rattle.std.proofs.lemmas.Option.{none-some}
use Rattle.hsr_node.specs.Flow.{send_at, sent_by}
use Rattle.hsr_node.specs.declared.entry.Entry.{Entry}
use Rattle.hsr_node.specs.declared.event.Probe.{Probe}
use Rattle.hsr_node.specs.declared.place.Place.{Place}
use Rattle.hsr_node.specs.declared.sending.Sending.{Sending}
use Rattle.hsr_run_laws.specs.Closed.{IsSend}
use Rattle.hsr_run_laws.specs.Run.{Run, past_of, place_of, record_of}
use Rattle.hsr_run_laws.proofs.Records.{IsAtPlace, all_at_place}
use Rattle.hsr_table_demand.proofs.Places.{from_each, past_length}
use Rattle.hsr_table_demand.proofs.Walking.{place_at}
use Rattle.hsr_audit.specs.Sends.{HasSend, IsCoveredAt, IsNoSendAt, is_promised, probe_at}

pub send_here : (run : Run) (k i : ℕ) (d : Entry) → i < length (record_of run k) →
    send_at (place_of run k) i (past_of run k) ≡ sent_by (place_of run k) (slice_index_or (record_of run k) i d).event (slice_index_or (record_of run k) i d).outcome
send_here run k i d below =
    let xs = record_of run k in
    let each = from_each (IsAtPlace (place_of run k) (reverse xs)) xs (all_at_place (place_of run k) (reverse xs)) i below d in
    let P : ℕ → Type 0 = λ n. send_at (place_of run k) n (reverse xs) ≡ sent_by (place_of run k) (slice_index_or xs i d).event (slice_index_or xs i d).outcome in
    subst P (past_length xs i (omega (arith, below))) each

pub sent_is : (run : Run) (k i : ℕ) (p : Place) (x : Entry) → k < length run.places → i < length (record_of run k) → p ≡ slice_index_or run.places k p → x ≡ slice_index_or (record_of run k) i x →
    send_at (place_of run k) i (past_of run k) ≡ sent_by p x.event x.outcome
sent_is run k i p x node below p_is x_is =
    send_here run k i x below
    ∙ (ap (λ (y : Entry). sent_by (place_of run k) y.event y.outcome) (sym x_is) ∙ ap (λ (q : Place). sent_by q x.event x.outcome) (sym (place_at run.places k p node p_is)))

same_sending : (s t : Sending) → Some s ≡ Some t → s ≡ t
same_sending s t e = cc

pub no_send : (run : Run) (k i : ℕ) (sending : Sending) → send_at (place_of run k) i (past_of run k) ≡ None → IsSend run (probe_at k i) sending → ⊥
no_send run k i sending none is = none-some sending (sym none ∙ is.1)

pub the_send : (run : Run) (k i : ℕ) (s sending : Sending) → send_at (place_of run k) i (past_of run k) ≡ Some s → IsSend run (probe_at k i) sending → s ≡ sending
the_send run k i s sending some is = same_sending s sending (sym some ∙ is.1)

pub covered_none : (run : Run) (k i : ℕ) → send_at (place_of run k) i (past_of run k) ≡ None → IsCoveredAt run k i
covered_none run k i none sending is = absurd (no_send run k i sending none is)

pub covered_so : (run : Run) (k i : ℕ) (s : Sending) → send_at (place_of run k) i (past_of run k) ≡ Some s → is_promised run k s.frame ≡ true → IsCoveredAt run k i
covered_so run k i s some is sending send =
    subst (λ (t : Sending). is_promised run k t.frame ≡ true) (the_send run k i s sending some send) is

pub so_covered : (run : Run) (k i : ℕ) (s : Sending) → k < length run.places → send_at (place_of run k) i (past_of run k) ≡ Some s → IsCoveredAt run k i → is_promised run k s.frame ≡ true
so_covered run k i s node some all = all s (node, some)

-- a send stands at a place of its node's record
within : (place : Place) (n : ℕ) (s : Sending) (h : List Entry) → send_at place n h ≡ Some s → n < length h
within place n s [] e = absurd cc
within place n s (x ∷ past) e = by_test (n == length past) refl e (within place n s past)
  where
    by_test : (b : Bool) → (n == length past) ≡ b → (if b then sent_by place x.event x.outcome else send_at place n past) ≡ Some s → (send_at place n past ≡ Some s → n < length past) → n < length (x ∷ past)
    by_test true same h rest = let at = eqb-true n (length past) same in omega (arith, at)
    by_test false same h rest = let low = rest h in omega (arith, low)

pub in_record : (run : Run) (send : Probe) (sending : Sending) → IsSend run send sending → send.place < length (record_of run send.node)
in_record run send sending is =
    let low = within (place_of run send.node) send.place sending (past_of run send.node) is.1 in
    let same = length-reverse (record_of run send.node) in
    omega (arith, low, same)

-- whether an entry is a send
pub some_send : (run : Run) (k i : ℕ) (o : Option Sending) → k < length run.places → send_at (place_of run k) i (past_of run k) ≡ o → is_some o ≡ true → HasSend run
some_send run k i None node is some = absurd (false≢true some)
some_send run k i (Some s) node is some = record { send = probe_at k i; sending = s; is_send = (node, is) }

pub none_send : (run : Run) (k i : ℕ) (o : Option Sending) → send_at (place_of run k) i (past_of run k) ≡ o → is_some o ≡ false → IsNoSendAt run k i
none_send run k i None is none = λ sending sent. no_send run k i sending is sent
none_send run k i (Some s) is none = absurd (false≢true (sym none))
