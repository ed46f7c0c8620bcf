-- From the nodes that a send comes to to sends that come to all that they are due at.
use Rattle.std.proofs.Common.{◌≡◌, ℕ, ◌+◌, ◌<◌, true, length, Option, Some, None, subst, arith, ⊎_elim}
use Rattle.std.proofs.lemmas.Bool.{cases_lt}
use Rattle.hsr_node.specs.Flow.{send_at}
use Rattle.hsr_node.specs.declared.event.Probe.{Probe}
use Rattle.hsr_node.specs.declared.sending.Sending.{Sending}
use Rattle.hsr_deliveries.specs.Delivered.{is_due}
use Rattle.hsr_frame.specs.Grammar.{Fields}
use Rattle.hsr_run_laws.specs.Run.{Run, past_of, place_of}
use Rattle.hsr_audit.specs.Coming.{Comes}
use Rattle.hsr_audit.specs.Sends.{ComesDue, IsCutOff, IsServedAt, probe_at}
use Rattle.hsr_audit.specs.Reaching.{IsCutAt, IsFirstUnserved, IsUnserved, ServedBelow}
use Rattle.hsr_audit.proofs.Sending.{no_send, the_send}

pub served_none : (run : Run) (k i : ℕ) → send_at (place_of run k) i (past_of run k) ≡ None → IsServedAt run k i
served_none run k i none sending is = absurd (no_send run k i sending none is)

module _ (run : Run) (k i : ℕ) (s : Sending) (node : k < length run.places) (some : send_at (place_of run k) i (past_of run k) ≡ Some s) where
  pub served : ServedBelow run (probe_at k i) s.frame (length run.places) → IsServedAt run k i
  served all sending is =
      let P : Sending → Type 0 = λ t. (n : ℕ) → n < length run.places → ComesDue run (probe_at k i) t n in
      subst P (the_send run k i s sending some is) (λ n below due. all n below due)

  pub cut_off : (n : ℕ) → IsUnserved run (probe_at k i) s.frame n → IsCutOff run k i n
  cut_off n first = record {
    sending = s;
    is_send = (node, some);
    node = first.below;
    due = first.due;
    unreached = first.missing;
    before = first.before;
  }

pub cut_fails : (run : Run) (k i n : ℕ) → IsCutOff run k i n → IsServedAt run k i → ⊥
cut_fails run k i n cut all = cut.unreached (all cut.sending cut.is_send n cut.node cut.due)

pub due_more : (run : Run) (send : Probe) (frame : Fields) (n : ℕ) → (is_due run send.node frame.dst frame.kind n ≡ true → Comes run send frame n) → ServedBelow run send frame n → ServedBelow run send frame (n + 1)
due_more run send frame n here before k low due =
    ⊎_elim (λ lower. before k lower due)
    (λ high.
    let same : n ≡ k = omega (arith, low, high) in
    let P : ℕ → Type 0 = λ m. is_due run send.node frame.dst frame.kind m ≡ true → Comes run send frame m in
    subst P same here due)
    (cases_lt k n)

pub cut_at : (run : Run) (k i : ℕ) (s : Sending) → k < length run.places → send_at (place_of run k) i (past_of run k) ≡ Some s → (o : Option ℕ) → IsFirstUnserved run (probe_at k i) s.frame o → IsCutAt run k i o
cut_at run k i s node some None all = served run k i s node some all
cut_at run k i s node some (Some n) first = cut_off run k i s node some n first
