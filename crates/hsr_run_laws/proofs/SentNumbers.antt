-- The number of a send by its place, and the source and number of a DANH's own frame.
use Rattle.std.proofs.Common.{◌≡◌, ℕ, ◌%◌, ◌<◌, ◌==◌, Bool, true, false, if◌then◌else◌, List, [], ◌∷◌, length, Some, refl, ◌∙◌, arith, eq-eqb, ne_eqb}
use Rattle.std.proofs.lemmas.Bool.{false≢true, cond-true, cond-false}
use Rattle.hsr_frame.specs.declared.node.Mode.{Mode}
use Rattle.hsr_node.specs.Copies.{address_at, asked_frame, life_frame, ring_address}
use Rattle.hsr_node.specs.Flow.{send_at, sent_by}
use Rattle.hsr_node.specs.declared.sending.Sending.{Sending}
use Rattle.hsr_node.specs.Record.{Each, key_handled, now, number_in, own_key}
use Rattle.hsr_node.specs.declared.entry.Entry.{Entry}
use Rattle.hsr_node.specs.declared.event.Event.{Event}
use Rattle.hsr_node.specs.declared.event.Event.TheVariants.{Send, Supervise, Arrive, Age}
use Rattle.hsr_node.specs.declared.event.Outcome.{Outcome}
use Rattle.hsr_node.specs.declared.event.Outcome.TheVariants.{Sent, Life, Judged, Aged}
use Rattle.hsr_node.specs.declared.place.Place.{Place}
use Rattle.hsr_node.specs.declared.place.Place.TheVariants.{Danh}
use Rattle.hsr_run_laws.specs.Budget.{is_sending}
use Rattle.hsr_run_laws.proofs.Danh.{danh}
use Rattle.hsr_run_laws.proofs.Numbers.{danh_number, numbered, numbered_at}
use Rattle.hsr_run_laws.proofs.Records.{Answered, sending_frame}
use Rattle.hsr_run_laws.proofs.Ring.{legal}

pub sent_number : (place : Place) (event : Event) (outcome : Outcome) (s : Sending) → sent_by place event outcome ≡ Some s → (s.seq ≡ number_in outcome) × (is_sending event ≡ true)
sent_number place (Send from dst vlan ethertype payload) (Sent seq ports) s h = ((sending_frame seq (asked_frame (address_at place from) dst vlan ethertype payload) s h).1, refl)
sent_number place (Send from dst vlan ethertype payload) (Life seq life ports) s h = absurd cc
sent_number place (Send from dst vlan ethertype payload) (Judged up_too ports seq why) s h = absurd cc
sent_number place (Send from dst vlan ethertype payload) Aged s h = absurd cc
sent_number place (Supervise about) (Life seq life ports) s h = ((sending_frame (Some seq) (life_frame (ring_address place) about life) s h).1, refl)
sent_number place (Supervise about) (Sent seq ports) s h = absurd cc
sent_number place (Supervise about) (Judged up_too ports seq why) s h = absurd cc
sent_number place (Supervise about) Aged s h = absurd cc
sent_number place (Arrive port copy) outcome s h = absurd cc
sent_number place Age outcome s h = absurd cc

pub seq_at : (capacity k : ℕ) (mac : List ℕ) (mode : Mode) (n : ℕ) (s : Sending) (h : List Entry) → Each (Answered capacity (danh k mac mode)) h → send_at (Danh mac mode) n h ≡ Some s → s.seq ≡ Some (numbered_at n h % 65536)
seq_at capacity k mac mode n s [] legal is = absurd cc
seq_at capacity k mac mode n s (x ∷ past) legal is = step (n == length past) is (seq_at capacity k mac mode n s past legal.1)
  where
    step : (b : Bool) → (if b then sent_by (Danh mac mode) x.event x.outcome else send_at (Danh mac mode) n past) ≡ Some s → (send_at (Danh mac mode) n past ≡ Some s → s.seq ≡ Some (numbered_at n past % 65536)) →
        s.seq ≡ Some ((if b then numbered past else numbered_at n past) % 65536)
    step true is rest =
        let two = sent_number (Danh mac mode) x.event x.outcome s is in
        two.0 ∙ danh_number capacity k mac mode past (now (x ∷ past)) x.event x.outcome legal.0 two.1
    step false is rest = rest is

-- how many numbered frames came before the entry at its place
pub each_counted : (whole h : List Entry) → ((n : ℕ) → n < length h → numbered_at n whole ≡ numbered_at n h) → Each (λ x past. numbered_at (length past) whole ≡ numbered past) h
each_counted whole [] agree = tt
each_counted whole (x ∷ past) agree = (
  agree (length past) (omega arith) ∙ cond-true (length past == length past) _ _ (eq-eqb (length past) (length past) refl),
  each_counted whole past (λ n below. agree n (omega arith) ∙ cond-false (n == length past) _ _ (ne_eqb n (length past) (λ e. omega arith))),
)

-- the key of a DANH's own frame
pub own_key_is : (mac : List ℕ) (mode : Mode) (event : Event) (outcome : Outcome) → is_sending event ≡ true → key_handled (Danh mac mode) event outcome ≡ own_key (Some mac) (number_in outcome)
own_key_is mac mode (Send from dst vlan ethertype payload) outcome is = refl
own_key_is mac mode (Supervise about) outcome is = refl
own_key_is mac mode (Arrive port copy) outcome is = absurd (false≢true is)
own_key_is mac mode Age outcome is = absurd (false≢true is)
