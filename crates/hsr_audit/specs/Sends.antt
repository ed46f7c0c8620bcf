-- What is asked of each send of a network.
--     HasSend         something was sent
--     IsServedAt      the send at a place of a record comes to each node that it is due at
--     IsKnownAt       the RedBox of a Station that it is to knew that each time
--     IsCoveredAt     the law of networks promises whom it comes to
use Rattle.std.specs.Prelude.{ℕ, ◌<◌, ◌≡◌, ◌&&◌, not, Bool, true, length}
use Rattle.hsr_frame.specs.Egress.{is_supervision}
use Rattle.hsr_frame.specs.Grammar.{Fields}
use Rattle.hsr_node.specs.declared.event.Probe.{Probe}
use Rattle.hsr_node.specs.declared.sending.Sending.{Sending}
use Rattle.hsr_deliveries.specs.Delivered.{is_due}
use Rattle.hsr_run_laws.specs.Closed.{IsSend}
use Rattle.hsr_run_laws.specs.Run.{Run}
use Rattle.hsr_network_laws.specs.Lives.{is_joined_with_station}
use Rattle.hsr_audit.specs.Coming.{Comes, IsKnown}

-- ---- one send

-- something was sent
pub record HasSend (run : Run) : Type 0 where
  pub send : Probe
  pub sending : Sending
  pub is_send : IsSend run send sending

abbrev pub probe_at : ℕ → ℕ → Probe
probe_at k i = record { node = k; place = i }

-- a frame isn't supervision of a Station that is joined with a Station
abbrev pub is_promised : Run → ℕ → Fields → Bool
is_promised run sender frame = not (is_supervision frame.dst frame.kind && is_joined_with_station run.places run.links sender)

-- a send is due at a node, and comes to it
abbrev pub ComesDue : Run → Probe → Sending → ℕ → Type 0
ComesDue run send sending n = is_due run send.node sending.frame.dst sending.frame.kind n ≡ true → Comes run send sending.frame n

-- the entry at a place of a node's record is no send, or one that comes to each node that it is due at
abbrev pub IsServedAt : Run → ℕ → ℕ → Type 0
IsServedAt run k i = (sending : Sending) → IsSend run (probe_at k i) sending → (n : ℕ) → n < length run.places → ComesDue run (probe_at k i) sending n

-- it is no send, or one whose destination each RedBox that is to pass it down knew each time
abbrev pub IsKnownAt : Run → ℕ → ℕ → Type 0
IsKnownAt run k i = (sending : Sending) → IsSend run (probe_at k i) sending → IsKnown run (probe_at k i) sending

-- it is no send
abbrev pub IsNoSendAt : Run → ℕ → ℕ → Type 0
IsNoSendAt run k i = (sending : Sending) → ¬ IsSend run (probe_at k i) sending

-- it is no send, or one of which the law promises whom it comes to
abbrev pub IsCoveredAt : Run → ℕ → ℕ → Type 0
IsCoveredAt run k i = (sending : Sending) → IsSend run (probe_at k i) sending → is_promised run k sending.frame ≡ true

-- of the nodes that a send is due at the lowest that it doesn't come to
pub record IsCutOff (run : Run) (k i n : ℕ) : Type 0 where
  pub sending : Sending
  pub is_send : IsSend run (probe_at k i) sending
  pub node : n < length run.places
  pub due : is_due run k sending.frame.dst sending.frame.kind n ≡ true
  pub unreached : ¬ Comes run (probe_at k i) sending.frame n
  pub before : (m : ℕ) → m < n → ComesDue run (probe_at k i) sending m

-- ---- all sends

abbrev pub AreServed : Run → Type 0
AreServed run = (send : Probe) (sending : Sending) → IsSend run send sending → (n : ℕ) → n < length run.places → ComesDue run send sending n

abbrev pub AreKnown : Run → Type 0
AreKnown run = (send : Probe) (sending : Sending) → IsSend run send sending → IsKnown run send sending

abbrev pub ArePromised : Run → Type 0
ArePromised run = (send : Probe) (sending : Sending) → IsSend run send sending → is_promised run send.node sending.frame ≡ true
