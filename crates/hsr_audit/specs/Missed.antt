-- Sends to Stations that their RedBoxes didn't know.
--     IsMissed        a RedBox handles a send to a Station behind it by an entry, and doesn't know the destination
--     MissedBelow     so it is by some entry of the nodes below one
--     IsLowest        the lowest of some sends
--     IsFirstMissed   the lowest send of a run that isn't known each time
use Rattle.std.specs.Prelude.{ℕ, zero, suc, ◌≡◌, ◌⊎◌, ◌==◌, ◌&&◌, ◌||◌, nat_lt, not, Bool, true, false, if◌then◌else◌, List, [], ◌∷◌, slice_get, slice_index_or, Option, Some, None}
use Rattle.std.specs.List.{list_any}
use Rattle.hsr_frame.specs.Grammar.{Fields}
use Rattle.hsr_node.specs.Flow.{sent_by}
use Rattle.hsr_node.specs.declared.entry.Entry.{Entry}
use Rattle.hsr_node.specs.declared.event.Probe.{Probe}
use Rattle.hsr_node.specs.declared.place.Place.{Place}
use Rattle.hsr_node.specs.declared.place.Place.TheVariants.{QuadBox}
use Rattle.hsr_node.specs.declared.sending.Sending.{Sending}
use Rattle.hsr_link.specs.declared.row.Dir.TheVariants.{Forth}
use Rattle.hsr_topology.specs.declared.end.End.{End}
use Rattle.hsr_deliveries.specs.Delivered.{is_for}
use Rattle.hsr_run_laws.specs.Closed.{IsSend}
use Rattle.hsr_run_laws.specs.Premises.{is_redbox}
use Rattle.hsr_run_laws.specs.Run.{Run, from_end, is_of, owner_of, past_of, record_of, to_end}
use Rattle.hsr_network_laws.specs.Stations.{finds}
use Rattle.hsr_table_flaws.specs.Flaws.{IsFirstNot}
use Rattle.hsr_audit.specs.Coming.{IsBoxOf, is_to_station}
use Rattle.hsr_audit.specs.Sends.{AreKnown, IsKnownAt}

-- ---- a RedBox of a frame, by its links

-- a Station that a frame to one address is due at
abbrev pub is_due_below : List Place → ℕ → Fields → ℕ → Bool
is_due_below places sender frame n =
    is_to_station frame (slice_index_or places n QuadBox) && (not (n == sender) && is_for (slice_index_or places n QuadBox) frame.dst frame.kind)

-- a link joins a node with such a Station
abbrev pub leads_below : List Place → ℕ → Fields → ℕ → List End → Bool
leads_below places sender frame k ends =
    (((from_end Forth ends).node == k) && is_due_below places sender frame (to_end Forth ends).node) || (((to_end Forth ends).node == k) && is_due_below places sender frame (from_end Forth ends).node)

abbrev pub is_box_of : List Place → List (List End) → ℕ → Fields → ℕ → Bool
is_box_of places links sender frame k = is_redbox (slice_index_or places k QuadBox) && list_any (leads_below places sender frame k) links

-- ---- a send, by its node and place

abbrev pub sent_of : Place → Option Entry → Option Sending
sent_of place None = None
sent_of place (Some x) = sent_by place x.event x.outcome

abbrev pub sent_in : Run → Option Place → Probe → Option Sending
sent_in run None send = None
sent_in run (Some place) send = sent_of place (slice_get (record_of run send.node) send.place)

-- what an entry sends, if there is such an entry, and it is a send
abbrev pub sending_at : Run → Probe → Option Sending
sending_at run send = sent_in run (slice_get run.places send.node) send

-- ---- missed

-- a RedBox that knows these addresses doesn't know the destination of a send to a Station behind it
pub record IsUnknown (run : Run) (k : ℕ) (known : List ℕ → Bool) (send : Probe) : Type 0 where
  pub sending : Sending
  pub is_send : IsSend run send sending
  pub box : IsBoxOf run send.node sending.frame k
  pub unknown : known sending.frame.dst ≡ false

abbrev pub IsUnknownOf : Run → ℕ → (List ℕ → Bool) → Option Probe → Probe → Type 0
IsUnknownOf run k known handled send = (is_of send handled ≡ true) × IsUnknown run k known send

-- at an entry of a RedBox, with its past
pub record IsMissed (run : Run) (k : ℕ) (x : Entry) (past : List Entry) (send : Probe) : Type 0 where
  pub sending : Sending
  pub is_send : IsSend run send sending
  pub box : IsBoxOf run send.node sending.frame k
  pub not_found : finds (owner_of run k) send sending.frame.dst x past ≡ false

-- at some entry of a past
abbrev pub MissedOn : Run → ℕ → List Entry → Probe → Type 0
MissedOn run k [] send = ⊥
MissedOn run k (x ∷ past) send = MissedOn run k past send ⊎ IsMissed run k x past send

-- of some node below one
abbrev pub MissedBelow : Run → ℕ → Probe → Type 0
MissedBelow run zero send = ⊥
MissedBelow run (suc n) send = MissedBelow run n send ⊎ MissedOn run n (past_of run n) send

-- ---- the lowest

-- by node, and then by place
abbrev pub is_lower : Probe → Probe → Bool
is_lower p q = nat_lt p.node q.node || ((p.node == q.node) && nat_lt p.place q.place)

abbrev pub lower_of : Option Probe → Option Probe → Option Probe
lower_of None other = other
lower_of (Some p) None = Some p
lower_of (Some p) (Some q) = if is_lower q p then Some q else Some p

-- this send is of those of which P holds, and none of them is lower
pub record IsLowestOf (P : Probe → Type 0) (send : Probe) : Type 0 where
  pub is : P send
  pub lowest : (other : Probe) → P other → is_lower other send ≡ false

abbrev pub IsLowest : (Probe → Type 0) → Option Probe → Type 0
IsLowest P None = (send : Probe) → ¬ P send
IsLowest P (Some send) = IsLowestOf P send

abbrev pub IsFirstMissed : Run → Option Probe → Type 0
IsFirstMissed run None = AreKnown run
IsFirstMissed run (Some send) = IsFirstNot run (IsKnownAt run) send.node send.place
