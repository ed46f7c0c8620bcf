-- What a world comes to when it is closed, and what holds of it then.
--     run_of                the finished run that a world is
--     AreFrames             each send is a frame that octets can spell
--     IsQuiet               nothing is under way
--     AlwaysOfSend          origin of the copies
--     AlwaysNumberedFirst   numbered first
--     AlwaysCloses          a quiet world closes, and by OnlyQuietCloses no other
--     AlwaysPlaced          nodes and links stay
use Rattle.std.specs.Prelude.{ℕ, ◌≡◌, ◌||◌, not, Bool, false, List, length, map, reverse, is_some, Some, Ok}
use Rattle.std.specs.List.{list_any}
use Rattle.hsr_duptable.specs.Table.{IsTableSize}
use Rattle.hsr_run_laws.specs.Closed.{IsClosed, IsOfSend}
use Rattle.hsr_finished_run.specs.Finished.{IsFinished, IsPlanned}
use Rattle.hsr_run_laws.specs.Premises.{NumberedFirst}
use Rattle.hsr_run_laws.specs.Run.{Run, owner_in, record_in}
use Rattle.hsr_topology.specs.Wired.{IsWired}
use Rattle.hsr_topology.specs.declared.end.End.{End}
use Rattle.hsr_link.specs.Rows.{is_queued}
use Rattle.hsr_node.specs.Flow.{send_at}
use Rattle.hsr_node.specs.declared.sending.Sending.{Sending}
use Rattle.hsr_node.specs.declared.entry.Entry.{Entry}
use Rattle.hsr_node.specs.declared.event.Probe.{Probe}
use Rattle.hsr_node.specs.declared.place.Place.{Place}
use Rattle.hsr_tag.specs.Tag.{IsPlain}
use Rattle.hsr_world_laws.specs.Spans.{Lane, Span}
use Rattle.hsr_world_laws.specs.Origin.{EachCopy, is_injected}
use Rattle.hsr_world_laws.specs.Reached.{IsReached}
use Rattle.hsr_world_laws.specs.World.{World, is_empty, run, tried}
use Rattle.hsr_world_steps.specs.declared.step.Step.{Step}

-- the records the oldest entry first, and the rows of each link
abbrev pub run_of : ℕ → List (List End) → World → Run
run_of capacity links w =
    record { capacity = capacity; places = w.places; links = links; records = map reverse w.records; rows = map (λ (span : Span). span.link.rows) w.spans }

-- Each send's frame can be spelled: its addresses have six octets, and its VLAN tag and type 16 bits. Any value of the code is so.
abbrev pub AreFrames : List Place → List (List Entry) → Type 0
AreFrames places records = (send : Probe) (sending : Sending)
    → send_at (owner_in places send.node).place send.place (record_in records send.node) ≡ Some sending → IsPlain sending.frame

-- something waits in an outbox, in a hand or on a link
abbrev pub is_busy_lane : Lane → Bool
is_busy_lane lane = not (is_empty lane.outbox) || is_some lane.hand

abbrev pub is_busy : Span → Bool
is_busy span = list_any (λ row. is_queued row.fate) span.link.rows || is_busy_lane span.forth || is_busy_lane span.back

abbrev pub IsQuiet : World → Type 0
IsQuiet w = list_any is_busy w.spans ≡ false

-- a world after some steps from the first one on, of a topology, where no octets were injected
pub record IsOwn (capacity : ℕ) (places : List Place) (links : List (List End)) (w : World) : Type 0 where
  pub wired : IsWired places links
  pub reached : IsReached capacity places links w
  pub frames : AreFrames w.places w.records
  pub own : is_injected w.spans ≡ false

-- Each copy has its send's addresses, VLAN, type and payload; and where it is tagged its send's number, or for a Station's
-- send the number that the RedBox at its link gave it first.
abbrev pub AlwaysOfSend : Type 0
AlwaysOfSend = (capacity : ℕ) (places : List Place) (links : List (List End)) (w : World) → IsOwn capacity places links w → EachCopy (IsOfSend (run_of capacity links w)) w

-- A RedBox numbers a send of its Station before anything tagged of it comes, and once.
abbrev pub AlwaysNumberedFirst : Type 0
AlwaysNumberedFirst = (capacity : ℕ) (places : List Place) (links : List (List End)) (w : World) → IsOwn capacity places links w → NumberedFirst (run_of capacity links w)

-- Where nothing is under way a world is a closed run, with tables of a size that is allowed.
abbrev pub AlwaysCloses : Type 0
AlwaysCloses = (capacity : ℕ) (places : List Place) (links : List (List End)) (w : World) → IsTableSize capacity → IsOwn capacity places links w → IsQuiet w → IsClosed (run_of capacity links w)

-- And it is one nowhere else.
abbrev pub OnlyQuietCloses : Type 0
OnlyQuietCloses = (capacity : ℕ) (places : List Place) (links : List (List End)) (w : World) → IsWired places links → IsReached capacity places links w
    → IsClosed (run_of capacity links w) → IsQuiet w × (is_injected w.spans ≡ false)

-- No step changes where the nodes stand, nor how many nodes and links there are.
pub record IsPlaced (old new : World) : Type 0 where
  pub places : new.places ≡ old.places
  pub records : length new.records ≡ length old.records
  pub spans : length new.spans ≡ length old.spans

abbrev pub AlwaysPlaced : Type 0
AlwaysPlaced = (capacity : ℕ) (steps : List Step) (w : World) → IsPlaced w (run capacity steps w)

abbrev pub StepPlaced : Type 0
StepPlaced = (capacity : ℕ) (step : Step) (w after : World) → tried capacity w step ≡ Ok after → IsPlaced w after

-- The plan is what the records tell of the main worker.
abbrev pub AlwaysPlanned : Type 0
AlwaysPlanned = (capacity : ℕ) (places : List Place) (links : List (List End)) (w : World) → IsReached capacity places links w → IsPlanned (run_of capacity links w) w.plan

-- So a quiet world with its plan is a finished run.
abbrev pub AlwaysFinishes : Type 0
AlwaysFinishes = (capacity : ℕ) (places : List Place) (links : List (List End)) (w : World) → IsTableSize capacity → IsOwn capacity places links w
    → IsQuiet w → IsFinished (record { run = run_of capacity links w; plan = w.plan })
