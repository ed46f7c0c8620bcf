-- Where the copies of a world come from.
use Rattle.std.specs.Prelude.{ℕ, ◌≡◌, ◌⊎◌, Bool, true, false, List, Some, None, option_to_list}
use Rattle.std.specs.List.{AllByRecursion, list_any}
use Rattle.hsr_run_laws.specs.Run.{owner_in, record_in}
use Rattle.hsr_topology.specs.Wired.{IsWired}
use Rattle.hsr_topology.specs.declared.end.End.{End}
use Rattle.hsr_node.specs.Flow.{arrivals, send_at}
use Rattle.hsr_node.specs.declared.sending.Sending.{Sending}
use Rattle.hsr_node.specs.declared.entry.Entry.{Entry}
use Rattle.hsr_node.specs.declared.event.Carried.{Carried}
use Rattle.hsr_node.specs.declared.event.Probe.{Probe}
use Rattle.hsr_node.specs.declared.place.Place.{Place}
use Rattle.hsr_world_laws.specs.Law.{IsSound}
use Rattle.hsr_world_laws.specs.Spans.{Lane, Span}
use Rattle.hsr_world_laws.specs.World.{World, new_world, run}
use Rattle.hsr_world_steps.specs.declared.step.Step.{Step}

-- a copy names by its probe an entry that is a send
pub record NamesSend (places : List Place) (records : List (List Entry)) (copy : Carried) : Type 0 where
  pub probe : Probe
  pub sending : Sending
  pub named : copy.probe ≡ Some probe
  pub sent : send_at (owner_in places probe.node).place probe.place (record_in records probe.node) ≡ Some sending

-- octets that no port sent are on a link, whatever became of them
abbrev pub has_injected : Span → Bool
has_injected span = list_any (λ row. row.injected) span.link.rows

abbrev pub is_injected : List Span → Bool
is_injected spans = list_any has_injected spans

-- a copy names a send, or it names nothing, and something was injected
abbrev pub HasOrigin : List Place → List (List Entry) → List Span → Carried → Type 0
HasOrigin places records spans copy = NamesSend places records copy ⊎ ((copy.probe ≡ None) × (is_injected spans ≡ true))

-- P of each copy of a lane, of a link, of a world: on the links, in the outboxes and the hands, and of those that came to a node
pub record InLane (P : Carried → Type 0) (lane : Lane) : Type 0 where
  pub outbox : AllByRecursion P lane.outbox
  pub hand : AllByRecursion P (option_to_list lane.hand)

pub record InSpan (P : Carried → Type 0) (span : Span) : Type 0 where
  pub rows : AllByRecursion (λ row. P row.carried) span.link.rows
  pub forth : InLane P span.forth
  pub back : InLane P span.back

pub record EachCopy (P : Carried → Type 0) (w : World) : Type 0 where
  pub spans : AllByRecursion (InSpan P) w.spans
  pub came : (n port : ℕ) → AllByRecursion P (arrivals port (record_in w.records n))

abbrev pub HaveOrigins : World → Type 0
HaveOrigins w = EachCopy (HasOrigin w.places w.records w.spans) w

-- whatever is done
abbrev pub AlwaysOrigins : Type 0
AlwaysOrigins = (capacity : ℕ) (steps : List Step) (w : World) → IsSound capacity w → HaveOrigins w → HaveOrigins (run capacity steps w)

-- Whatever is done from the first world on: where nothing was injected, each copy names a send.
abbrev pub AlwaysSent : Type 0
AlwaysSent = (capacity room : ℕ) (places : List Place) (links : List (List End)) (steps : List Step) → IsWired places links
    → (w : World) → run capacity steps (new_world room places links) ≡ w → is_injected w.spans ≡ false → EachCopy (NamesSend w.places w.records) w
