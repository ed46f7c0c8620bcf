-- What an event that a worker brings to a node makes of the nodes and of the spans.
use Rattle.std.specs.Prelude.{ℕ, ◌<◌, slice_index_or, ◌≡◌, List, [], ◌∷◌, ◌++◌, length, map, max, set, Result, Ok, Err}
use Rattle.hsr_node.specs.Kept.{Record, past_of}
use Rattle.hsr_node.specs.Record.{answer, now}
use Rattle.hsr_node.specs.declared.entry.Entry.{Entry}
use Rattle.hsr_node.specs.declared.entry.Receipt.{Receipt}
use Rattle.hsr_node.specs.declared.event.Event.{Event}
use Rattle.hsr_node.specs.declared.event.Outcome.{Outcome}
use Rattle.hsr_node.specs.declared.event.StepFault.{StepFault}
use Rattle.hsr_world_links.specs.Ports.{places_of}
use Rattle.hsr_world_laws.specs.Spans.{Span}
use Rattle.hsr_ring.specs.Views.{world_of}
use Rattle.hsr_world_laws.specs.World.{World, entered}
use Rattle.hsr_run_laws.specs.Run.{owner_in, record_in}
use Rattle.hsr_finished_run.specs.declared.planned.Planned.{Planned}
use Rattle.hsr_world_steps.specs.declared.step.WorldFault.{WorldFault}
use Rattle.hsr_world_steps.specs.declared.step.WorldFault.TheVariants.{Node}

abbrev pub past_in : List Record → ℕ → List Entry
past_in nodes n = record_in (map past_of nodes) n

-- what a node answers to an event, at a moment that is given
abbrev pub answer_in : ℕ → List Record → ℕ → ℕ → Event → Result Outcome StepFault
answer_in capacity nodes n at event = answer capacity (owner_in (places_of nodes) n) (past_in nodes n) (max (now (past_in nodes n)) at) event

-- a node did this, and keeps it
pub record IsStepped (capacity : ℕ) (worker n at : ℕ) (event : Event) (old new : List Record) (receipt : Receipt) : Type 0 where
  pub told : receipt ≡ record { node = n; place = length (past_in old n); entry = record { worker = worker; at = at; event = event; outcome = receipt.entry.outcome } }
  pub answered : answer_in capacity old n at event ≡ Ok receipt.entry.outcome
  pub places : places_of new ≡ places_of old
  pub records : map past_of new ≡ set (map past_of old) n (receipt.entry ∷ past_in old n)

-- an entry stands at this place of the record of a node
abbrev pub IsThere : List Record → ℕ → ℕ → Entry → Type 0
IsThere nodes n place x = (d : Record) (e : Entry) → (place < length (slice_index_or nodes n d).entries) × (slice_index_or (slice_index_or nodes n d).entries place e ≡ x)

-- it refuses the event for this
abbrev pub IsRefusal : ℕ → List Record → ℕ → ℕ → Event → WorldFault → Type 0
IsRefusal capacity nodes n at event f = (fault : StepFault) × (answer_in capacity nodes n at event ≡ Err fault) × (f ≡ Node fault)

-- whatever is planned: it is entered
abbrev pub IsEntered : ℕ → ℕ → ℕ → ℕ → Event → List Record → List Record → List Span → List Span → Type 0
IsEntered capacity worker n at event nodes nodes_after spans spans_after =
    (plan : List Planned) → entered capacity (world_of at nodes spans plan) worker n event ≡ Ok (world_of at nodes_after spans_after plan)

abbrev pub IsNotEntered : ℕ → ℕ → ℕ → ℕ → Event → List Record → List Span → WorldFault → Type 0
IsNotEntered capacity worker n at event nodes spans fault =
    (plan : List Planned) → entered capacity (world_of at nodes spans plan) worker n event ≡ Err fault

-- what was planned last is planned no more
abbrev pub IsUnplanned : World → World → Type 0
IsUnplanned old new = (plan : List Planned) (last : Planned) → old.plan ≡ plan ++ last ∷ [] → new ≡ record old { plan = plan }
