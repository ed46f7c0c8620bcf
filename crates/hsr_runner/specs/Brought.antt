-- What no run by threads has.
--     NoneIsAlien      each entry is of the main worker, or of the one that brings such to its node
--     InjectsNothing   no order puts on a link what no port sent
--     IsUnlike         what a run or its orders have of these, as a cause of the closing check
use Rattle.std.specs.Prelude.{ℕ, ◌<◌, ◌≡◌, ◌==◌, ◌&&◌, not, Bool, false, List, length, find, filter_map, slice_get, Option, Some, None, option_map}
use Rattle.hsr_finished_run.specs.declared.disagree.Disagree.{Disagree}
use Rattle.hsr_finished_run.specs.declared.disagree.Disagree.TheVariants.{Stranger, Receipts}
use Rattle.hsr_node.specs.declared.entry.Entry.{Entry}
use Rattle.hsr_node.specs.declared.event.Event.{Event}
use Rattle.hsr_node.specs.declared.event.Event.TheVariants.{Arrive, Age}
use Rattle.hsr_run_laws.specs.Run.{Run, record_of}
use Rattle.hsr_topology.specs.Workers.{ager, port_worker}
use Rattle.hsr_world_steps.specs.declared.step.Step.TheVariants.{Inject}
use Rattle.hsr_scenario.specs.declared.steps.Order.{Order}
use Rattle.hsr_scenario.specs.declared.steps.Order.TheVariants.{Step}

-- which worker but the main one brings an event to a node
abbrev pub brings : ℕ → Event → ℕ → Bool
brings node (Arrive port copy) worker = worker == port_worker (record { node = node; port = port })
brings node Age worker = worker == ager node
brings node event worker = false

-- an entry is neither of the main worker nor of the one that brings such
abbrev pub is_alien : ℕ → Entry → Bool
is_alien node x = not (x.worker == 0) && not (brings node x.event x.worker)

-- the worker of the first such entry of a record
abbrev pub first_alien : ℕ → List Entry → Option ℕ
first_alien node entries = option_map (λ x. x.worker) (find (is_alien node) entries)

abbrev pub NoneIsAlien : Run → Type 0
NoneIsAlien run = (k : ℕ) → k < length run.places → first_alien k (record_of run k) ≡ None

-- the worker of the first such entry of the lowest node that has one
pub record IsFirstAlien (run : Run) (worker : ℕ) : Type 0 where
  pub node : ℕ
  pub below : node < length run.places
  pub here : first_alien node (record_of run node) ≡ Some worker
  pub before : (k : ℕ) → k < node → first_alien k (record_of run k) ≡ None

-- the link on which an order puts what no port sent
abbrev pub injected_on : Order → Option ℕ
injected_on (Step (Inject link dir octets)) = Some link
injected_on _ = None

-- the first link on which orders do
abbrev pub first_injected : List Order → Option ℕ
first_injected orders = slice_get (filter_map injected_on orders) 0

abbrev pub InjectsNothing : List Order → Type 0
InjectsNothing orders = first_injected orders ≡ None

-- The orders inject, first on this link; or else an entry is alien, first of this worker.
abbrev pub IsUnlike : Run → List Order → Disagree → Type 0
IsUnlike run orders (Stranger link row) = (first_injected orders ≡ Some link) × (row ≡ 0)
IsUnlike run orders (Receipts worker) = InjectsNothing orders × IsFirstAlien run worker
IsUnlike run orders _ = ⊥
