-- What holds of a world after any steps.
use Rattle.std.specs.Prelude.{ℕ, ◌≡◌, List, [], ◌∷◌, ◌++◌, option_to_list, length, IsPermutation}
use Rattle.std.specs.List.{AllByRecursion}
use Rattle.hsr_run_laws.specs.Run.{owner_in, record_in}
use Rattle.hsr_topology.specs.Wired.{AreDistinct, IsWired}
use Rattle.hsr_topology.specs.declared.end.End.{End}
use Rattle.hsr_link.specs.Rows.{put_copies, taken_copies}
use Rattle.hsr_link.specs.declared.row.Dir.{Dir}
use Rattle.hsr_link.specs.declared.row.Dir.TheVariants.{Forth, Back}
use Rattle.hsr_link.specs.declared.row.Row.{Row}
use Rattle.hsr_node.specs.Flow.{arrivals, passes}
use Rattle.hsr_node.specs.Record.{IsLegal}
use Rattle.hsr_node.specs.declared.entry.Entry.{Entry}
use Rattle.hsr_node.specs.declared.place.Place.{Place}
use Rattle.hsr_world_laws.specs.Spans.{Lane, Span, lanes_of}
use Rattle.hsr_world_laws.specs.World.{World, new_world, run}
use Rattle.hsr_world_steps.specs.declared.step.Step.{Step}

-- What a port passed is what was put and not injected, and what it has still to put; what was taken is what came to the
-- port at the other end, and what it holds; each copy as often.
pub record LaneAgrees (places : List Place) (records : List (List Entry)) (dir : Dir) (rows : List Row) (lane : Lane) : Type 0 where
  pub sent : IsPermutation (passes (owner_in places lane.from.node) lane.from.port (record_in records lane.from.node)) (put_copies dir rows ++ lane.outbox)
  pub came : IsPermutation (taken_copies dir rows) (arrivals lane.to.port (record_in records lane.to.node) ++ option_to_list lane.hand)

pub record SpanAgrees (places : List Place) (records : List (List Entry)) (span : Span) : Type 0 where
  pub forth : LaneAgrees places records Forth span.link.rows span.forth
  pub back : LaneAgrees places records Back span.link.rows span.back

-- where copies come in
abbrev pub receiving : List Lane → List End
receiving [] = []
receiving (lane ∷ lanes) = lane.to ∷ receiving lanes

-- each record is legal, and the links agree with the records
pub record IsSound (capacity : ℕ) (w : World) : Type 0 where
  pub counted : length w.records ≡ length w.places
  pub legal : (n : ℕ) → IsLegal capacity (owner_in w.places n) (record_in w.records n)
  pub agree : AllByRecursion (SpanAgrees w.places w.records) w.spans
  pub distinct : AreDistinct (receiving (lanes_of w.spans))

-- whatever is done
abbrev pub AlwaysSound : Type 0
AlwaysSound = (capacity : ℕ) (steps : List Step) (w : World) → IsSound capacity w → IsSound capacity (run capacity steps w)

-- so is a world in which nothing was done yet, of nodes and links that are a topology
abbrev pub FirstSound : Type 0
FirstSound = (capacity room : ℕ) (places : List Place) (links : List (List End)) → IsWired places links → IsSound capacity (new_world room places links)
