-- What of a plan is left for records to tell.
use Rattle.std.specs.Prelude.{ℕ, ◌<◌, List, length, slice_index_or}
use Rattle.hsr_node.specs.Kept.{Record}
use Rattle.hsr_finished_run.specs.Passes.{IsLeft}
use Rattle.hsr_finished_run.specs.declared.planned.Planned.{Planned}

-- from the next places on the records tell of the rest of a plan, and nothing in it is planned for other nodes
pub record IsRest (kept : List Record) (next : List ℕ) (rest : List Planned) : Type 0 where
  pub nodes : (i : ℕ) (d : Planned) → i < length rest → (slice_index_or rest i d).node < length kept
  pub left : IsLeft kept next rest
