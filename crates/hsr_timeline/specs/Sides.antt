-- One direction of a link, row by row.
use Rattle.std.specs.Prelude.{ℕ, ◌≡◌, map}
use Rattle.hsr_link.specs.declared.row.Dir.{Dir}
use Rattle.hsr_run_laws.specs.Run.{Run, ends_of, from_end, rows_of, to_end}
use Rattle.hsr_run_index.specs.InOrder.{copy_of_passage}
use Rattle.hsr_run_index.specs.declared.agreement.Passage.TheVariants.{Put, Taken}
use Rattle.hsr_timeline.specs.declared.hopping.Side.{Side}
use Rattle.hsr_timeline.specs.Hops.{came_at, passed_at}
use Rattle.hsr_timeline.specs.Partners.{partners}

pub record IsSide (run : Run) (l : ℕ) (dir : Dir) (side : Side) : Type 0 where
  pub from_node : side.from ≡ (from_end dir (ends_of run l)).node
  pub to_node : side.to ≡ (to_end dir (ends_of run l)).node
  pub passed_there : side.passed.items ≡ partners (passed_at run (from_end dir (ends_of run l))) (map (copy_of_passage Put dir) (rows_of run l))
  pub judged_there : side.judged.items ≡ partners (came_at run (to_end dir (ends_of run l))) (map (copy_of_passage Taken dir) (rows_of run l))
