-- How often a send leaves a node, whether its run is closed or not.
--     LeavesOnce   where nothing that is needed was forgotten so far, no more than one copy of a send leaves by a port
use Rattle.std.specs.Prelude.{ℕ, ◌≤◌, List, count_by}
use Rattle.hsr_node.specs.Flow.{passes}
use Rattle.hsr_node.specs.declared.entry.Entry.{Entry}
use Rattle.hsr_node.specs.declared.event.Probe.{Probe}
use Rattle.hsr_run_laws.specs.Once.{is_copy}
use Rattle.hsr_run_laws.specs.Run.{Run, owner_of}
use Rattle.hsr_record_laws.specs.Rivals.{IsRecordOf, RemembersEach}

abbrev pub LeavesOnce : Type 0
LeavesOnce = (run : Run) (k n : ℕ) (send : Probe) (h : List Entry) → IsRecordOf run k h → RemembersEach run k h →
    count_by (is_copy send) (passes (owner_of run k) n h) ≤ 1
