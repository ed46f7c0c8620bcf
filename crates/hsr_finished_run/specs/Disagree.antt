-- The numbers of causes in texts.
use Rattle.std.specs.Prelude.{ℕ}
use Rattle.hsr_finished_run.specs.declared.disagree.Disagree.{Disagree}
use Rattle.hsr_finished_run.specs.declared.disagree.Disagree.TheVariants.{Shape, LinkPut, LinkTaken, Stranger, NotQuiet, Receipts}

abbrev pub disagree_code : Disagree → ℕ
disagree_code Shape = 6
disagree_code (LinkPut link dir) = 1
disagree_code (LinkTaken link dir) = 2
disagree_code (Stranger link row) = 3
disagree_code (NotQuiet link) = 4
disagree_code (Receipts worker) = 5
