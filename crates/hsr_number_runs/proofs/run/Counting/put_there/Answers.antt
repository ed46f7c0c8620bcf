use Rattle.std.proofs.Common.{arith}
use Rattle.std.specs.HashMap.{get}
use Rattle.hsr_number_runs.specs.Counting.{same_block}
use Rattle.hsr_number_runs.proofs.Running.{put_marked}
use Rattle.hsr_number_runs.proofs.run.Counting.put_there.Goals as goal

pub returns-clause-there : goal.returns-clause-there
returns-clause-there c = λ before known p run extended.
    put_marked (get same_block c.args.self.now.there) (get same_block c.insert.new.self) p c.args.run c.args.extended c.marks_of-marks.result before (omega arith) c.marks_of-marks.ensures c.in_ok-insert.ensures.updates.0 known run extended
