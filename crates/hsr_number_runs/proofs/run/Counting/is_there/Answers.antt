use Rattle.std.proofs.Common.{◌%◌, ◌∙◌}
use Rattle.hsr_number_runs.proofs.run.Counting.is_there.Goals as goal

pub returns : goal.returns
returns c = λ before known. c.marks_of-marks.ensures (c.args.extended % 8) ∙ known.there c.args.run c.args.extended
