use Rattle.std.proofs.Common.{rules}
use Rattle.hsr_table_size.specs.Sizes.{capacity_of}
use Rattle.hsr_plan_run.proofs.Whole.{unrun_line}
use Rattle.hsr_plan_run.proofs.shown.shown_in.Goals as goal

pub returns-in-Ok-read-clause-none : goal.returns-in-Ok-read-clause-none
returns-in-Ok-read-clause-none c =
    unrun_line c.shown_with.result c.in-Err-shown_with.line (capacity_of c.args.table) c.args.octets.now c.in-Ok.text.now c.in-Ok-read.plan (search rules) (search rules)
    c.in-Err-shown_with.is c.shown_with.ensures.none
