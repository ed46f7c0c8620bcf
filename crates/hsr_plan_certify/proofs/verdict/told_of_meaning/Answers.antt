use Rattle.hsr_table_size.specs.Sizes.{capacity_of}
use Rattle.hsr_plan_certify.proofs.Whole.{told_so}
use Rattle.hsr_plan_certify.proofs.verdict.told_of_meaning.Goals as goal

pub returns : goal.returns
returns c =
    told_so (capacity_of c.args.table) c.args.question c.args.text.now c.args.meant c.in_ok-meaning.meaning c.in_ok-certification.certification.verdict c.in_ok-certification.certification.line.items c.put_faults.new.text.items
    c.ending_of.result c.in_ok-meaning.ensures c.in_ok-certification.ensures.found c.in_ok-certification.ensures.line c.in_ok-put_faults.ensures c.ending_of.ensures
