use Rattle.hsr_table_size.specs.Sizes.{capacity_of}
use Rattle.hsr_plan_certify.proofs.Whole.{certified_so}
use Rattle.hsr_plan_certify.proofs.verdict.certification_of.Goals as goal

pub returns : goal.returns
returns c =
    let it = c.in_ok-certification.certification in
    certified_so (capacity_of c.args.table) c.args.within c.args.text.now c.args.meant c.in_ok-meaning.meaning it.verdict it.line.items c.in_ok-meaning.ensures
    c.in_ok-certification.ensures.found c.in_ok-certification.ensures.line
