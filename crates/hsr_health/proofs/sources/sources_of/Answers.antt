use Rattle.std.proofs.Common.{length, subst}
use Rattle.std.specs.Prelude.{IfSome}
use Rattle.hsr_health.specs.Sources.{AreIndexes, AreMacs}
use Rattle.hsr_health.proofs.Addressing.{sources_are}
use Rattle.hsr_health.proofs.sources.sources_of.Goals as goal

pub returns-clause-some : goal.returns-clause-some
returns-clause-some c =
    let copies = c.args.copies.now in
    let are : AreMacs copies (length copies) c.in-Some.macs.items = subst (λ o. IfSome o (λ macs. AreMacs copies (length copies) macs.items)) c.in-Some.is c.in_ok-macs.ensures.some in
    sources_are copies c.in-Some.macs.items c.in_ok-of_copy.of_copy.items are (subst (λ l. AreIndexes copies l c.in_ok-of_copy.of_copy.items) c.as_slice.ensures.value c.in_ok-of_copy.ensures)
