use Rattle.std.proofs.Common.{subst}
use Rattle.hsr_heard.specs.Subjects.{AreAbouts}
use Rattle.hsr_heard.proofs.Subjects.{as_they_stood, still_there}
use Rattle.hsr_heard.proofs.abouts.abouts_of.Goals as goal

pub returns : goal.returns
returns c =
    let sorted = c.in_ok-sorted.sorted.items in
    let told = c.in_ok-told.told in
    as_they_stood c.args.heard.items sorted c.args.start c.args.end told.all.items told.silences.items c.in_ok-sorted.ensures.stable
    (subst (λ l. AreAbouts l c.args.start c.args.end told.all.items told.silences.items) c.as_slice.ensures.value c.in_ok-told.ensures)
    (still_there c.args.heard.items sorted c.in_ok-sorted.ensures.same)
