use Rattle.std.proofs.Common.{◌∙◌, sym, subst}
use Rattle.hsr_link.specs.declared.row.Dir.{Dir}
use Rattle.hsr_link.specs.declared.row.Dir.TheVariants.{Forth, Back}
use Rattle.hsr_timeline.specs.Sides.{IsSide}
use Rattle.hsr_timeline.proofs.Sided.{hop_is, judged_long, passed_long}
use Rattle.hsr_timeline.proofs.hopping.hop_of.Goals as goal

pub hop-requires-clause-passed : goal.hop-requires-clause-passed
hop-requires-clause-passed g c = passed_long c.args.closed.now.run c.args.link Forth c.args.forth.now c.args.number c.requires.forth c.requires.below

pub hop-requires-clause-judged : goal.hop-requires-clause-judged
hop-requires-clause-judged g c = judged_long c.args.closed.now.run c.args.link Forth c.args.forth.now c.args.number c.requires.forth c.requires.below

pub hop-requires-in-Back-clause-passed : goal.hop-requires-in-Back-clause-passed
hop-requires-in-Back-clause-passed g c = passed_long c.args.closed.now.run c.args.link Back c.args.back.now c.args.number c.requires.back c.requires.below

pub hop-requires-in-Back-clause-judged : goal.hop-requires-in-Back-clause-judged
hop-requires-in-Back-clause-judged g c = judged_long c.args.closed.now.run c.args.link Back c.args.back.now c.args.number c.requires.back c.requires.below

pub returns-in-Forth : goal.returns-in-Forth
returns-in-Forth g c =
    let P : Dir → Type 0 = λ dir. IsSide c.args.closed.now.run c.args.link dir c.args.forth.now in
    c.hop.ensures ∙ hop_is c.args.closed.now.run c.args.link c.args.forth.now c.args.number c.args.row.now (subst P (sym c.in-Forth.is) c.requires.forth) c.requires.below

pub returns-in-Back : goal.returns-in-Back
returns-in-Back g c =
    let P : Dir → Type 0 = λ dir. IsSide c.args.closed.now.run c.args.link dir c.args.back.now in
    c.hop-in-Back.ensures ∙ hop_is c.args.closed.now.run c.args.link c.args.back.now c.args.number c.args.row.now (subst P (sym c.in-Back.is) c.requires.back) c.requires.below
