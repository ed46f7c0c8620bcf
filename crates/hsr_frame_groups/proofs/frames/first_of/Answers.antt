use Rattle.std.proofs.Common.{sym, subst}
use Rattle.hsr_frame_groups.specs.Frames.{IsFirst}
use Rattle.hsr_frame_groups.proofs.Grouping.{is_chosen, is_none_told, there}
use Rattle.hsr_frame_groups.proofs.frames.first_of.Goals as goal

pub returns-in-None : goal.returns-in-None
returns-in-None c = λ puts ready.
    let here = there c.args.copies.now c.args.i c.index-copies-i.result c.requires c.index-copies-i.is in
    is_none_told c.args.copies.now c.args.table.now c.args.i c.key_of.result puts c.index-copies-i.result c.key_of.ensures ready here (c.in-None.ensures.missing puts ready.knows)

pub returns-in-Some : goal.returns-in-Some
returns-in-Some c = λ puts ready.
    let here = there c.args.copies.now c.args.i c.index-copies-i.result c.requires c.index-copies-i.is in
    subst (IsFirst c.args.copies.now c.args.i) (sym c.first_by.ensures)
    (is_chosen c.args.copies.now c.args.table.now c.args.i c.in-Some.first c.key_of.result puts c.index-copies-i.result c.key_of.ensures ready here (c.in-Some.ensures.found puts ready.knows))
