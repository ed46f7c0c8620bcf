use Rattle.std.proofs.Common.{◌<◌, ◌∙◌, arith, get_or, length, subst, sym, true}
use Rattle.hsr_node.specs.declared.entry.Entry.{Entry}
use Rattle.hsr_transcript.specs.Replay.{Again}
use Rattle.hsr_transcript.proofs.Moved.{front_next, left_next, same_there}
use Rattle.hsr_transcript.proofs.replay.replay.Goals as goal

pub loop-i-preserved : goal.loop-i-preserved
loop-i-preserved g c =
    let i = c.loop-i.i in
    let entry = c.index-entries-i.result in
    let within : i < length c.loop-i.entries = omega arith in
    let first : i < length c.args.entries.now = omega arith in
    let there = sym (same_there c.loop-i.entries c.args.entries.now i entry within first c.loop-i.invariant.left) ∙ sym c.index-entries-i.is in
    let again = subst (λ (e : Entry). Again g.row.C c.loop-i.kept c.again.new.kept e true) (sym c.index-entries-i.is)
    (subst (Again g.row.C c.loop-i.kept c.again.new.kept (get_or c.loop-i.entries i entry)) c.in-Ok-true.field-0-test c.in-Ok-true.ensures) in
    record {
      replayed = front_next g.row.C c.args.node c.args.place c.args.entries.now c.loop-i.kept c.again.new.kept i entry c.loop-i.invariant.replayed first there again;
      left = left_next c.loop-i.entries c.args.entries.now i entry c.again.new.entry within first c.loop-i.invariant.left;
    }
