use Rattle.std.proofs.Common.{rules, ◌≡◌, ◌<◌, true, false, length, slice_index_or}
use borrow.Author.Count.{below_more}
use Rattle.hsr_node.specs.declared.entry.Entry.{Entry}
use Rattle.hsr_run_laws.specs.Run.{Run, record_of}
use Rattle.hsr_audit.specs.Budgeted.{IsInTimeAt}
use Rattle.hsr_audit.specs.Timed.{is_in_time}
use Rattle.hsr_audit.proofs.Timing.{in_time_at, late_at}
use Rattle.hsr_audit.proofs.late.late_in.Goals as goal

pub returns-then-not-is_in_time : goal.returns-then-not-is_in_time
returns-then-not-is_in_time g c =
    let run : Run = c.args.closed.now.run in
    let x : Entry = c.x-item.result in
    let below : c.loop-place.place < length (record_of run c.args.node) = search rules in
    let x_is : x ≡ slice_index_or (record_of run c.args.node) c.loop-place.place x = search rules in
    let not : is_in_time c.args.moments.now c.at-at.result x.event ≡ false = search rules in
    record {
      below = below;
      late = late_at run c.args.moments.now c.args.node c.loop-place.place c.at-at.result x c.requires.moments below c.at-at.ensures x_is not;
      before = c.loop-place.invariant;
    }

pub loop-place-preserved : goal.loop-place-preserved
loop-place-preserved g c =
    let run : Run = c.args.closed.now.run in
    let x : Entry = c.x-item.result in
    let below : c.loop-place.place < length (record_of run c.args.node) = search rules in
    let x_is : x ≡ slice_index_or (record_of run c.args.node) c.loop-place.place x = search rules in
    let timely : is_in_time c.args.moments.now c.at-at.result x.event ≡ true = search rules in
    below_more (IsInTimeAt run c.args.node) c.loop-place.place c.loop-place.invariant
    (in_time_at run c.args.moments.now c.args.node c.loop-place.place c.at-at.result x c.requires.moments below c.at-at.ensures x_is timely)
