use Rattle.std.proofs.Common.{rules, ◌≡◌, ◌++◌, slice_index_or}
use Rattle.hsr_node.specs.declared.entry.Entry.{Entry}
use Rattle.hsr_node.specs.declared.event.Probe.{Probe}
use Rattle.hsr_deliveries.specs.Counted.{delivered_by}
use Rattle.hsr_deliveries.proofs.Gathering.{listed_more, put_on}
use Rattle.hsr_deliveries.proofs.delivering.list_record.Goals as goal

pub loop-i-preserved : goal.loop-i-preserved
loop-i-preserved g c =
    let d : Entry = c.index-entries-i.result in
    let here : Probe = record { node = c.args.number; place = c.loop-i.i } in
    let new : c.list_entry.new.sends.items ≡ c.loop-i.sends.items ++ delivered_by c.args.traces.now here c.args.place.now (slice_index_or c.args.entries.now c.loop-i.i d) = search rules in
    put_on c.args.sends.now.items c.loop-i.sends.items c.list_entry.new.sends.items _ _ _ new c.loop-i.invariant
    (listed_more c.args.traces.now c.args.number c.args.place.now c.args.entries.now c.loop-i.i d (search rules))
