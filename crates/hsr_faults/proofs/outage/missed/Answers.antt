use Rattle.std.proofs.Common.{rules, ◌≡◌, true, false}
use Rattle.hsr_run_laws.specs.Run.{Run}
use Rattle.hsr_routes.specs.Numbered.{is_in}
use Rattle.hsr_routes.specs.Routes.{bare}
use Rattle.hsr_faults.specs.Fault.{is_node_off}
use Rattle.hsr_faults.specs.declared.groups.Group.{Group}
use Rattle.hsr_faults.proofs.Sparing.{cut_off, none_cut}
use Rattle.hsr_faults.proofs.outage.missed.Goals as goal

pub returns-then-is_node_off : goal.returns-then-is_node_off
returns-then-is_node_off c =
    let net : Run = bare c.args.topology.now.places c.args.topology.now.links in
    let group : Group = c.args.group.now in
    let off : is_node_off c.args.fault group.frame.sender ≡ true = search rules in
    none_cut net group.frame (is_in group.down.words) c.args.fault c.new.result.bits off c.new.ensures

pub returns : goal.returns
returns c =
    let net : Run = bare c.args.topology.now.places c.args.topology.now.links in
    let group : Group = c.args.group.now in
    let sender_on : is_node_off c.args.fault group.frame.sender ≡ false = search rules in
    cut_off net group.frame group.down.words c.args.shut.now.channels.words c.args.fault c.args.course.now.due.bits c.led-led.result.bits c.args.shut.now.nodes.bits c.without.result.bits c.without-2.result.bits
    sender_on c.requires.channels c.requires.nodes c.requires.course.due c.led-led.ensures c.without.ensures c.without-2.ensures
