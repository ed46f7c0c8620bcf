use Rattle.hsr_timeline.specs.Fronts.{lists_of}
use Rattle.hsr_timeline.specs.Stamps.{at_spot}
use Rattle.hsr_diagram.proofs.Showing.{arrows_there, panels_there, sends_there}
use Rattle.hsr_diagram.proofs.picturing.picture_of.Goals as goal

pub returns-clause-picture : goal.returns-clause-picture
returns-clause-picture g c = record {
  has = c.requires.has;
  forwards = c.requires.forwards;
  panels = panels_there c.args.closed.now.run c.topology.result.now c.in_ok-panels.panels.items c.topology.ensures.places c.topology.ensures.links c.in_ok-panels.ensures;
  wanted = c.args.wanted.now;
  rows = c.requires.wanted;
  few = c.requires.few;
  stamp = at_spot (lists_of c.in_ok-stamps.stamps.items);
  stamps = c.in_ok-stamps.ensures.stamps;
  arrows = arrows_there c.args.closed.now.run c.args.sends.now c.args.span c.args.wanted.now c.in_ok-hops.hops.items c.as_slice.result.now c.in_ok-stamps.stamps.items c.as_slice-2.result.now c.in_ok-arrows.arrows.items c.as_slice.ensures.value c.as_slice-2.ensures.value c.in_ok-hops.ensures c.in_ok-arrows.ensures;
  all = c.in_ok-deliveries.ensures.value;
  listed = sends_there c.args.closed.now.run c.args.sends.now c.args.span c.args.wanted.now c.in_ok-stamps.stamps.items c.as_slice-3.result.now c.in_ok-deliveries.deliveries.sends.items c.as_slice-4.result.now c.in_ok-sends.sends.items c.as_slice-3.ensures.value c.as_slice-4.ensures.value c.in_ok-sends.ensures;
}
