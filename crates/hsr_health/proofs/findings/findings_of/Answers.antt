use Rattle.std.proofs.Common.{rules}
use Rattle.hsr_health.proofs.findings.findings_of.Goals as goal

pub devices_of-requires-clause-framed : goal.devices_of-requires-clause-framed
devices_of-requires-clause-framed c = (c.args.taps.now, (c.in_ok-framed.ensures c.args.ring.now c.args.taps.now c.requires.contents.marks))

pub seen_of-requires-clause-framed : goal.seen_of-requires-clause-framed
seen_of-requires-clause-framed c = (c.args.taps.now, (c.in_ok-framed.ensures c.args.ring.now c.args.taps.now c.requires.contents.marks))

pub known_of-requires-clause-seen : goal.known_of-requires-clause-seen
known_of-requires-clause-seen c = (c.args.taps.now, c.in_ok-seen.ensures c.args.taps.now (c.in_ok-framed.ensures c.args.ring.now c.args.taps.now c.requires.contents.marks))

pub measured_of-requires-clause-seen : goal.measured_of-requires-clause-seen
measured_of-requires-clause-seen c = (c.args.taps.now, c.in_ok-seen.ensures c.args.taps.now (c.in_ok-framed.ensures c.args.ring.now c.args.taps.now c.requires.contents.marks))

pub returns-clause-some : goal.returns-clause-some
returns-clause-some c = record {
  sources = search rules;
  few = search rules;
  seen = c.in_ok-seen.ensures c.args.taps.now (c.in_ok-framed.ensures c.args.ring.now c.args.taps.now c.requires.contents.marks);
  known = c.in_ok-known.ensures;
  measured = c.in_ok-measured.ensures;
}
