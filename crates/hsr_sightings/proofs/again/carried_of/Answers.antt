use Rattle.std.proofs.Common.{◌∙◌, ap, map, min, subst, sym}
use Rattle.hsr_sightings.specs.Copies.{carried_before}
use Rattle.hsr_sightings.specs.Read.{TellsEach}
use Rattle.hsr_sightings.proofs.Times.{times_are}
use Rattle.hsr_sightings.proofs.again.carried_of.Goals as goal

pub most_of-requires-clause-read : goal.most_of-requires-clause-read
most_of-requires-clause-read c = (c.args.firsts.now, c.requires)

pub most_of-requires-clause-counts : goal.most_of-requires-clause-counts
most_of-requires-clause-counts c = subst (TellsEach carried_before c.args.copies.now) (sym c.as_slice.ensures.value) c.in_ok-counts.ensures

pub returns : goal.returns
returns c = record {
  times = times_are c.args.copies.now c.in_ok-counts.counts.items c.in_ok-times.times.items c.in_ok-counts.ensures (c.in_ok-times.ensures ∙ ap (map (λ n. min n 255)) c.as_slice-2.ensures.value);
  most = c.in_ok-most.ensures.most;
  long = c.in_ok-most.ensures.long;
}
