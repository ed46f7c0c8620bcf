use Rattle.std.proofs.Common.{arith, length, subst}
use Rattle.hsr_health.specs.Counted.{AreCounted, AreSkewed}
use Rattle.hsr_health.proofs.Composing.{all_of_sources, none_counted, still_no_fates}
use Rattle.hsr_health.proofs.counts.counts_of.Goals as goal

pub returns-clause-counts : goal.returns-clause-counts
returns-clause-counts c = λ is_by_lane macs numbers told sources are.
    let ring = c.args.ring.now in
    let copies = c.args.copies.now in
    let marked = c.count_copies.new.counts.items in
    let fated = c.count_fates.new.counts.items in
    let skews = c.in_ok-skews.skews.items in
    let all = c.in_ok-all.all.items in
    let counted : AreCounted is_by_lane ring copies macs (length copies) marked
    = c.count_copies.ensures.counts is_by_lane ring macs told sources (none_counted is_by_lane ring copies macs c.in_ok-counts.counts.items c.in_ok-counts.ensures.none) in
    let skewed : AreSkewed fated skews all
    = subst (λ l. AreSkewed l skews all) c.as_slice.ensures.value (subst (λ l. AreSkewed c.as_slice.result.now l all) c.as_slice-2.ensures.value c.in_ok-all.ensures.all) in
    all_of_sources ring is_by_lane copies macs c.args.of_copy.now numbers c.args.sightings.now marked fated all skews (omega arith) sources are counted
    (c.count_fates.ensures.counts macs numbers sources are (still_no_fates is_by_lane ring copies macs (length copies) marked counted)) c.count_fates.ensures.long c.in_ok-skews.ensures.spreads skewed
