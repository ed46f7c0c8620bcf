use Rattle.std.proofs.Common.{◌∙◌, ap, subst, sym}
use Rattle.std.specs.Prelude.{IfNone, IfSome}
use Rattle.hsr_health.specs.Counted.{mark_of}
use Rattle.hsr_health.specs.Sources.{HasManySources}
use Rattle.hsr_health.specs.Whole.{AreContents, IsTold, IsTraffic, lanes_of, ring_in}
use Rattle.hsr_health.specs.declared.health.Health.{Health}
use Rattle.hsr_health.specs.Marks.{Marked}
use Rattle.hsr_health.proofs.Flagging.{count_told}
use Rattle.hsr_taps.specs.Tallies.{is_at}
use Rattle.hsr_health.proofs.health.health_if.Goals as goal

pub told_of-requires-clause-came : goal.told_of-requires-clause-came
told_of-requires-clause-came c =
    (c.requires.0, c.requires.1, subst (IsTraffic c.args.asked.now.choice c.requires.0 c.args.gathered.traffic) (sym c.as_slice-noted.ensures.value) c.requires.2.came)

pub told_of-requires-clause-contents : goal.told_of-requires-clause-contents
told_of-requires-clause-contents c =
    let gathered = c.args.gathered in
    subst (λ l. AreContents (ring_in gathered.traffic c.args.asked.now.is_whole) l gathered.traffic.tapped.taps.items gathered.contents) (sym c.as_slice-noted.ensures.value) c.requires.2.contents

pub returns-clause-some : goal.returns-clause-some
returns-clause-some c = λ capture gathered.
    let traffic = c.args.gathered.traffic in
    let copies = c.args.gathered.copies.items in
    let asked = c.args.asked.now in
    let told = c.in-Some.told in
    let is = subst (λ l. IsTold traffic l asked c.args.expected.now told) c.as_slice-noted.ensures.value
    (subst (λ o. IfSome o (λ t. IsTold traffic c.as_slice-noted.result.now asked c.args.expected.now t)) c.in-Some.is c.in_ok-found.ensures.some) in
    let made = c.health_by-health.ensures in
    let lanes = is_at (lanes_of traffic.tapped.taps.items) in
    let ring = ring_in traffic asked.is_whole in
    record {
      traffic = traffic;
      findings = told.findings;
      settled = told.settled;
      made = made;
      copies = copies;
      came = gathered.came;
      found = is.found;
      told = is.settled;
      frames = ap (λ (h : Health). h.frames) made ∙ count_told (λ (m : Marked). m.begins) (mark_of lanes ring) copies told.findings.seen.marks.items is.found.seen.marks;
    }

pub returns-in-None-clause-none : goal.returns-in-None-clause-none
returns-in-None-clause-none c = λ capture gathered. record {
  traffic = c.args.gathered.traffic;
  copies = c.args.gathered.copies.items;
  came = gathered.came;
  many = subst HasManySources c.as_slice-noted.ensures.value (subst (λ o. IfNone o (HasManySources c.as_slice-noted.result.now)) c.in-None.is c.in_ok-found.ensures.none);
}
