use Rattle.std.proofs.Common.{◌≡◌, ◌∙◌, length, refl, subst, sym}
use Rattle.std.specs.Prelude.{IfSome}
use Rattle.hsr_health.specs.Whole.{AreCaught, AreContents, AreFindings, IsSettled, ring_in}
use Rattle.hsr_health.proofs.Composed.{caught_of, findings_same, interfaces_of, ring_is}
use Rattle.hsr_sightings.specs.Ring.{Ring}
use Rattle.hsr_health.proofs.health.told_of.Goals as goal

pub findings_of-requires-clause-caught : goal.findings_of-requires-clause-caught
findings_of-requires-clause-caught c =
    let traffic = c.args.traffic.now in
    let asked = c.args.asked.now in
    let ring = ring_is traffic asked.is_whole c.as_slice-points.result.now c.as_slice-ways.result.now c.as_slice-points.ensures.value c.as_slice-ways.ensures.value in
    subst (λ (r : Ring). AreCaught r c.args.copies.now) (sym ring) (caught_of asked.choice c.requires.came.0 traffic c.args.copies.now asked.is_whole c.requires.came.1 c.requires.came.2)

pub findings_of-requires-clause-contents : goal.findings_of-requires-clause-contents
findings_of-requires-clause-contents c =
    let traffic = c.args.traffic.now in
    let asked = c.args.asked.now in
    let ring = ring_is traffic asked.is_whole c.as_slice-points.result.now c.as_slice-ways.result.now c.as_slice-points.ensures.value c.as_slice-ways.ensures.value in
    subst (λ (r : Ring). AreContents r c.args.copies.now c.as_slice-taps.result.now c.args.contents) (sym ring)
    (subst (λ t. AreContents (ring_in traffic asked.is_whole) c.args.copies.now t c.args.contents) (sym c.as_slice-taps.ensures.value) c.requires.contents)

pub settled_of-requires-clause-interfaces : goal.settled_of-requires-clause-interfaces
settled_of-requires-clause-interfaces c = interfaces_of c.args.asked.now.choice c.requires.came.0 c.args.traffic.now c.args.copies.now c.requires.came.1 c.requires.came.2

pub returns-clause-some : goal.returns-clause-some
returns-clause-some c =
    let traffic = c.args.traffic.now in
    let copies = c.args.copies.now in
    let asked = c.args.asked.now in
    let expected = c.args.expected.now in
    let ring = ring_is traffic asked.is_whole c.as_slice-points.result.now c.as_slice-ways.result.now c.as_slice-points.ensures.value c.as_slice-ways.ensures.value in
    let raw : Ring = record {
      start = traffic.outline.start;
      end = traffic.outline.end;
      is_whole = asked.is_whole;
      points = c.as_slice-points.result.now;
      ways = c.as_slice-ways.result.now;
    } in
    let whole = ring_in traffic asked.is_whole in
    let taps = c.as_slice-taps.result.now in
    let points = length traffic.tapped.points.items in
    let many : c.len-many.result ≡ points = c.len-many.ensures ∙ traffic.tapped.points.ok.0 in
    let found = subst (λ o. IfSome o (λ f. AreFindings raw copies taps c.len-many.result f)) c.in-Some.is c.in_ok-findings.ensures.some in
    record {
      found = findings_same raw whole copies copies taps traffic.tapped.taps.items c.len-many.result points c.in-Some.findings ring refl
          c.as_slice-taps.ensures.value many found;
      settled = subst (λ (r : Ring). IsSettled r traffic.tapped.taps.items points traffic copies asked expected c.in-Some.findings c.in_ok-settled.settled) ring
          (c.in_ok-settled.ensures traffic.tapped.taps.items points
          (findings_same raw raw copies copies taps traffic.tapped.taps.items c.len-many.result points c.in-Some.findings refl refl
          c.as_slice-taps.ensures.value many found));
    }
