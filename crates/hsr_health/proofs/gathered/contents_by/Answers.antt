use Rattle.std.proofs.Common.{subst, sym}
use Rattle.hsr_health.specs.Whole.{AreCaught, AreContents}
use Rattle.hsr_health.proofs.Composed.{ring_is}
use Rattle.hsr_sightings.specs.Ring.{Ring}
use Rattle.hsr_health.proofs.gathered.contents_by.Goals as goal

pub contents_of-requires : goal.contents_of-requires
contents_of-requires c =
    let ring = ring_is c.args.traffic.now c.args.is_whole c.as_slice-points.result.now c.as_slice-ways.result.now c.as_slice-points.ensures.value c.as_slice-ways.ensures.value in
    subst (λ (r : Ring). AreCaught r c.args.copies.now) (sym ring) c.requires

pub returns : goal.returns
returns c =
    let traffic = c.args.traffic.now in
    let ring = ring_is traffic c.args.is_whole c.as_slice-points.result.now c.as_slice-ways.result.now c.as_slice-points.ensures.value c.as_slice-ways.ensures.value in
    let raw : Ring = record {
      start = traffic.outline.start;
      end = traffic.outline.end;
      is_whole = c.args.is_whole;
      points = c.as_slice-points.result.now;
      ways = c.as_slice-ways.result.now;
    } in
    subst (λ (r : Ring). AreContents r c.args.copies.now traffic.tapped.taps.items c.in_ok-contents.contents) ring
    (subst (λ t. AreContents raw c.args.copies.now t c.in_ok-contents.contents) c.as_slice-taps.ensures.value c.in_ok-contents.ensures)
