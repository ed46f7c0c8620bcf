use Rattle.std.proofs.Common.{subst, sym}
use Rattle.hsr_health.specs.Whole.{AreCaught, ring_in}
use Rattle.hsr_health.proofs.Composed.{caught_of}
use Rattle.hsr_health.proofs.gathered.gathered_of.Goals as goal

pub contents_by-requires : goal.contents_by-requires
contents_by-requires c =
    let arrived = c.in_ok-traffic.field-0 in
    let asked = c.args.asked.now in
    subst (AreCaught (ring_in arrived.traffic asked.is_whole)) (sym c.as_slice-caught.ensures.value)
    (caught_of asked.choice c.args.capture arrived.traffic arrived.copies.items asked.is_whole c.requires c.in_ok-traffic.ensures)
