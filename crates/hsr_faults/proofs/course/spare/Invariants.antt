use Rattle.hsr_routes.specs.Routes.{bare}
use Rattle.hsr_faults.specs.Course.{AreLed}
use Rattle.hsr_faults.specs.Sets.{IsWithin}
use Rattle.hsr_faults.proofs.course.spare.Given as goal

abbrev pub invariant-loop-link : goal.invariant-loop-link
invariant-loop-link l = IsWithin l.down.words l.spare.words × AreLed (bare l.topology.places l.topology.links) l.frame l.spare.words l.led.bits
