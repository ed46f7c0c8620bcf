use Rattle.hsr_routes.specs.Routes.{bare}
use Rattle.hsr_faults.specs.Course.{AreCourses}
use Rattle.hsr_faults.proofs.course.courses.Given as goal

abbrev pub invariant-loop-i : goal.invariant-loop-i
invariant-loop-i l = AreCourses (bare l.topology.places l.topology.links) l.groups l.i l.courses.items
