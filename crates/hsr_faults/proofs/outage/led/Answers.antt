use Rattle.std.proofs.Common.{rules}
use Rattle.hsr_run_laws.specs.Run.{Run}
use Rattle.hsr_routes.specs.Routes.{bare}
use Rattle.hsr_faults.specs.Sets.{IsWithin}
use Rattle.hsr_faults.specs.declared.course.Course.{Course}
use Rattle.hsr_faults.specs.declared.groups.Group.{Group}
use Rattle.hsr_faults.proofs.Sparing.{searched_led, spare_led}
use Rattle.hsr_faults.proofs.outage.led.Goals as goal

pub returns-then-is_within : goal.returns-then-is_within
returns-then-is_within c =
    let net : Run = bare c.args.topology.now.places c.args.topology.now.links in
    let group : Group = c.args.group.now in
    let course : Course = c.args.course.now in
    let all : IsWithin c.args.off.now.words course.spare.words = search rules in
    spare_led net group.frame group.down.words c.args.off.now.words course.spare.words course.led.bits c.requires.course.within all c.requires.course.led c.requires.course.spare

pub returns-else-is_within : goal.returns-else-is_within
returns-else-is_within c =
    let net : Run = bare c.args.topology.now.places c.args.topology.now.links in
    let group : Group = c.args.group.now in
    searched_led net group.frame group.down.words c.args.off.now.words c.with.result.words c.led_to.result.bits c.with.ensures c.led_to.ensures
