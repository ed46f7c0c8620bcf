use Rattle.std.proofs.Common.{rules, ◌≡◌, ◌<◌, ◌∙◌, ◌∷◌, ◌++◌, ℕ, [], List, arith, length, slice_index_or, subst, sym}
use Rattle.std.proofs.lemmas.Grind.{common_steps}
use Rattle.std.proofs.lemmas.List.{get_or_default}
use Rattle.hsr_run_laws.specs.Run.{Run}
use Rattle.hsr_routes.specs.Routes.{bare}
use Rattle.hsr_faults.specs.Course.{IsCourse}
use Rattle.hsr_faults.specs.declared.course.Course.{Course}
use Rattle.hsr_faults.specs.declared.groups.Group.{Group}
use Rattle.hsr_faults.proofs.Pushed.{each_more, length_more}
use Rattle.hsr_faults.proofs.course.courses.Goals as goal

pub loop-i-preserved : goal.loop-i-preserved
loop-i-preserved c =
    let net : Run = bare c.args.topology.now.places c.args.topology.now.links in
    let groups : List Group = c.args.groups.now in
    let group : Group = c.index-groups-i.result in
    let below : c.loop-i.i < length groups = search rules in
    let read : group ≡ slice_index_or groups c.loop-i.i group = search rules in
    let P : ℕ → Course → Type 0 = λ j x. (e : Group) → IsCourse net (slice_index_or groups j e) x in
    let pushed = c.push.ensures.items in
    let before = c.loop-i.courses.items in
    let more : c.push.new.self.items ≡ before ++ c.in_ok-course.course ∷ [] = grind (arith, common_steps) in
    let one : P c.loop-i.i c.in_ok-course.course =
    λ e. subst (λ (g : Group). IsCourse net g c.in_ok-course.course) (read ∙ sym (get_or_default groups c.loop-i.i e group below)) c.in_ok-course.ensures in
    let all = each_more P before c.push.new.self.items c.in_ok-course.course c.loop-i.i more c.loop-i.invariant.many (λ j d low e. c.loop-i.invariant.each j d e low) one in
    record {
      many = length_more before c.push.new.self.items c.in_ok-course.course c.loop-i.i more c.loop-i.invariant.many;
      each = λ j d e low. all j d low e;
    }
