use Rattle.std.proofs.Common.{rules, ◌≡◌, ◌<◌, ◌∙◌, ◌∷◌, ◌++◌, ℕ, [], List, arith, length, slice_index_or, subst, sym}
use Rattle.std.proofs.lemmas.Grind.{common_steps}
use Rattle.std.proofs.lemmas.List.{get_or_default}
use Rattle.hsr_run_laws.specs.Run.{Run}
use Rattle.hsr_routes.specs.Numbered.{is_in}
use Rattle.hsr_routes.specs.Routes.{bare}
use Rattle.hsr_faults.specs.Course.{IsCourse}
use Rattle.hsr_faults.specs.CutOff.{AreCutOffBy}
use Rattle.hsr_faults.specs.Lines.{AreMissed}
use Rattle.hsr_faults.specs.declared.course.Course.{Course}
use Rattle.hsr_faults.specs.declared.groups.Group.{Group}
use Rattle.hsr_faults.specs.declared.nodes.Nodes.{Nodes}
use Rattle.hsr_faults.proofs.Pushed.{each_more, length_more}
use Rattle.hsr_faults.proofs.outage.all_missed.Goals as goal

pub missed-requires-clause-course : goal.missed-requires-clause-course
missed-requires-clause-course c =
    let net : Run = bare c.args.topology.now.places c.args.topology.now.links in
    let groups : List Group = c.args.groups.now in
    let courses : List Course = c.args.courses.now in
    let below : c.loop-i.i < length groups = search rules in
    let group_is : c.index-groups-i.result ≡ slice_index_or groups c.loop-i.i c.index-groups-i.result = search rules in
    let course_is : c.index-courses-i.result ≡ slice_index_or courses c.loop-i.i c.index-courses-i.result = search rules in
    subst (λ (g : Group). IsCourse net g c.index-courses-i.result) (sym group_is)
    (subst (λ (x : Course). IsCourse net (slice_index_or groups c.loop-i.i c.index-groups-i.result) x) (sym course_is)
    (c.requires.courses.each c.loop-i.i c.index-courses-i.result c.index-groups-i.result below))

pub loop-i-preserved : goal.loop-i-preserved
loop-i-preserved c =
    let net : Run = bare c.args.topology.now.places c.args.topology.now.links in
    let groups : List Group = c.args.groups.now in
    let group : Group = c.index-groups-i.result in
    let below : c.loop-i.i < length groups = search rules in
    let read : group ≡ slice_index_or groups c.loop-i.i group = search rules in
    let P : ℕ → Nodes → Type 0 = λ j x. (e : Group) → AreCutOffBy net (slice_index_or groups j e).frame (is_in (slice_index_or groups j e).down.words) c.args.fault x.bits in
    let pushed = c.push.ensures.items in
    let before = c.loop-i.all.items in
    let more : c.push.new.self.items ≡ before ++ c.missed.result ∷ [] = grind (arith, common_steps) in
    let one : P c.loop-i.i c.missed.result =
    λ e. subst (λ (g : Group). AreCutOffBy net g.frame (is_in g.down.words) c.args.fault c.missed.result.bits) (read ∙ sym (get_or_default groups c.loop-i.i e group below)) c.missed.ensures in
    let all = each_more P before c.push.new.self.items c.missed.result c.loop-i.i more c.loop-i.invariant.many (λ j d low e. c.loop-i.invariant.each j d e low) one in
    record {
      many = length_more before c.push.new.self.items c.missed.result c.loop-i.i more c.loop-i.invariant.many;
      each = λ j d e low. all j d low e;
    }

pub returns : goal.returns
returns c =
    let net : Run = bare c.args.topology.now.places c.args.topology.now.links in
    let end : c.loop-i.i ≡ length c.args.groups.now = search rules in
    subst (λ n. AreMissed net c.args.fault c.args.groups.now n c.loop-i.all.items) end c.loop-i.invariant
