use Rattle.std.proofs.Common.{rules, ◌≡◌, ◌<◌, ◌∙◌, ◌∷◌, ◌++◌, [], ℕ, List, ap, arith, length, slice_index_or, subst, sym}
use Rattle.std.proofs.lemmas.Grind.{common_steps}
use Rattle.std.proofs.lemmas.List.{get_or_default}
use Rattle.hsr_plays.specs.declared.span.SendSpan.{SendSpan}
use Rattle.hsr_send_spans.specs.Down.{AreCutAt}
use Rattle.hsr_faults.specs.Groups.{IsGroupOf, heading_of}
use Rattle.hsr_faults.specs.declared.groups.Group.{Group}
use Rattle.hsr_faults.proofs.Grouped.{grouped_more}
use Rattle.hsr_faults.proofs.groups.groups_of.Goals as goal

pub loop-i-preserved : goal.loop-i-preserved
loop-i-preserved c =
    let spans : List SendSpan = c.args.spans.now in
    let span : SendSpan = c.index-spans-i.result in
    let below : c.loop-i.i < length spans = search rules in
    let read : span ≡ slice_index_or spans c.loop-i.i span = search rules in
    let group : Group = record { frame = heading_of span; down = c.down.result } in
    let one : IsGroupOf c.args.orders.now span group = record { frame = Rattle.std.proofs.Common.refl; down = c.down.ensures } in
    let pushed = c.push.ensures.items in
    let before = c.loop-i.of.items in
    let more : c.push.new.self.items ≡ before ++ c.in_ok-index.index ∷ [] = grind (arith, common_steps) in (
      grouped_more c.args.orders.now spans c.loop-i.i span group c.loop-i.groups.items c.place.new.groups.items before c.push.new.self.items c.in_ok-index.index
          (λ s. get_or_default spans c.loop-i.i s span below ∙ sym read) one c.in_ok-index.ensures more c.loop-i.invariant.0,
      subst (λ (time : ℕ). AreCutAt c.args.orders.now time c.at-cuts.result.links) (sym c.at-cuts.ensures.time) c.at-cuts.ensures.links,
    )
