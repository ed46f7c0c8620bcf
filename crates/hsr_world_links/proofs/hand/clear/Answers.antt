use Rattle.std.proofs.Common.{◌<◌, ◌≤◌, ◌∙◌, ℕ, arith, get_or, length}
use Rattle.std.proofs.lemmas.List.{length-set}
use Rattle.hsr_world_laws.specs.Spans.{emptied, on_lanes}
use Rattle.hsr_world_links.proofs.Touched.{each_done, each_more, emptied_apart, rising_of}
use Rattle.hsr_world_links.proofs.hand.clear.Goals as goal

pub offset_bounds-spans-link : goal.offset_bounds-spans-link
offset_bounds-spans-link c =
    let rise = rising_of c.args.end.node c.args.spans.now c.args.links.now c.requires in
    let within = rise.below c.loop-link.link-index 0 c.loop-link-test.true in
    let long = c.loop-link.invariant.long in
    omega arith

pub bounds-spans-link : goal.bounds-spans-link
bounds-spans-link c =
    let rise = rising_of c.args.end.node c.args.spans.now c.args.links.now c.requires in
    let within = rise.below c.loop-link.link-index 0 c.loop-link-test.true in
    let long = c.loop-link.invariant.long in
    omega (arith, within, long)

pub loop-link-preserved : goal.loop-link-preserved
loop-link-preserved c =
    let l : ℕ = get_or c.args.links.now c.loop-link.link-index 0 in
    let rise = rising_of c.args.end.node c.args.spans.now c.args.links.now c.requires in
    let within = rise.below c.loop-link.link-index 0 c.loop-link-test.true in
    let long = c.loop-link.invariant.long in
    let below : l < length c.loop-link.spans = omega (arith, within, long) in
    record {
      long = length-set c.loop-link.spans l c.clear_span.new.span ∙ long;
      done =
          each_more (on_lanes (emptied c.args.end)) c.args.links.now c.loop-link.link-index c.loop-link.spans c.clear_span.new.span c.index-spans-link.result c.loop-link-test.true below
          c.clear_span.ensures
          ∙ c.loop-link.invariant.done;
    }

pub returns : goal.returns
returns c =
    let past : length c.args.links.now ≤ c.loop-link.link-index = omega arith in
    each_done (on_lanes (emptied c.args.end)) c.args.end.node c.args.links.now c.loop-link.link-index c.args.spans.now c.loop-link.spans (emptied_apart c.args.end) past c.requires
    c.loop-link.invariant.done
