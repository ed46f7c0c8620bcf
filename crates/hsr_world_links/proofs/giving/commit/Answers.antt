use Rattle.std.proofs.Common.{◌<◌, ◌≤◌, ◌∙◌, sym, ℕ, arith, get_or, length}
use Rattle.std.proofs.lemmas.List.{length-set}
use Rattle.hsr_world_links.specs.Giving.{given_lane, receipt_of}
use Rattle.hsr_world_laws.specs.Spans.{on_lanes}
use Rattle.hsr_world_links.proofs.Touched.{map_given, each_done, each_more, given_apart, ready_rest, rising_of}
use Rattle.hsr_world_links.proofs.giving.commit.Goals as goal

pub offset_bounds-spans-link : goal.offset_bounds-spans-link
offset_bounds-spans-link c =
    let rise = rising_of c.args.here.node c.args.spans.now c.args.links.now c.requires.touching in
    let within = rise.below c.loop-link.link-index 0 c.loop-link-test.true in
    let long = c.loop-link.invariant.long in
    omega arith

pub bounds-spans-link : goal.bounds-spans-link
bounds-spans-link c =
    let rise = rising_of c.args.here.node c.args.spans.now c.args.links.now c.requires.touching in
    let within = rise.below c.loop-link.link-index 0 c.loop-link-test.true in
    let long = c.loop-link.invariant.long in
    omega (arith, within, long)

pub loop-link-preserved : goal.loop-link-preserved
loop-link-preserved c =
    let l : ℕ = get_or c.args.links.now c.loop-link.link-index 0 in
    let rise = rising_of c.args.here.node c.args.spans.now c.args.links.now c.requires.touching in
    let within = rise.below c.loop-link.link-index 0 c.loop-link-test.true in
    let long = c.loop-link.invariant.long in
    let below : l < length c.loop-link.spans = omega (arith, within, long) in
    record {
      long = length-set c.loop-link.spans l c.commit_span.new.span ∙ long;
      done =
          each_more (on_lanes (given_lane c.args.place.now (receipt_of c.args.here c.args.entry.now))) c.args.links.now c.loop-link.link-index c.loop-link.spans c.commit_span.new.span
          c.index-spans-link.result c.loop-link-test.true below c.commit_span.ensures
          ∙ c.loop-link.invariant.done;
      ready = ready_rest c.args.here.node c.args.links.now c.loop-link.link-index c.loop-link.spans c.commit_span.new.span (length c.args.spans.now) rise c.loop-link.invariant.ready;
    }

pub returns : goal.returns
returns c =
    let past : length c.args.links.now ≤ c.loop-link.link-index = omega arith in
    each_done (on_lanes (given_lane c.args.place.now (receipt_of c.args.here c.args.entry.now))) c.args.here.node c.args.links.now c.loop-link.link-index c.args.spans.now c.loop-link.spans
    (given_apart c.args.place.now (receipt_of c.args.here c.args.entry.now)) past c.requires.touching c.loop-link.invariant.done
    ∙ sym (map_given c.args.place.now (receipt_of c.args.here c.args.entry.now) c.args.spans.now)
