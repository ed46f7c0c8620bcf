use Rattle.std.proofs.Common.{◌<◌, ◌∙◌, ℕ, arith, get_or, length}
use Rattle.hsr_world_links.specs.Views.{span_view}
use Rattle.hsr_world_links.proofs.Touched.{as_long, ready_more}
use Rattle.hsr_world_laws.proofs.Counts.{map_set_same}
use Rattle.hsr_world_links.proofs.giving.prepare.Goals as goal

pub returns-in_err-prepare_span-clause-view : goal.returns-in_err-prepare_span-clause-view
returns-in_err-prepare_span-clause-view c =
    map_set_same span_view c.loop-link.spans (get_or c.args.links.now c.loop-link.link-index 0) c.prepare_span.new.span _ c.prepare_span.ensures.view ∙ c.loop-link.invariant.view

pub loop-link-preserved : goal.loop-link-preserved
loop-link-preserved c =
    let l : ℕ = get_or c.args.links.now c.loop-link.link-index 0 in
    let within = c.requires.below c.loop-link.link-index 0 c.loop-link-test.true in
    let long = as_long c.loop-link.spans c.args.spans.now c.loop-link.invariant.view in
    let below : l < length c.loop-link.spans = omega (arith, within, long) in
    record {
      view = map_set_same span_view c.loop-link.spans l c.prepare_span.new.span _ c.prepare_span.ensures.view ∙ c.loop-link.invariant.view;
      ready = ready_more c.args.node c.args.links.now c.loop-link.link-index c.loop-link.spans c.prepare_span.new.span below c.loop-link.invariant.ready c.in_ok-prepare_span.ensures.ready;
    }
