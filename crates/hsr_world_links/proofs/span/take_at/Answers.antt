use Rattle.hsr_world_links.specs.Views.{span_view, take_span}
use Rattle.hsr_world_links.proofs.Places.{err_map, in_spans_err, in_spans_ok, ok_map}
use Rattle.hsr_world_laws.proofs.Counts.{map_set_same}
use Rattle.hsr_world_links.proofs.span.take_at.Goals as goal

pub returns-clause-ok : goal.returns-clause-ok
returns-clause-ok c = ok_map c.take.result (in_spans_ok (take_span c.args.dir) c.args.spans.now c.args.link c.take.new.span c.index-spans-link.result c.requires) c.take.ensures.ok

pub returns-clause-err : goal.returns-clause-err
returns-clause-err c = err_map c.take.result (λ f h. (
  map_set_same span_view c.args.spans.now c.args.link c.take.new.span c.index-spans-link.result h.0,
  in_spans_err (take_span c.args.dir) c.args.spans.now c.args.link c.index-spans-link.result f c.requires h.1,
)) c.take.ensures.err
