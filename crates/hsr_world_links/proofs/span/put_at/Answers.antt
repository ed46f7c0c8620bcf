use Rattle.hsr_world_links.specs.Views.{span_view, put_span}
use Rattle.hsr_world_links.proofs.Places.{err_map, in_spans_err, in_spans_ok, ok_map, or_map}
use Rattle.hsr_world_laws.proofs.Counts.{map_set_same}
use Rattle.hsr_world_links.proofs.span.put_at.Goals as goal

pub returns-clause-ok : goal.returns-clause-ok
returns-clause-ok c = ok_map c.put.result (in_spans_ok (put_span c.args.dir) c.args.spans.now c.args.link c.put.new.span c.index-spans-link.result c.requires) c.put.ensures.ok

pub returns-clause-err : goal.returns-clause-err
returns-clause-err c = err_map c.put.result (λ f h. (
  map_set_same span_view c.args.spans.now c.args.link c.put.new.span c.index-spans-link.result h.0,
  or_map (in_spans_err (put_span c.args.dir) c.args.spans.now c.args.link c.index-spans-link.result f c.requires) h.1,
)) c.put.ensures.err
