use Rattle.std.proofs.Common.{ap, get_or}
use Rattle.hsr_link.specs.Link.{Link}
use Rattle.hsr_world_links.specs.Views.{cut_span, span_view}
use Rattle.hsr_world_links.proofs.Places.{on_span_seen}
use Rattle.hsr_world_links.proofs.span.cut_at.Goals as goal

pub returns : goal.returns
returns c = on_span_seen cut_span c.args.spans.now c.args.link _ c.index-spans-link.result c.requires
    (ap (λ (l : Link). record (span_view (get_or c.args.spans.now c.args.link c.index-spans-link.result)) { link = l }) (ap (λ p. p.1) c.cut-lost.ensures))
