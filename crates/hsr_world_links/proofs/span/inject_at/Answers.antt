use Rattle.std.proofs.Common.{ap, ◌∙◌, get_or, List, ℕ}
use Rattle.hsr_link.specs.Link.{Link}
use Rattle.hsr_world_links.specs.Views.{inject_span, span_view}
use Rattle.hsr_world_links.proofs.Places.{on_span_seen}
use Rattle.hsr_world_links.proofs.span.inject_at.Goals as goal

pub returns-in-Ok-inject-clause-ok : goal.returns-in-Ok-inject-clause-ok
returns-in-Ok-inject-clause-ok c = on_span_seen (inject_span c.args.dir c.args.octets.now) c.args.spans.now c.args.link _ c.index-spans-link.result c.requires
    (let span = get_or c.args.spans.now c.args.link c.index-spans-link.result in
    ap (λ (l : Link). record (span_view span) { link = l }) (ap (λ p. p.1) c.in-Ok-inject.ensures.ok)
    ∙ ap (λ (o : List ℕ). inject_span c.args.dir o (span_view span)) c.in-Ok.ensures.cases)
