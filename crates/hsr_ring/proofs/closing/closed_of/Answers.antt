use Rattle.std.proofs.Common.{◌≡◌, ◌∙◌, map, ap}
use Rattle.hsr_finished_run.specs.Finished.{items_of}
use Rattle.hsr_world_links.specs.Views.{span_view}
use Rattle.hsr_world_links.proofs.Apart.{joined_again, whole_again}
use Rattle.hsr_ring.proofs.closing.closed_of.Goals as goal

pub join-requires-clause-whole : goal.join-requires-clause-whole
join-requires-clause-whole g c =
    let same : c.in-Err-of_records.records.rows.items ≡ c.in-Ok.parted.rows.items = ap (λ r. r.rows.items) c.in-Err-of_records.ensures.whole in
    whole_again (map span_view c.args.spans.items) _ _ (ap (map items_of) same ∙ c.in-Ok.ensures.ok.rows) c.in-Ok.ensures.ok.bares

pub returns-in-Err-of_records-clause-spans : goal.returns-in-Err-of_records-clause-spans
returns-in-Err-of_records-clause-spans g c =
    let same : c.in-Err-of_records.records.rows.items ≡ c.in-Ok.parted.rows.items = ap (λ r. r.rows.items) c.in-Err-of_records.ensures.whole in
    c.join.ensures ∙ joined_again (map span_view c.args.spans.items) _ _ (ap (map items_of) same ∙ c.in-Ok.ensures.ok.rows) c.in-Ok.ensures.ok.bares
