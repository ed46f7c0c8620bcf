use Rattle.std.proofs.Common.{rules, ◌≡◌, List, Ok, map, sym, ap, ◌∙◌}
use Rattle.hsr_node.specs.declared.entry.Entry.{Entry}
use Rattle.hsr_world_laws.specs.Spans.{Span}
use Rattle.hsr_world_links.specs.Giving.{given_span, receipt_of}
use Rattle.hsr_ring.specs.Views.{world_of}
use Rattle.hsr_ring.proofs.Entered.{entered_ok, same_place}
use Rattle.hsr_world_links.proofs.Touched.{rising_of}
use Rattle.hsr_ring.proofs.entering.enter.Goals as goal

pub entry_at-requires : goal.entry_at-requires
entry_at-requires g c =
    let x : Entry = record { worker = c.args.worker; at = c.args.at; event = c.args.event; outcome = c.in-Ok.answer.outcome } in
    (search rules, (c.in-Ok.ensures.there c.index-nodes-node.result x).0)

pub returns-clause-ok : goal.returns-clause-ok
returns-clause-ok g c = λ plan.
    let x : Entry = record { worker = c.args.worker; at = c.args.at; event = c.args.event; outcome = c.in-Ok.answer.outcome } in
    let is : c.entry_at.result.now ≡ x = c.entry_at.ensures ∙ (c.in-Ok.ensures.there c.index-nodes-node.result c.entry_at.result.now).1 in
    entered_ok g.row.C c.args.worker c.args.node c.args.at c.args.event c.args.nodes.now c.step_at.new.nodes (receipt_of (record { node = c.args.node; place = c.in-Ok.answer.place }) x)
    c.place.result.now _ c.prepare.new.spans c.in-Ok.ensures.ok
    (c.place.ensures ∙ same_place c.args.nodes.now c.step_at.new.nodes c.args.node c.index-nodes-node.result c.requires.below c.in-Ok.ensures.ok.places)
    c.prepare.ensures.view plan
    ∙ ap (λ (spans : List Span). Ok (world_of c.args.at c.step_at.new.nodes spans plan))
    (ap (λ (y : Entry). map (given_span c.place.result.now (receipt_of (record { node = c.args.node; place = c.in-Ok.answer.place }) y)) c.prepare.new.spans) (sym is) ∙ sym c.commit.ensures)

pub prepare-requires : goal.prepare-requires
prepare-requires g c = rising_of c.args.node c.args.spans.now c.args.links.now c.requires.touching
