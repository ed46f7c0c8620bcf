use Rattle.std.proofs.Common.{rules, ◌≡◌, ◌∙◌, ◌&&◌, not, Some, sym, ap}
use Rattle.hsr_run_laws.specs.Run.{Run}
use Rattle.hsr_node.specs.declared.sending.Sending.{Sending}
use Rattle.hsr_tables.specs.Proxies.{is_known}
use Rattle.hsr_audit.specs.Missed.{is_box_of, sending_at}
use Rattle.hsr_audit.proofs.Missing.{unknown_none, unknown_some}
use Rattle.hsr_audit.proofs.missed.is_unknown.Goals as goal

pub returns-in_default : goal.returns-in_default
returns-in_default g c =
    let run : Run = c.args.closed.now.run in
    unknown_none run c.args.node (is_known c.args.at c.args.stations.now.heard) c.args.send (sym c.sending_of.ensures ∙ c.in_default.is)

pub returns-then-not-knows : goal.returns-then-not-knows
returns-then-not-knows g c =
    let run : Run = c.args.closed.now.run in
    let s : Sending = record { frame = c.sending.inside.frame; seq = c.sending.inside.seq } in
    let some : sending_at run c.args.send ≡ Some s = sym c.in-Some.ensures ∙ ap (λ (t : Sending). Some t) (sym c.sending.view_is) in
    let is : c.is_box_of.result ≡ is_box_of run.places run.links c.args.send.node s.frame c.args.node = search rules in
    unknown_some run c.args.node (is_known c.args.at c.args.stations.now.heard) c.args.send s c.requires.node some c.knows.result (search rules) c.is_box_of.result
    (is ∙ sym (ap (λ z. not z && is_box_of run.places run.links c.args.send.node s.frame c.args.node) c.if-not-knows.true))

pub returns-else-not-knows : goal.returns-else-not-knows
returns-else-not-knows g c =
    let run : Run = c.args.closed.now.run in
    let s : Sending = record { frame = c.sending.inside.frame; seq = c.sending.inside.seq } in
    let some : sending_at run c.args.send ≡ Some s = sym c.in-Some.ensures ∙ ap (λ (t : Sending). Some t) (sym c.sending.view_is) in
    unknown_some run c.args.node (is_known c.args.at c.args.stations.now.heard) c.args.send s c.requires.node some c.knows.result (search rules) (not c.knows.result)
    (ap not c.if-not-knows.false ∙ sym (ap (λ z. not z && is_box_of run.places run.links c.args.send.node s.frame c.args.node) c.if-not-knows.false))
