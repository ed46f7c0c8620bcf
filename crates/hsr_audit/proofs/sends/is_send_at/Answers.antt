use Rattle.std.proofs.Common.{rules, ◌≡◌, ◌∙◌, Option, sym}
use Rattle.std.specs.Prelude.{is_some}
use Rattle.hsr_node.specs.declared.sending.Sending.{Sending}
use Rattle.hsr_run_laws.specs.Run.{Run}
use Rattle.hsr_audit.proofs.Sending.{none_send, some_send}
use Rattle.hsr_audit.proofs.sends.is_send_at.Goals as goal

pub returns-clause-some : goal.returns-clause-some
returns-clause-some g c =
    let run : Run = c.args.closed.now.run in
    let o : Option Sending = c.send_at.result in
    let same : c.is_some.result ≡ is_some o = search rules in
    λ some. some_send run c.args.node c.args.place o c.requires.node (sym c.send_at.ensures) (sym same ∙ some)

pub returns-clause-none : goal.returns-clause-none
returns-clause-none g c =
    let run : Run = c.args.closed.now.run in
    let o : Option Sending = c.send_at.result in
    let same : c.is_some.result ≡ is_some o = search rules in
    λ none. none_send run c.args.node c.args.place o (sym c.send_at.ensures) (sym same ∙ none)
