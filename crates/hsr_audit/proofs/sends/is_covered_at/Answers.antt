use Rattle.std.proofs.Common.{rules, ◌≡◌, ◌∙◌, ℕ, Some, refl, sym}
use Rattle.hsr_node.specs.Flow.{send_at}
use Rattle.hsr_node.specs.declared.sending.Sending.{Sending}
use Rattle.hsr_run_laws.specs.Run.{Run, past_of, place_of}
use Rattle.hsr_audit.specs.Sends.{is_promised}
use Rattle.hsr_audit.proofs.Sending.{covered_none, covered_so, so_covered}
use Rattle.hsr_audit.proofs.sends.is_covered_at.Goals as goal

pub returns-in-Some : goal.returns-in-Some
returns-in-Some g c =
    let run : Run = c.args.closed.now.run in
    let k : ℕ = c.args.node in
    let i : ℕ = c.args.place in
    let s : Sending = c.in-Some.sending in
    let some : send_at (place_of run k) i (past_of run k) ≡ Some s = sym c.in-Some.ensures in
    let covered : c.is_promised.result ≡ is_promised run k s.frame = search rules in
    (λ is. covered_so run k i s some (sym covered ∙ is), λ all. covered ∙ so_covered run k i s c.requires.node some all)

pub returns-in-None : goal.returns-in-None
returns-in-None g c =
    let run : Run = c.args.closed.now.run in
    (λ is. covered_none run c.args.node c.args.place (sym c.in-None.ensures), λ all. refl)
