use Rattle.std.proofs.Common.{◌≡◌, ◌∙◌, ℕ, Option, Some, sym, ap, subst}
use Rattle.hsr_node.specs.Flow.{send_at}
use Rattle.hsr_node.specs.declared.sending.Sending.{Sending}
use Rattle.hsr_run_laws.specs.Run.{Run, past_of, place_of}
use Rattle.hsr_audit.proofs.Reached.{cut_at, served_none}
use Rattle.hsr_audit.proofs.cutoff.Reach.cut_at.Goals as goal

pub returns-in_default-clause-cut : goal.returns-in_default-clause-cut
returns-in_default-clause-cut g c =
    let run : Run = c.args.self.now in
    let k : ℕ = c.args.node in
    let i : ℕ = c.args.place in
    let o : Option Sending = c.send_at.result in
    let is : send_at (place_of run k) i (past_of run k) ≡ o = subst (λ (r : Run). send_at (place_of r k) i (past_of r k) ≡ o) c.self.view_is (sym c.send_at.ensures) in
    served_none run k i (is ∙ c.in_default.is)

pub returns-clause-cut : goal.returns-clause-cut
returns-clause-cut g c =
    let run : Run = c.args.self.now in
    let k : ℕ = c.args.node in
    let i : ℕ = c.args.place in
    let s : Sending = record { frame = c.sending.inside.frame; seq = c.sending.inside.seq } in
    let here : send_at (place_of c.self.inside.closed.now.run k) i (past_of c.self.inside.closed.now.run k) ≡ Some s =
    sym c.in-Some.ensures ∙ ap (λ (t : Sending). Some t) (sym c.sending.view_is) in
    let some : send_at (place_of run k) i (past_of run k) ≡ Some s = subst (λ (r : Run). send_at (place_of r k) i (past_of r k) ≡ Some s) c.self.view_is here in
    cut_at run k i s c.requires.node some c.first_unserved.result c.first_unserved.ensures
