use Rattle.std.proofs.Common.{List, ℕ, Option, refl, sym, ◌∙◌, subst}
use Rattle.std.specs.Prelude.{IfSome}
use Rattle.hsr_run_laws.specs.Run.{Run}
use Rattle.hsr_audit.specs.Shared.{ReachAlike}
use Rattle.hsr_audit.proofs.Alike.{alike, kept}
use Rattle.hsr_audit.proofs.cutoff.Reach.shared.Goals as goal

pub returns-in-Some-clause-reached : goal.returns-in-Some-clause-reached
returns-in-Some-clause-reached g c =
    let run : Run = c.args.self.now in
    let dst : List ℕ = c.args.frame.now.dst in
    let ethertype : ℕ = c.args.frame.now.kind in
    let P : List ℕ → Type 0 = ReachAlike run c.args.send.node dst ethertype in
    let found : P c.in-Some.nodes = subst (λ (o : Option (List ℕ)). IfSome o P) (sym c.found_of.ensures ∙ c.in-Some.is) (c.requires.found dst ethertype) in
    found c.args.send c.args.frame.now refl refl refl c.requires.whole

pub returns-clause-found : goal.returns-clause-found
returns-clause-found g c =
    let run : Run = c.args.self.now in
    let nodes : List ℕ = c.search-nodes.result in
    kept run c.args.send.node c.args.frame.now nodes c.args.found.now c.keep.new.found c.in_ok-keep.ensures
    (alike run c.args.send c.args.frame.now nodes c.requires.whole c.search-nodes.ensures) c.requires.found
