use Rattle.std.proofs.Common.{◌≡◌, ◌∷◌, ◌++◌, ℕ, [], arith}
use Rattle.std.proofs.lemmas.Grind.{common_steps}
use Rattle.hsr_run_laws.specs.Run.{Run}
use Rattle.hsr_routes.specs.Routes.{bare}
use Rattle.hsr_faults.specs.Search.{AreStopping}
use Rattle.hsr_faults.specs.declared.channels.Channels.{Channels}
use Rattle.hsr_faults.proofs.Pushed.{each_more, length_more}
use Rattle.hsr_faults.proofs.search.into_nodes.Goals as goal

pub loop-node-preserved : goal.loop-node-preserved
loop-node-preserved c =
    let net : Run = bare c.args.topology.now.places c.args.topology.now.links in
    let P : ℕ → Channels → Type 0 = λ k x. AreStopping net k x.words in
    let pushed = c.push.ensures.items in
    let before = c.loop-node.into.items in
    let more : c.push.new.self.items ≡ before ++ c.stopping.result ∷ [] = grind (arith, common_steps) in (
      length_more before c.push.new.self.items c.stopping.result c.loop-node.node more c.loop-node.invariant.0,
      each_more P before c.push.new.self.items c.stopping.result c.loop-node.node more c.loop-node.invariant.0 c.loop-node.invariant.1 c.stopping.ensures,
    )
