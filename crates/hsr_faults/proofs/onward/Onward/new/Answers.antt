use Rattle.std.proofs.Common.{◌≡◌, ◌∷◌, ◌++◌, ℕ, [], arith, subst, Some}
use Rattle.std.proofs.lemmas.Grind.{common_steps}
use Rattle.hsr_network_laws.specs.Network.{Channel}
use Rattle.hsr_run_laws.specs.Run.{Run}
use Rattle.hsr_routes.specs.Numbered.{channel_at}
use Rattle.hsr_routes.specs.Routes.{bare, heading, sender_at}
use Rattle.hsr_faults.specs.Onward.{AreFollowing}
use Rattle.hsr_faults.specs.declared.channels.Channels.{Channels}
use Rattle.hsr_faults.proofs.Pushed.{each_more, length_more}
use Rattle.hsr_faults.proofs.onward.Onward.new.Goals as goal

pub loop-number-preserved : goal.loop-number-preserved
loop-number-preserved c =
    let net : Run = bare c.args.topology.now.places c.args.topology.now.links in
    let P : ℕ → Channels → Type 0 = λ n x. AreFollowing net (sender_at c.args.frame.now.sender) (heading c.args.frame.now.dst c.args.frame.now.kind) (Some (channel_at n)) x.words in
    let pushed = c.push.ensures.items in
    let before = c.loop-number.next.items in
    let more : c.push.new.self.items ≡ before ++ c.following.result ∷ [] = grind (arith, common_steps) in
    let one : P c.loop-number.number c.following.result =
    subst (λ (w : Channel). AreFollowing net (sender_at c.args.frame.now.sender) (heading c.args.frame.now.dst c.args.frame.now.kind) (Some w) c.following.result.words) c.at.ensures c.following.ensures in (
      length_more before c.push.new.self.items c.following.result c.loop-number.number more c.loop-number.invariant.0,
      each_more P before c.push.new.self.items c.following.result c.loop-number.number more c.loop-number.invariant.0 c.loop-number.invariant.1 one,
    )
