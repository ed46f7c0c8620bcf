use Rattle.std.proofs.Common.{rules, ◌≡◌, ◌*◌, length}
use Rattle.hsr_routes.specs.Routes.{bare, heading, sender_at}
use Rattle.hsr_run_laws.specs.Run.{Run}
use Rattle.hsr_faults.proofs.Going.{following_all, following_more}
use Rattle.hsr_faults.proofs.onward.following.Goals as goal

pub loop-number-preserved : goal.loop-number-preserved
loop-number-preserved c =
    let net : Run = bare c.args.topology.now.places c.args.topology.now.links in
    following_more net (sender_at c.args.frame.now.sender) (heading c.args.frame.now.dst c.args.frame.now.kind) c.args.from.now c.loop-number.number c.at.result c.follows.result
    c.loop-number.set.words c.put.new.self.words c.at.ensures c.follows.ensures c.put.ensures c.loop-number.invariant

pub returns : goal.returns
returns c =
    let net : Run = bare c.args.topology.now.places c.args.topology.now.links in
    let end : c.loop-number.number ≡ 2 * length net.links = search rules in
    following_all net (sender_at c.args.frame.now.sender) (heading c.args.frame.now.dst c.args.frame.now.kind) c.args.from.now c.loop-number.number c.loop-number.set.words end c.loop-number.invariant
