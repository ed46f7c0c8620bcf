use Rattle.std.proofs.Common.{◌∙◌, sym, ap}
use Rattle.std.specs.Prelude.{is_some}
use Rattle.hsr_run_index.specs.Indexed.{peer_of}
use Rattle.hsr_run_index.proofs.Indexing.{peer_put}
use Rattle.hsr_run_index.proofs.ends.put_peer.Goals as goal

pub returns-in-Ok : goal.returns-in-Ok
returns-in-Ok c =
    peer_put (peer_of c.args.peers.now) (peer_of c.insert.new.self) c.args.end c.args.other (sym (c.is_some.ensures ∙ ap is_some c.peer_of.ensures) ∙ c.if-is_some.false)
    (λ e. c.in-Ok.ensures.updates.0 (e.node, e.port))
