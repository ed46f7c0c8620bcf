use Rattle.std.proofs.Common.{rules, ◌≡◌, ◌+◌, ◌<◌, ℕ, List, Some, length, inr, slice_index_or, sym, subst, take}
use Rattle.std.specs.Borrow.{Bor}
use Rattle.std.proofs.lemmas.Result.{err_from_is_err_and}
use Rattle.hsr_node.specs.declared.event.Probe.{Probe}
use Rattle.hsr_timeline.specs.Fronts.{lists_of}
use Rattle.hsr_view.specs.Viewing.{AreSends, probe_of}
use Rattle.hsr_view.proofs.Sending.{no_send, sends_more, stray_at}
use Rattle.hsr_view.proofs.viewing.probes_of.Goals as goal

pub loop-send-preserved : goal.loop-send-preserved
loop-send-preserved c =
    let names : List (List ℕ) = lists_of c.args.names.now in
    let asked : List (Bor (List ℕ) × ℕ) = c.args.sends.now in
    let i : ℕ = c.loop-send.send-index in
    let below : i < length asked = search rules in
    let means : probe_of names (slice_index_or asked i no_send) ≡ Some c.in_ok-probe.probe = c.in_ok-probe.ensures.known in
    let P : List Probe → Type 0 = λ probes. AreSends names (take (i + 1) asked) probes in
    subst P (sym c.in_ok-add.ensures) (sends_more names asked i c.loop-send.probes.items c.in_ok-probe.probe below means c.loop-send.invariant)

pub returns-in_err-probe-clause-stray : goal.returns-in_err-probe-clause-stray
returns-in_err-probe-clause-stray c =
    let names : List (List ℕ) = lists_of c.args.names.now in
    let asked : List (Bor (List ℕ) × ℕ) = c.args.sends.now in
    let i : ℕ = c.loop-send.send-index in
    let below : i < length asked = search rules in
    let stray = c.in_err-probe.ensures.stray in
    let exit = err_from_is_err_and c.from_residual.result c.from_residual.ensures.1 in
    rw (exit.1, exit.2) (inr (stray.0, stray_at names asked i below stray.1))
