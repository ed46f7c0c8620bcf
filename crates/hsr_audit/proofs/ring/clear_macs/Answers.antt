use Rattle.std.proofs.Common.{rules, Some, None, sym, subst}
use Rattle.hsr_run_laws.specs.Premises.{OneLossyLink}
use Rattle.hsr_audit.specs.Doubts.{IsFirst, of_ring}
use Rattle.hsr_audit.specs.Round.{IsOwnRing}
use Rattle.hsr_run_laws.specs.Run.{Run}
use Rattle.hsr_network_laws.specs.Late.{NothingLate}
use Rattle.hsr_table_flaws.specs.Flaws.{IsFirstFlaw}
use Rattle.hsr_audit.proofs.Clearing.{flaw_is, own_ring}
use Rattle.hsr_audit.proofs.ring.clear_macs.Goals as goal

pub returns-in-None-clause-clear : goal.returns-in-None-clause-clear
returns-in-None-clause-clear g c =
    let run : Run = c.args.closed.now.run in
    let own : IsOwnRing run c.in_ok-macs.macs.items = search rules in
    let losses : OneLossyLink run = search rules in
    let found : IsFirstFlaw run None = search rules in
    record { ring = own; losses = losses; forgotten = found.0; mistaken = found.1 }

pub returns-in-Some-clause-fault : goal.returns-in-Some-clause-fault
returns-in-Some-clause-fault g c =
    let run : Run = c.args.closed.now.run in
    let macs = c.in_ok-macs.macs.items in
    let own : IsOwnRing run macs = search rules in
    let losses : OneLossyLink run = search rules in
    let found : IsFirstFlaw run (Some c.in-Some.flaw) = search rules in
    let finished = c.ring_macs.ensures.finished in
    let in_time : NothingLate run = (c.ring_is_crossed.ensures run macs finished.closed (own_ring run macs finished.wired own) losses).in_time in
    subst (IsFirst of_ring run) (sym c.doubt_at.ensures) (flaw_is run macs own losses in_time c.in-Some.flaw found)
