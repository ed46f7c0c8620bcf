use Rattle.std.proofs.Common.{◌≡◌, ◌+◌, ◌<◌, List, ℕ, length, sym, subst, arith, rules}
use Rattle.hsr_load.specs.Sums.{IsWorstAmong, IsWorstBelow}
use Rattle.hsr_load.specs.declared.transit.Transit.{Transit}
use Rattle.hsr_load.specs.declared.window.Window.{Window}
use Rattle.hsr_load.proofs.Worst.{worst_is, worst_more}
use Rattle.hsr_load.proofs.window.worst_of_rising.Goals as goal

pub loop-transit-preserved : goal.loop-transit-preserved
loop-transit-preserved c =
    let ts : List Transit = c.args.transits.now in
    let i : ℕ = c.loop-transit.transit-index in
    let d : Transit = record { moment = 0; octets = 0 } in
    let below : i < length ts = search rules in
    subst (λ (w : Window). IsWorstAmong ts (i + 1) w) (sym c.worse-next.ensures)
    (worst_more ts c.requires i d below c.octets_from-octets.result c.octets_from-octets.ensures c.loop-transit.worst c.loop-transit.invariant)

pub returns : goal.returns
returns c =
    let ts : List Transit = c.args.transits.now in
    let all : c.loop-transit.transit-index ≡ length ts = omega arith in
    worst_is ts c.loop-transit.worst (subst (λ (n : ℕ). IsWorstBelow ts n c.loop-transit.worst) all c.loop-transit.invariant)
