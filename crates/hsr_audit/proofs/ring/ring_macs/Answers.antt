use Rattle.std.proofs.Common.{rules, ◌≡◌, filter_map, ◌∙◌}
use Rattle.hsr_audit.specs.Round.{IsRound, address_of}
use Rattle.hsr_run_laws.specs.Run.{Run}
use Rattle.hsr_routes.specs.Networks.{AreGoingRound, HaveOwnAddresses}
use Rattle.hsr_audit.proofs.Premised.{addresses_are, ring_of_round, round_of_ring}
use Rattle.hsr_audit.proofs.ring.ring_macs.Goals as goal

pub returns-then-not-is_round-clause-fault : goal.returns-then-not-is_round-clause-fault
returns-then-not-is_round-clause-fault g c =
    let run : Run = c.args.closed.now.run in
    let none : IsRound run.places run.links → ⊥ = search rules in
    λ ring. none (round_of_ring run ring)

pub returns-then-not-are_going_round-clause-fault : goal.returns-then-not-are_going_round-clause-fault
returns-then-not-are_going_round-clause-fault g c =
    let run : Run = c.args.closed.now.run in
    let round : IsRound run.places run.links = search rules in
    let none : AreGoingRound run → ⊥ = search rules in
    (ring_of_round run round, none)

pub returns-then-not-have_own_addresses-clause-fault : goal.returns-then-not-have_own_addresses-clause-fault
returns-then-not-have_own_addresses-clause-fault g c =
    let run : Run = c.args.closed.now.run in
    let round : IsRound run.places run.links = search rules in
    let modes : AreGoingRound run = search rules in
    let none : HaveOwnAddresses run → ⊥ = search rules in
    (ring_of_round run round, (modes, none))

pub returns-clause-ring : goal.returns-clause-ring
returns-clause-ring g c =
    let run : Run = c.args.closed.now.run in
    let round : IsRound run.places run.links = search rules in
    let modes : AreGoingRound run = search rules in
    let own : HaveOwnAddresses run = search rules in
    let macs : c.in_ok-macs.macs.items ≡ filter_map address_of run.places = search rules in
    record { ring = ring_of_round run round; modes = modes; own = own; macs_is = macs ∙ addresses_are run.places round.danhs }
