use Rattle.std.proofs.Common.{rules}
use Rattle.std.specs.List.{All}
use Rattle.hsr_topology.specs.Wired.{IsWired}
use Rattle.hsr_world_laws.specs.Fit.{FitsPlace}
use Rattle.hsr_plays.specs.Setup.{FitsOrder, Setup}
use Rattle.hsr_play_laws.specs.Accepted.{HasFewAddresses}
use Rattle.hsr_certify.specs.Verdict.{setup_of}
use Rattle.hsr_certify.proofs.AnyOrder.{in_any_order, is_setup}
use Rattle.hsr_certify.proofs.Meaning.{premised_of}
use Rattle.hsr_certify.proofs.Verdicts.{doubted_by, first_fault}
use Rattle.hsr_certify.proofs.certifying.certify.Goals as goal

pub returns-in-Ok-clause-certified : goal.returns-in-Ok-clause-certified
returns-in-Ok-clause-certified c =
    let s : Setup = setup_of c.args.topology.now c.args.room c.args.table c.args.orders.now c.args.within in
    let wired : IsWired s.places s.links = search rules in
    (premised_of s wired c.in-Ok.ensures.certified.0, c.in-Ok.ensures.certified.1)

pub returns-in-Ok-clause-in_any_order : goal.returns-in-Ok-clause-in_any_order
returns-in-Ok-clause-in_any_order c = λ table few.
    let s : Setup = setup_of c.args.topology.now c.args.room c.args.table c.args.orders.now c.args.within in
    let wired : IsWired s.places s.links = search rules in
    let places : All FitsPlace s.places = search rules in
    let addresses : All HasFewAddresses s.places = search rules in
    let orders : All FitsOrder s.orders = search rules in
    in_any_order
    (record {
      accepts = c.never_refused.ensures;
      once = c.never_twice.ensures;
      overruns = c.never_overruns.ensures;
      loses = c.lost_down.ensures;
      few = c.moves_are_few.ensures;
      goes_on = c.goes_on.ensures;
      ends = c.ends_certain.ensures;
      run = c.run_certifies.ensures;
    })
    s addresses (is_setup s wired places orders table few) (premised_of s wired c.in-Ok.ensures.certified.0)

pub returns-in-Err-clause-first : goal.returns-in-Err-clause-first
returns-in-Err-clause-first c =
    let s : Setup = setup_of c.args.topology.now c.args.room c.args.table c.args.orders.now c.args.within in
    let wired : IsWired s.places s.links = search rules in
    first_fault s wired c.in-Err.fault c.in-Err.ensures.first

pub returns-in-Err-clause-refused : goal.returns-in-Err-clause-refused
returns-in-Err-clause-refused c =
    let s : Setup = setup_of c.args.topology.now c.args.room c.args.table c.args.orders.now c.args.within in
    let wired : IsWired s.places s.links = search rules in
    doubted_by s wired c.in-Err.fault c.in-Err.ensures.first
