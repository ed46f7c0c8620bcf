use Rattle.std.proofs.Common.{◌≤◌, ap, arith, length, subst, sym}
use Rattle.hsr_health.specs.Counted.{AreDirected, AreJoined}
use Rattle.hsr_health.proofs.Directing.{all_of_directions, no_overtaken, none_directed}
use Rattle.hsr_sightings.specs.Copies.{times_before}
use Rattle.hsr_sightings.specs.Read.{TellsEach}
use Rattle.hsr_health.proofs.directions.directions_of.Goals as goal

pub put_copies-requires-clause-carried : goal.put_copies-requires-clause-carried
put_copies-requires-clause-carried c = omega (arith, ap length c.as_slice.ensures.value, c.requires.carried.times.long)

pub joined-requires : goal.joined-requires
joined-requires c =
    omega (
      arith,
      ap length c.as_slice-2.ensures.value,
      c.put_all_overtaken.ensures.long,
      c.put_copies.ensures.long,
      c.in_ok-all.ensures.long,
      ap length c.as_slice-5.ensures.value,
      c.requires.carried.long,
    )

pub returns-clause-directions : goal.returns-clause-directions
returns-clause-directions c = λ is_by_lane numbers marks are over.
    let ring = c.args.ring.now in
    let copies = c.args.copies.now in
    let base = c.put_copies.new.all.items in
    let passed = c.put_all_overtaken.new.all.items in
    let way_0 = c.in_ok-way_0.way_0.items in
    let way_1 = c.in_ok-way_1.way_1.items in
    let told = c.in_ok-told.told.items in
    let most = c.args.carried.now.most.items in
    let directed : AreDirected ring copies (length copies) base
    = c.put_copies.ensures.all is_by_lane ring (subst (TellsEach times_before copies) (sym c.as_slice.ensures.value) c.requires.carried.times) marks (none_directed ring copies c.in_ok-all.all.items c.in_ok-all.ensures.none) in
    let joined : AreJoined ring way_0 way_1 most passed told
    = subst (λ l. AreJoined ring l way_1 most passed told) c.as_slice-3.ensures.value
    (subst (λ l. AreJoined ring c.as_slice-3.result.now l most passed told) c.as_slice-4.ensures.value
    (subst (λ l. AreJoined ring c.as_slice-3.result.now c.as_slice-4.result.now l passed told) c.as_slice-5.ensures.value
    (subst (λ l. AreJoined ring c.as_slice-3.result.now c.as_slice-4.result.now c.as_slice-5.result.now l told) c.as_slice-2.ensures.value c.in_ok-told.ensures.all))) in
    let room : length base ≤ length most = omega (arith, c.put_copies.ensures.long, c.in_ok-all.ensures.long, c.requires.carried.long) in
    all_of_directions ring copies c.args.sightings.now numbers c.args.overtaken.now c.args.points base passed told way_0 way_1 most (omega arith) are over directed c.put_all_overtaken.ensures.long
    (c.put_all_overtaken.ensures.all (no_overtaken ring copies (length copies) base directed)) c.in_ok-way_0.ensures.long c.in_ok-way_1.ensures.long c.in_ok-way_0.ensures.all c.in_ok-way_1.ensures.all room c.requires.carried.most
    joined
