use Rattle.std.proofs.Common.{◌≡◌, ◌≤◌, ◌∙◌, [], ap, arith, length, map, subst, sym}
use Rattle.std.proofs.lemmas.List.{length-map}
use Rattle.std.specs.Prelude.{slice_get}
use Rattle.hsr_frame_groups.specs.Frames.{AreInTime}
use Rattle.hsr_taps.specs.Came.{copies_in, strays_in, AreTalliesBy, AreLaneCounts, ArePointsOf, HaveOwnNumbers, caught_in, taps_at}
use Rattle.hsr_taps.specs.Tallies.{AreLookedAt, AreTallies, HaveRoom, taps_by}
use Rattle.hsr_taps.proofs.Coming.{copies_in_time, directions_below, few_copies, few_found, few_looked, have_room, own_numbers, places_below, sums_are, tallies_are, taps_are, ways_are}
use Rattle.hsr_taps.proofs.Naming.{few_names}
use Rattle.hsr_taps.proofs.tapping.tap.Goals as goal

pub taps_of-requires : goal.taps_of-requires
taps_of-requires c =
    subst HaveRoom (sym c.as_slice-counted.ensures.value)
    (have_room c.as_slice-looked_at.result.now c.args.packets.items c.in_ok-tallies.tallies.items c.requires.packets
    (subst (λ l. AreTallies c.as_slice-looked_at.result.now l c.in_ok-tallies.tallies.items) c.as_slice.ensures.value c.in_ok-tallies.ensures.tallies))

pub sorted_out-requires : goal.sorted_out-requires
sorted_out-requires c =
    let looked = c.as_slice-looked_at.result.now in
    let looks = subst (AreLookedAt c.args.choice.now c.args.interfaces.now) (sym c.as_slice-looked_at.ensures.value) c.in_ok-looked.ensures in
    let few = few_looked c.args.choice.now c.args.interfaces.now looked looks in
    omega (
      arith,
      ap length c.as_slice-by_interface.ensures.value,
      ap length c.in_ok-taps.ensures,
      length-map c.as_slice-counted.result.now (taps_by c.choice.inside.taps),
      ap length c.as_slice-counted.ensures.value,
      c.in_ok-tallies.ensures.long,
      few,
      c.requires.interfaces,
    )

pub lanes_of-requires : goal.lanes_of-requires
lanes_of-requires c = few_copies _ _ _ _ _ c.requires.packets c.as_slice-copies.ensures.value c.in_ok-sorted.ensures.copies

pub returns : goal.returns
returns c =
    let choice = c.args.choice.now in
    let interfaces = c.args.interfaces.now in
    let packets = c.args.packets.items in
    let looked = c.as_slice-looked_at.result.now in
    let looks = subst (AreLookedAt choice interfaces) (sym c.as_slice-looked_at.ensures.value) c.in_ok-looked.ensures in
    let few = few_looked choice interfaces looked looks in
    let tallies = c.in_ok-tallies.tallies.items in
    let tallied = subst (λ l. AreTallies looked l tallies) c.as_slice.ensures.value c.in_ok-tallies.ensures.tallies in
    let counted = c.as_slice-counted.ensures.value in
    let taps = c.in_ok-taps.taps.items in
    let taps_is = c.in_ok-taps.ensures ∙ ap (λ x. map (taps_by x.taps) c.as_slice-counted.result.now) c.choice.view_is ∙ ap (map (taps_by choice.taps)) counted in
    let few_taps : length taps ≤ 64 = omega (arith, ap length taps_is, length-map tallies (taps_by choice.taps), c.in_ok-tallies.ensures.long, few, c.requires.interfaces) in
    let copies = c.in_ok-sorted.sorted.copies.items in
    let found = c.in_ok-sorted.ensures.copies ∙ ap (λ t. copies_in looked t packets) c.as_slice-by_interface.ensures.value in
    let all : length copies ≤ length packets = omega (arith, ap length found, few_found (λ q. caught_in q (taps_at looked taps q)) packets) in
    let lane_a = c.as_slice-lane_a.result.now in
    let lane_b = c.as_slice-lane_b.result.now in
    let in_a = subst (AreLaneCounts 0 copies) (sym c.as_slice-lane_a.ensures.value) (subst (λ l. AreLaneCounts 0 l c.in_ok-in_a.in_a.items) c.as_slice-copies.ensures.value c.in_ok-in_a.ensures.counts) in
    let in_b = subst (AreLaneCounts 1 copies) (sym c.as_slice-lane_b.ensures.value) (subst (λ l. AreLaneCounts 1 l c.in_ok-in_b.in_b.items) c.as_slice-copies.ensures.value c.in_ok-in_b.ensures.counts) in
    let alike : length lane_a ≡ length lane_b
    = ap length c.as_slice-lane_a.ensures.value ∙ c.in_ok-in_a.ensures.long ∙ sym (ap length c.as_slice-lane_b.ensures.value ∙ c.in_ok-in_b.ensures.long) in
    let points = c.in_ok-named.named.points.items in
    let owners = c.in_ok-named.named.owners.items in
    let places = subst (λ l. ArePointsOf l c.in_ok-point_of.point_of.items) c.as_slice-owners.ensures.value c.in_ok-point_of.ensures.points in
    let few_points : length points ≤ 64 = omega (arith, ap length c.in_ok-named.ensures.names, few_names choice looked [] 0 interfaces, c.requires.interfaces) in (
      looked,
      record {
        looks = looks;
        long = c.in_ok-told.ensures.long;
        tallies = tallies_are looked packets tallies c.in_ok-told.told.items (c.in_ok-told.ensures.long ∙ sym c.in_ok-tallies.ensures.long) tallied
            (subst (λ l. AreTalliesBy looked l c.in_ok-told.told.items) counted c.in_ok-told.ensures.tallies);
        taps = taps_are choice.taps looked packets tallies taps taps_is tallied;
        points = c.in_ok-named.ensures.names;
        are_copies = found;
        strays = c.in_ok-sorted.ensures.strays ∙ ap (λ t. strays_in looked t packets) c.as_slice-by_interface.ensures.value;
        point_of = (owners, c.in_ok-named.ensures.owners, places);
        way_of = ways_are copies lane_a lane_b c.in_ok-way_of.way_of.items c.in_ok-way_of.ensures.long alike in_a in_b c.in_ok-way_of.ensures.ways;
        carried = sums_are copies lane_a lane_b c.in_ok-carried.carried.items c.in_ok-carried.ensures.long alike (omega (arith, all, c.requires.packets)) in_a in_b c.in_ok-carried.ensures.sums;
        time = subst AreInTime (sym found) (copies_in_time looked taps packets c.requires.time);
        few = all;
        numbers = subst HaveOwnNumbers (sym found) (own_numbers looked taps packets c.requires.numbers);
        directions = λ i x here. directions_below looked taps packets few_taps i x (ap (λ l. slice_get l i) (sym found) ∙ here);
        places = places_below choice looked interfaces points owners c.in_ok-point_of.point_of.items few_points c.in_ok-named.ensures.long c.in_ok-named.ensures.owners places;
      },
    )
