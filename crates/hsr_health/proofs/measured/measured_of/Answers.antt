use Rattle.std.proofs.Common.{◌≡◌, ◌∙◌, ap, arith, length, map, subst, sym}
use Rattle.std.proofs.lemmas.List.FromFn.{length-map-range_with_len}
use Rattle.hsr_health.specs.Broken.{AreRuns, runs_of}
use Rattle.hsr_health.specs.Counted.{AreSources, mark_of}
use Rattle.hsr_health.specs.Told.{IsGreatest}
use Rattle.hsr_health.specs.Whole.{greatest, lanes_of}
use Rattle.hsr_health.proofs.Measuring.{both_whole, crowds_are}
use Rattle.hsr_sightings.specs.Read.{AreNeeded, AreOvertaken, AreSightings, TellsEach}
use Rattle.hsr_sightings.specs.Sightings.{sees_both_ways}
use Rattle.hsr_sightings.specs.declared.late.Crowd.{Crowd}
use Rattle.hsr_taps.specs.Tallies.{is_at}
use Rattle.hsr_health.proofs.measured.measured_of.Goals as goal

pub points_told-requires : goal.points_told-requires
points_told-requires c =
    omega (
      arith,
      ap length c.as_slice-demand.ensures.value,
      c.in_ok-needed.ensures.long,
      ap length c.as_slice-sees.ensures.value,
      ap length c.in_ok-both.ensures,
      length-map-range_with_len (sees_both_ways c.args.ring.now c.args.copies.now) 0 c.args.many,
    )

pub returns : goal.returns
returns c =
    let ring = c.args.ring.now in
    let copies = c.args.copies.now in
    let many = c.args.many in
    let seen = c.requires.seen.1 in
    let taps = c.requires.seen.0 in
    let numbers = c.args.seen.now.sightings.of_copy.items in
    let sees = c.as_slice-sees.result.now in
    let sightings = subst (λ l. AreSightings ring copies l numbers) (sym c.as_slice-all.ensures.value) seen.sightings in
    let both = both_whole (sees_both_ways ring copies) many c.in_ok-both.both.items sees c.as_slice-sees.ensures.value c.in_ok-both.ensures in
    let long : length sees ≡ many = ap length c.as_slice-sees.ensures.value ∙ ap length c.in_ok-both.ensures ∙ length-map-range_with_len (sees_both_ways ring copies) 0 many in
    let sources = subst (λ l. AreSources copies l c.as_slice-of_copy.result.now) (sym c.as_slice-macs.ensures.value)
    (subst (AreSources copies c.args.sources.now.macs.items) (sym c.as_slice-of_copy.ensures.value) c.requires.sources) in
    record {
      both = c.in_ok-both.ensures;
      long = c.in_ok-needed.ensures.long;
      needed = c.in_ok-needed.ensures.needed;
      crowd = c.greatest_crowd.ensures.frames ∙ ap (λ l. greatest (map (λ (x : Crowd). x.frames) l)) c.as_slice.ensures.value
          ∙ ap greatest (crowds_are ring copies many c.in_ok-crowds.crowds.items c.in_ok-crowds.ensures.long c.in_ok-crowds.ensures.crowds);
      greatest_crowd = record {
        crowds = c.in_ok-crowds.crowds.items;
        long = c.in_ok-crowds.ensures.long;
        are = c.in_ok-crowds.ensures.crowds;
        greatest = subst (λ l. IsGreatest l c.greatest_crowd.result) c.as_slice.ensures.value c.greatest_crowd.ensures.greatest;
      };
      points = c.in_ok-points.ensures.points ring copies numbers sightings both (subst (AreNeeded ring copies) (sym c.as_slice-demand.ensures.value) c.in_ok-needed.ensures.needed);
      directions = c.in_ok-directions.ensures.directions (is_at (lanes_of taps)) numbers
          (subst (TellsEach (mark_of (is_at (lanes_of taps)) ring) copies) (sym c.as_slice-marks.ensures.value) seen.marks) sightings (subst (AreOvertaken copies) (sym c.as_slice-passed.ensures.value) seen.overtaken);
      spans = subst (λ n. AreRuns ring c.args.sources.now.macs.items (runs_of ring copies n) c.in_ok-spans.spans.items) long
          (subst (λ l. AreRuns ring l (runs_of ring copies (length sees)) c.in_ok-spans.spans.items) c.as_slice-macs.ensures.value (c.in_ok-spans.ensures numbers sources sightings both));
    }
