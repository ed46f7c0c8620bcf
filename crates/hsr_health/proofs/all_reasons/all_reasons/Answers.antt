use Rattle.std.proofs.Common.{◌∙◌, ap, length, subst, sym}
use Rattle.std.proofs.lemmas.List.FromFn.{length-map-range_with_len}
use Rattle.hsr_health.specs.Counted.{mark_of}
use Rattle.hsr_health.specs.Reasons.{AreOfPoints, AreOfSources, AreOfStrays, AreOfWhole}
use Rattle.hsr_health.specs.Whole.{lanes_of}
use Rattle.hsr_health.proofs.Measuring.{both_whole}
use Rattle.hsr_sightings.specs.Copies.{times_before}
use Rattle.hsr_sightings.specs.Read.{AreOvertaken, AreSightings, TellsEach}
use Rattle.hsr_sightings.specs.Sightings.{sees_both_ways}
use Rattle.hsr_taps.specs.Tallies.{is_at}
use Rattle.hsr_health.proofs.all_reasons.all_reasons.Goals as goal

pub put_point_reasons-requires : goal.put_point_reasons-requires
put_point_reasons-requires c =
    both_whole (sees_both_ways c.args.ring.now c.args.copies.now) c.requires.1 c.args.findings.now.measured.both.items c.as_slice-both.result.now c.as_slice-both.ensures.value c.requires.2.measured.both

pub returns : goal.returns
returns c = λ taps many found.
    let ring = c.args.ring.now in
    let copies = c.args.copies.now in
    let findings = c.args.findings.now in
    let beside = c.args.beside in
    let lanes = is_at (lanes_of taps) in
    let numbers = findings.seen.sightings.of_copy.items in
    let long = ap length c.as_slice-both.ensures.value ∙ ap length found.measured.both ∙ length-map-range_with_len (sees_both_ways ring copies) 0 many in
    record {
      of_copies = c.in_ok-reasons.reasons.items;
      of_whole = c.put_whole_reasons.new.reasons.items;
      of_sources = c.put_source_reasons.new.reasons.items;
      of_points = c.put_point_reasons.new.reasons.items;
      crowded = c.crowded_reason-crowded.result;
      of_copies_told = c.in_ok-reasons.ensures ring lanes (subst (TellsEach times_before copies) (sym c.as_slice.ensures.value) found.seen.carried.times)
          (subst (TellsEach (mark_of lanes ring) copies) (sym c.as_slice-2.ensures.value) found.seen.marks) found.seen.sightings (subst (AreOvertaken copies) (sym c.as_slice-3.ensures.value) found.seen.overtaken);
      of_whole_told = subst (λ l. AreOfWhole copies l beside.losses.now beside.is_asked.now beside.absent.now c.in_ok-reasons.reasons.items c.put_whole_reasons.new.reasons.items) c.as_slice-counts.ensures.value
          c.in_ok-put_whole_reasons.ensures;
      of_sources_told = subst (λ l. AreOfSources ring copies l findings.known.groups.items findings.known.counts.items findings.known.ledger.gaps.items findings.known.lives.gaps.items
          findings.known.ledger.restarts.items findings.known.abouts.all.items findings.known.abouts.silences.items c.put_whole_reasons.new.reasons.items c.put_source_reasons.new.reasons.items)
          c.as_slice-macs.ensures.value c.in_ok-put_source_reasons.ensures;
      of_points_told = subst (λ n. AreOfPoints ring copies n c.put_source_reasons.new.reasons.items c.put_point_reasons.new.reasons.items) long
          (c.in_ok-put_point_reasons.ensures numbers (subst (λ l. AreSightings ring copies l numbers) (sym c.as_slice-all.ensures.value) found.seen.sightings));
      crowded_told = c.crowded_reason-crowded.ensures;
      of_strays_told = subst (λ l. AreOfStrays beside.strays.now l c.put_stray_reasons.new.reasons.items) c.in_ok-put_reason.ensures c.in_ok-put_stray_reasons.ensures;
    }
