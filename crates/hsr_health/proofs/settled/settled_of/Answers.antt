use Rattle.std.proofs.Common.{◌∙◌, ap, map, refl, subst, sym}
use Rattle.std.specs.List.{range_with_len}
use Rattle.std.specs.Prelude.{filter}
use Rattle.hsr_health.specs.Counted.{mark_of}
use Rattle.hsr_health.specs.Kinds.{AreMalformed, AreUntagged}
use Rattle.hsr_health.specs.Order.{in_order}
use Rattle.hsr_health.specs.Told.{is_absent}
use Rattle.hsr_health.specs.Whole.{is_asked, lanes_of}
use Rattle.hsr_health.proofs.Composed.{reasons_same}
use Rattle.hsr_sightings.specs.Read.{TellsEach}
use Rattle.hsr_taps.specs.Tallies.{is_at}
use Rattle.hsr_health.proofs.settled.settled_of.Goals as goal

pub vlans_of-requires : goal.vlans_of-requires
vlans_of-requires c =
    let lanes = is_at (lanes_of c.requires.findings.0) in
    let ring = c.args.ring.now in (
      lanes,
      ring,
      subst (λ l. TellsEach (mark_of lanes ring) c.args.copies.now l) (sym c.as_slice-5.ensures.value) c.requires.findings.2.seen.marks,
    )

pub returns : goal.returns
returns c = λ taps many found.
    let ring = c.args.ring.now in
    let asked = c.args.asked.now in
    let expected = c.args.expected.now in
    let findings = c.args.findings.now in
    let strays = c.as_slice-strays.ensures.value in
    record {
      absent = c.in_ok-absent.ensures ∙ ap (λ l. filter (is_absent l c.as_slice.result.now) expected) c.as_slice-macs.ensures.value
          ∙ ap (λ l. filter (is_absent findings.sources.macs.items l) expected) c.as_slice.ensures.value;
      told = c.in_ok-told.told.items;
      facts = c.facts_of.result;
      are_told = reasons_same ring taps _ _ many findings _ _ _ _ _ _ _ _ asked.table c.in_ok-told.told.items refl c.as_slice-losses.ensures.value
          (c.as_slice-2.ensures.value ∙ c.in_ok-is_asked.ensures ∙ ap (λ n. map (is_asked asked.choice) (range_with_len 0 n)) (c.len.ensures ∙ c.args.traffic.now.outline.interfaces.ok.0)) c.as_slice-3.ensures.value strays
          (c.in_ok-told.ensures taps many found);
      are_facts = c.facts_of.ensures;
      reasons = c.in_ok-reasons.ensures ∙ ap (in_order c.facts_of.result) c.as_slice-4.ensures.value;
      vlans = c.in_ok-vlans.ensures;
      untagged = subst (λ l. AreUntagged l c.in_ok-untagged.untagged.items) strays c.in_ok-untagged.ensures;
      malformed = subst (λ l. AreMalformed l c.in_ok-malformed.malformed.items) strays c.in_ok-malformed.ensures;
    }
