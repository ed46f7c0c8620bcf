use Rattle.std.proofs.Common.{◌∙◌, ap, length, subst, sym}
use Rattle.hsr_health.specs.Counted.{AreSources, mark_of}
use Rattle.hsr_health.specs.Whole.{AreAlike, HaveLives}
use Rattle.hsr_health.proofs.Measuring.{of_sources_alike}
use Rattle.hsr_sightings.specs.Read.{AreSightings, TellsEach}
use Rattle.hsr_health.proofs.known.known_of.Goals as goal

pub returns : goal.returns
returns c =
    let ring = c.args.ring.now in
    let copies = c.args.copies.now in
    let sources = c.args.sources.now in
    let devices = c.requires.devices in
    let numbers = c.args.seen.now.sightings.of_copy.items in
    let counts = c.in_ok-counts.counts.items in
    let told = subst (AreSources copies sources.macs.items) (sym c.as_slice-of_copy.ensures.value) c.requires.sources in
    let sightings = subst (λ l. AreSightings ring copies l numbers) (sym c.as_slice-all.ensures.value) c.requires.seen.1.sightings in
    let alike = subst (λ l. AreAlike l counts) c.as_slice.ensures.value c.in_ok-counts.ensures.alike in
    let lives = subst (λ l. HaveLives l counts) c.as_slice-2.ensures.value c.in_ok-counts.ensures.lives in
    record {
      counted = c.in_ok-counts.ensures.long ∙ ap length c.as_slice.ensures.value ∙ c.in_ok-bare.ensures.long ∙ c.len-many.ensures ∙ sources.macs.ok.0;
      counts = λ is_by_lane marks.
          of_sources_alike ring is_by_lane sources.macs.items _ c.in_ok-bare.bare.items counts
          (c.in_ok-bare.ensures.counts is_by_lane sources.macs.items numbers (subst (TellsEach (mark_of is_by_lane ring) copies) (sym c.as_slice-marks.ensures.value) marks) told sightings)
          alike;
      grouped = devices.grouped;
      groups = devices.groups;
      heard = devices.heard;
      unread = devices.unread;
      are_heard = devices.are_heard;
      lives_are = λ k own here. let its = lives k own here in its.2.0 ∙ devices.lives_are k its.0 its.1;
      unreadable_are = λ k own here. let its = lives k own here in its.2.1 ∙ devices.unreadable_are k its.0 its.1;
      abouts = devices.abouts;
      ledger = devices.ledger;
      lives = devices.lives;
    }
