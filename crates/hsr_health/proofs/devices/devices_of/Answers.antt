use Rattle.std.proofs.Common.{◌≡◌, ℕ, ◌<◌, ◌^◌, ◌∙◌, List, ap, arith, length, map, subst, sym, Some}
use Rattle.std.specs.Prelude.{filter_map, slice_get}
use Rattle.std.proofs.lemmas.List.{length-map}
use Rattle.hsr_health.specs.Counted.{mark_but_late}
use Rattle.hsr_health.specs.Loads.{capped}
use Rattle.hsr_health.specs.declared.counts.Counts.{Counts}
use Rattle.hsr_heard.specs.Hearing.{heard_at, those_of}
use Rattle.hsr_heard.specs.Subjects.{AreAbouts}
use Rattle.hsr_health.specs.Numbering.{AreGroups, IsLedger, group_name, life_number, numbered_at}
use Rattle.hsr_health.specs.Whole.{lanes_of, lives_of, unreadable_of}
use Rattle.hsr_health.proofs.Gapping.{groups_small}
use Rattle.hsr_health.proofs.Measuring.{short_those}
use Rattle.hsr_sightings.specs.Read.{TellsEach}
use Rattle.hsr_sightings.specs.Ring.{Ring}
use Rattle.hsr_taps.specs.Tallies.{is_at}
use Rattle.hsr_health.proofs.devices.devices_of.Goals as goal

pub life_runs-requires : goal.life_runs-requires
life_runs-requires c =
    omega (
      arith,
      ap length c.as_slice-3.ensures.value,
      ap length c.requires.heard.read,
      short_those (heard_at c.args.ring.now) c.args.copies.now 0 c.args.copies.now,
      c.requires.caught.few,
    )

pub frame_runs-requires-clause-marks : goal.frame_runs-requires-clause-marks
frame_runs-requires-clause-marks c =
    let lanes = is_at (lanes_of c.requires.framed.0) in
    let ring = c.args.ring.now in (
      lanes,
      ring,
      subst (TellsEach (mark_but_late lanes ring) c.args.copies.now) (sym c.as_slice-marks.ensures.value) c.requires.framed.1.marks,
    )

pub frame_runs-requires-clause-small : goal.frame_runs-requires-clause-small
frame_runs-requires-clause-small c =
    let macs = c.as_slice-macs.result.now in
    let told = c.as_slice-told.result.now in
    let groups = c.in_ok-groups.groups.items in
    subst (λ (l : List ℕ). (k group : ℕ) → slice_get l k ≡ Some group → group < 2 ^ 32) (sym c.as_slice-of_source.ensures.value)
    (groups_small (map (group_name told) macs) groups c.in_ok-groups.ensures.groups (c.in_ok-groups.ensures.long ∙ sym (length-map macs (group_name told)))
    (omega (arith, length-map macs (group_name told), ap length c.as_slice-macs.ensures.value, c.requires.few)))

pub returns : goal.returns
returns c =
    let ring = c.args.ring.now in
    let copies = c.args.copies.now in
    let sources = c.args.sources.now in
    let of_copy = c.as_slice-of_copy.ensures.value in
    let many : c.len-many.result ≡ length sources.macs.items = c.len-many.ensures ∙ sources.macs.ok.0 in
    let numbered = ap (λ l. those_of (numbered_at l c.as_slice-of_source.result.now) copies) of_copy ∙ ap (λ l. those_of (numbered_at sources.of_copy.items l) copies) c.as_slice-of_source.ensures.value in
    let said = ap (λ l. filter_map (life_number l) c.as_slice-3.result.now) of_copy
    ∙ ap (filter_map (life_number sources.of_copy.items)) c.as_slice-3.ensures.value in
    record {
      counted = c.count_unread.ensures.long ∙ c.count_lives.ensures.long ∙ c.in_ok-counted.ensures.long ∙ many;
      grouped = c.in_ok-groups.ensures.long ∙ ap length c.as_slice-macs.ensures.value;
      groups = subst (λ l. AreGroups (map (group_name l) sources.macs.items) c.in_ok-groups.groups.items) c.as_slice-told.ensures.value
          (subst (λ l. AreGroups (map (group_name c.as_slice-told.result.now) l) c.in_ok-groups.groups.items) c.as_slice-macs.ensures.value c.in_ok-groups.ensures.groups);
      heard = c.args.hearing.heard.items;
      unread = c.args.hearing.unread.items;
      are_heard = c.requires.heard;
      lives_are = λ k own here.
          let read = c.count_unread.ensures.others k own here in
          let first = c.count_lives.ensures.lives k read.0 read.1 in
          let none = c.in_ok-counted.ensures.none k first.0 first.1 in
          read.2 ∙ first.2 (ap (λ (x : Counts). x.lives) none) ∙ ap (λ l. capped (lives_of l c.as_slice.result.now k)) of_copy ∙ ap (λ l. capped (lives_of sources.of_copy.items l k)) c.as_slice.ensures.value;
      unreadable_are = λ k own here.
          let read = c.count_unread.ensures.unreadable k own here in
          let before = c.count_lives.ensures.others k read.0 read.1 in
          let none = c.in_ok-counted.ensures.none k before.0 before.1 in
          read.2 (before.2 ∙ ap (λ (x : Counts). x.unreadable) none) ∙ ap (λ l. capped (unreadable_of l c.as_slice-2.result.now k)) of_copy ∙ ap (λ l. capped (unreadable_of sources.of_copy.items l k)) c.as_slice-2.ensures.value;
      abouts = subst (λ (r : Ring). AreAbouts c.args.hearing.heard.items r.start r.end c.in_ok-abouts.abouts.all.items c.in_ok-abouts.abouts.silences.items) c.ring.view_is c.in_ok-abouts.ensures;
      ledger = subst (λ n. IsLedger (those_of (numbered_at sources.of_copy.items c.in_ok-groups.groups.items) copies) n c.in_ok-ledger.ledger) many
          (subst (λ l. IsLedger l c.len-many.result c.in_ok-ledger.ledger) numbered (c.in_ok-ledger.ensures _ c.in_ok-placed.ensures));
      lives = subst (λ n. IsLedger (filter_map (life_number sources.of_copy.items) c.args.hearing.heard.items) n c.in_ok-lives.lives) many
          (subst (λ l. IsLedger l c.len-many.result c.in_ok-lives.lives) said (c.in_ok-lives.ensures _ c.in_ok-said.ensures));
    }
