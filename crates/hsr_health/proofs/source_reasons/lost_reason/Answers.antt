use Rattle.std.proofs.Common.{◌∙◌, ap, length, map, subst}
use Rattle.std.specs.List.{range_with_len}
use Rattle.std.specs.Prelude.{filter}
use Rattle.hsr_health.specs.Told.{IsOfSome, saw_single, those_single}
use Rattle.hsr_health.specs.What.{lost_what}
use Rattle.hsr_health.specs.declared.reason.Word.TheVariants as the_word
use Rattle.hsr_health.proofs.Finding.{filter_same, in_range}
use Rattle.hsr_number_runs.specs.declared.gaps.Gap.{Gap}
use Rattle.hsr_taps.specs.Tallies.{is_at}
use Rattle.hsr_health.proofs.source_reasons.lost_reason.Goals as goal

pub returns : goal.returns
returns c =
    let groups = c.args.groups.now in
    let counts = c.args.counts.now in
    let gaps = c.args.gaps.now in
    let seen = c.as_slice.ensures.value ∙ c.in_ok-seen.ensures in
    let own = c.as_slice-2.ensures.value ∙ c.in_ok-own.ensures ∙ ap (λ l. filter (λ (g : Gap). is_at l g.group) gaps) seen
    ∙ filter_same (λ (g : Gap). is_at (map (saw_single groups counts) (range_with_len 0 (length groups))) g.group) (λ (g : Gap). those_single groups counts g.group)
    (λ g. in_range (saw_single groups counts) (length groups) g.group) gaps in
    subst (λ l. IsOfSome the_word.Lost (lost_what c.args.macs.now) c.args.copies.now l c.lost_in.result) own c.lost_in.ensures
