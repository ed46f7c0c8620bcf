use Rattle.std.proofs.Common.{◌++◌, ◌∙◌, ap, subst}
use Rattle.std.specs.Prelude.{option_to_list}
use Rattle.hsr_health.specs.Told.{IsOfGaps, IsOfRestarts, IsOfSilences, IsOfSome, those_single}
use Rattle.hsr_health.specs.What.{life_what, lost_what}
use Rattle.hsr_health.specs.declared.reason.Word.TheVariants as the_word
use Rattle.hsr_health.proofs.all_reasons.put_source_reasons.Goals as goal

pub returns : goal.returns
returns c =
    let ring = c.args.ring.now in
    let copies = c.args.copies.now in
    let macs = c.args.macs.now in
    let known = c.args.known.now in
    let lost = c.in_ok-lost.lost in
    let restart = c.restart_reason-restart.result in
    let silent = c.in_ok-silent.silent in
    let life = c.life_reason-life.result in
    record {
      lost = lost;
      restart = restart;
      silent = silent;
      life = life;
      lost_told = subst (λ l. IsOfGaps the_word.Lost (lost_what macs) copies (those_single known.groups.items known.counts.items) l lost) c.as_slice-gaps.ensures.value
          (subst (λ l. IsOfGaps the_word.Lost (lost_what macs) copies (those_single known.groups.items l) c.as_slice-gaps.result.now lost) c.as_slice-counts.ensures.value
          (subst (λ l. IsOfGaps the_word.Lost (lost_what macs) copies (those_single l c.as_slice-counts.result.now) c.as_slice-gaps.result.now lost) c.as_slice-groups.ensures.value c.in_ok-lost.ensures));
      restart_told = subst (λ l. IsOfRestarts copies macs l restart) c.as_slice-restarts.ensures.value c.restart_reason-restart.ensures;
      silent_told = subst (λ l. IsOfSilences ring copies macs known.abouts.all.items l silent) c.as_slice-silences.ensures.value
          (subst (λ l. IsOfSilences ring copies macs l c.as_slice-silences.result.now silent) c.as_slice-abouts.ensures.value c.in_ok-silent.ensures);
      life_told = subst (λ l. IsOfSome the_word.Life (life_what macs) copies l life) c.as_slice-lives.ensures.value c.life_reason-life.ensures;
      all =
          c.in_ok-put_reason-4.ensures
          ∙ ap (λ l. l ++ option_to_list life)
          (c.in_ok-put_reason-3.ensures ∙ ap (λ l. l ++ option_to_list silent)
          (c.in_ok-put_reason-2.ensures ∙ ap (λ l. l ++ option_to_list restart) c.in_ok-put_reason.ensures));
    }
