use Rattle.std.proofs.Common.{◌++◌, ◌∙◌, ap, arith, length, option_to_list, refl, subst, take}
use Rattle.std.specs.Prelude.{filter_map}
use Rattle.std.proofs.lemmas.List.{length-take, take_all}
use Rattle.hsr_health.specs.Numbering.{life_number}
use Rattle.hsr_health.proofs.Measuring.{short_filter_map}
use Rattle.hsr_health.proofs.Sorting.{found_more}
use Rattle.hsr_number_runs.specs.Runs.{AreRunsOf}
use Rattle.hsr_health.proofs.ledger.life_runs.Goals as goal

pub put_number-requires : goal.put_number-requires
put_number-requires c =
    let heard = c.args.heard.now in
    let i = c.loop-one.one-index in
    omega (arith, ap length c.loop-one.invariant, short_filter_map (life_number c.args.of_copy.now) (take i heard), length-take i heard, c.requires)

pub loop-one-preserved : goal.loop-one-preserved
loop-one-preserved c =
    let heard = c.args.heard.now in
    let i = c.loop-one.one-index in
    let tell = life_number c.args.of_copy.now in
    let before = filter_map tell (take i heard) in
    let number = c.life_number.result in
    c.in_ok-so_far-2.ensures ∙ ap (λ l. l ++ option_to_list number) c.loop-one.invariant
    ∙ found_more tell heard i c.one-item.result before (before ++ option_to_list number) (omega arith) refl
    (ap (λ o. before ++ option_to_list o) (c.life_number.ensures ∙ ap tell c.one-item.is))

pub returns : goal.returns
returns c =
    let heard = c.args.heard.now in
    let i = c.loop-one.one-index in
    let tell = life_number c.args.of_copy.now in
    subst (λ l. AreRunsOf l c.runs.result) (c.loop-one.invariant ∙ ap (filter_map tell) (take_all i heard (omega arith))) c.runs.ensures
