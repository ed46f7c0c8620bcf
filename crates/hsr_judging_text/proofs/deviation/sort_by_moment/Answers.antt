use Rattle.std.proofs.Common.{rules}
use Rattle.std.proofs.lemmas.List.Sorted.{answers_always}
use Rattle.hsr_judging_text.specs.declared.deviation.Deviation.{Deviation}
use Rattle.hsr_judging_text.proofs.deviation.sort_by_moment.Goals as goal

pub returns-clause-sorted : goal.returns-clause-sorted
returns-clause-sorted c = c.in_ok-sort_by_key.ensures.sorted (λ (d : Deviation). d.at) (answers_always _ _ _ (λ f a r g h. search rules))

pub returns-clause-stable : goal.returns-clause-stable
returns-clause-stable c = c.in_ok-sort_by_key.ensures.stable (λ (d : Deviation). d.at) (answers_always _ _ _ (λ f a r g h. search rules))
