use Rattle.std.proofs.Common.{rules}
use Rattle.std.proofs.lemmas.List.Sorted.{answers_always}
use Rattle.hsr_packet_order.specs.Disorder.{moment_of}
use Rattle.hsr_packet_order.proofs.sorting.sort_by_time.Goals as goal

pub returns-clause-sorted : goal.returns-clause-sorted
returns-clause-sorted c = c.in_ok-sort_by_key.ensures.sorted moment_of (answers_always _ _ _ (λ f a r g h. search rules))

pub returns-clause-stable : goal.returns-clause-stable
returns-clause-stable c = c.sort_by_key.ensures.stable moment_of (answers_always _ _ _ (λ f a r g h. search rules))
