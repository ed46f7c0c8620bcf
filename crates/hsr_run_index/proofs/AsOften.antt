-- What a test of two lists of copies looks at.
use Rattle.std.proofs.Common.{◌≡◌, List, length}
use Rattle.std.proofs.lemmas.List.Sorted.{length_permutation}
use Rattle.hsr_node.specs.declared.event.Carried.{Carried}
use Rattle.hsr_run_index.specs.Often.{AsOften}
use Rattle.hsr_run_index.proofs.Often.{in_order}

pub long_from : (xs ys : List Carried) → AsOften xs ys → length ys ≡ length xs
long_from xs ys h = length_permutation xs ys (in_order xs ys h)
