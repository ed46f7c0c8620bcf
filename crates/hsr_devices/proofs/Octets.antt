-- What the first terms of a sum come to is no more than the sum.
use Rattle.std.proofs.Common.{ℕ, ◌+◌, ◌<◌, ◌≤◌, List, length, take, drop, slice_index_or, ap, arith}
use Rattle.std.specs.List.{sum_by}
use Rattle.std.proofs.lemmas.List.{take-append-drop}
use Rattle.std.proofs.lemmas.List.Sums.{sum_by-append, sum_by_more}

pub front_sum : {X : Type 0} (f : X → ℕ) (xs : List X) (i : ℕ) (d : X) → i < length xs → sum_by f (take i xs) + f (slice_index_or xs i d) ≤ sum_by f xs
front_sum f xs i d below =
    let one = sum_by_more f xs i d below in
    let whole = ap (sum_by f) (take-append-drop (i + 1) xs) in
    let parted = sum_by-append f (take (i + 1) xs) (drop (i + 1) xs) in
    omega (arith, one, whole, parted)
