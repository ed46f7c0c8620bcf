-- Which of some copies is which of others. Copies that are equal in everything stand in the same order on both sides: the k-th here
-- is the k-th there.
--     indices       where a copy stands, rising
--     partner       where the copy at an index of one list stands in another
use Rattle.std.specs.Prelude.{ℕ, Bool, false, List, length, map, filter, take, count_by, slice_get, slice_index_or, Option, Some, None}
use Rattle.std.specs.List.{range_with_len}
use Rattle.hsr_node.specs.declared.event.Carried.{Carried}
use Rattle.hsr_run_index.specs.Often.{is_same_carried}

-- this is the copy
abbrev pub is_at : Carried → Option Carried → Bool
is_at copy None = false
is_at copy (Some other) = is_same_carried copy other

-- the indices below one at which a copy stands
abbrev pub indices_below : Carried → List (Option Carried) → ℕ → List ℕ
indices_below copy xs n = filter (λ i. is_at copy (slice_index_or xs i None)) (range_with_len 0 n)

abbrev pub indices : Carried → List (Option Carried) → List ℕ
indices copy xs = indices_below copy xs (length xs)

-- of the indices at which a copy stands, the one that is left by the equal copies before it
abbrev pub partner_of : List (Option Carried) → List (Option Carried) → ℕ → Option Carried → Option ℕ
partner_of xs ys j None = None
partner_of xs ys j (Some copy) = slice_get (indices copy xs) (count_by (is_at copy) (take j ys))

-- where the copy that stands at an index of the second list stands in the first
abbrev pub partner : List (Option Carried) → List (Option Carried) → ℕ → Option ℕ
partner xs ys j = partner_of xs ys j (slice_index_or ys j None)

-- the partners of all
abbrev pub partners : List (Option Carried) → List (Option Carried) → List (Option ℕ)
partners xs ys = map (partner xs ys) (range_with_len 0 (length ys))
