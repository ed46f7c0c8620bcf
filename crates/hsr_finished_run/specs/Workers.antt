-- The workers that there are.
use Rattle.std.specs.Prelude.{ℕ, max, List, [], ◌∷◌}
use Rattle.hsr_node.specs.Kept.{Receipts, Record}
use Rattle.hsr_node.specs.declared.entry.Entry.{Entry}

abbrev pub most_in : List Entry → ℕ
most_in [] = 0
most_in (x ∷ xs) = max x.worker (most_in xs)

abbrev pub most_kept : List Record → ℕ
most_kept [] = 0
most_kept (r ∷ rs) = max (most_in r.entries) (most_kept rs)

abbrev pub most_passed : List Receipts → ℕ
most_passed [] = 0
most_passed (p ∷ ps) = max p.worker (most_passed ps)

-- the highest worker that has an entry or a pass
abbrev pub most_worker : List Record → List Receipts → ℕ
most_worker kept passes = max (most_kept kept) (most_passed passes)
