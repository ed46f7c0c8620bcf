-- What a map has of the indices at which copies stand.
use Rattle.std.specs.Prelude.{ℕ, List, [], Option, Some, None, slice_get, Vec}
use Rattle.std.specs.Borrow.{Bor}
use Rattle.std.specs.Global.{Global}
use Rattle.indexmap.specs.IndexMap.{IndexMap, get_by}
use Rattle.hsr_node.specs.declared.event.Carried.{Carried}
use Rattle.hsr_run_index.specs.Often.{count_of, is_key_of}

abbrev pub items_if : Option (Vec ℕ Global) → List ℕ
items_if None = []
items_if (Some indices) = indices.items

abbrev pub indices_in : {S : Type 0} → IndexMap (Option (ℕ × ℕ) × Bor (List ℕ)) (Vec ℕ Global) S → Carried → List ℕ
indices_in kept copy = items_if (get_by (is_key_of copy) kept)

-- where a map of indices and counts of what came so far let a copy stand
abbrev pub found_at : {S T : Type 0} → IndexMap (Option (ℕ × ℕ) × Bor (List ℕ)) (Vec ℕ Global) S → IndexMap (Option (ℕ × ℕ) × Bor (List ℕ)) ℕ T → Option Carried → Option ℕ
found_at kept counts None = None
found_at kept counts (Some copy) = slice_get (indices_in kept copy) (count_of counts copy)
