-- The least, the lower median and the greatest of numbers.
use Rattle.std.specs.Prelude.{ℕ, ◌≡◌, ◌-◌, ◌/◌, ◌==◌, if◌then◌else◌, List, filter, length, map, slice_get, slice_index, IsPermutation, Vec, Option, Some, None}
use Rattle.std.specs.Global.{Global}
use Rattle.std.specs.List.Sorted.{IsSorted}
use Rattle.std.specs.Ordering.{nat_cmp}
use Rattle.hsr_spread.specs.declared.spread.Amounts.{Amounts}
use Rattle.hsr_spread.specs.declared.spread.Spread.{Spread}
use Rattle.hsr_spread.specs.declared.spread.Told.{Told}

-- of the numbers in order: the first, the one in the middle, or in front of the middle, and the last
pub record IsSpreadOf (numbers : List ℕ) (spread : Spread) : Type 0 where
  pub sorted : List ℕ
  pub same : IsPermutation numbers sorted
  pub rises : IsSorted nat_cmp sorted
  pub min : spread.min ≡ slice_index sorted 0
  pub mid : spread.mid ≡ slice_index sorted ((length sorted - 1) / 2)
  pub max : spread.max ≡ slice_index sorted (length sorted - 1)

-- none where there are none
abbrev pub IsSpread : List ℕ → Option Spread → Type 0
IsSpread numbers None = length numbers ≡ 0
IsSpread numbers (Some spread) = IsSpreadOf numbers spread

-- ---- of each of several

-- what is told of one
abbrev pub amounts_of : ℕ → List Told → List ℕ
amounts_of one told = map (λ t. t.amount) (filter (λ t. t.of == one) told)

abbrev pub AreSpreads : List Told → List (Option Spread) → Type 0
AreSpreads told spreads = (k : ℕ) (own : Option Spread) → slice_get spreads k ≡ Some own → IsSpread (amounts_of k told) own

-- ---- how they are found

abbrev pub items_of : Vec ℕ Global → List ℕ
items_of v = v.items

abbrev pub lists_of : List (Vec ℕ Global) → List (List ℕ)
lists_of vs = map items_of vs

-- of each its numbers
abbrev pub AreAmounts : List Told → List (List ℕ) → Type 0
AreAmounts told lists = (k : ℕ) (own : List ℕ) → slice_get lists k ≡ Some own → own ≡ amounts_of k told

-- of how many
abbrev pub many_of : Amounts → ℕ
many_of amounts = length amounts.lists.items

-- these are what is told
abbrev pub AreTold : List Told → Amounts → Type 0
AreTold told amounts = AreAmounts told (lists_of amounts.lists.items)

-- of numbers in order
abbrev pub spread_in : List ℕ → Option Spread
spread_in sorted = if length sorted == 0 then None else Some (record {
  min = slice_index sorted 0;
  mid = slice_index sorted ((length sorted - 1) / 2);
  max = slice_index sorted (length sorted - 1);
})
