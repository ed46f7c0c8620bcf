-- A walk over what entries passed and over rows, where both stand in one order.
--     IsNextPass   from a place on, the first entry that passed a copy stands at another, and passed this copy
--     IsStep       where the entry of the next row stands, and from where the walk goes on
--     IsWalked     the walk so far
use Rattle.std.specs.Prelude.{ℕ, ◌+◌, ◌<◌, ◌≤◌, ◌≡◌, List, length, map, take, count_by, slice_index_or, Option, Some, None}
use Rattle.std.specs.List.{range_with_len}
use Rattle.hsr_node.specs.declared.event.Carried.{Carried}
use Rattle.hsr_timeline.specs.declared.walk.Step.{Step}
use Rattle.hsr_timeline.specs.Partners.{is_at, partner}

pub record IsNextPass (xs : List (Option Carried)) (from : ℕ) (copy : Carried) (at : ℕ) : Type 0 where
  pub behind : from ≤ at
  pub below : at < length xs
  pub nothing : (k : ℕ) → k < at → from ≤ k → slice_index_or xs k None ≡ None
  pub passes : slice_index_or xs at None ≡ Some copy

pub record IsTaken (xs : List (Option Carried)) (from : ℕ) (copy : Carried) (step : Step) : Type 0 where
  pub at : ℕ
  pub is_next : IsNextPass xs from copy at
  pub place : step.place ≡ Some at
  pub next : step.next ≡ at + 1

-- a row that tells of no copy takes no entry
abbrev pub IsStep : List (Option Carried) → ℕ → Option Carried → Step → Type 0
IsStep xs from None step = step ≡ record { place = None; next = from }
IsStep xs from (Some copy) step = IsTaken xs from copy step

-- before the place to which the walk came, and before the row, each copy is as often; the rows so far have their partners
pub record IsWalked (xs ys : List (Option Carried)) (from j : ℕ) (places : List (Option ℕ)) : Type 0 where
  pub as_often : (copy : Carried) → count_by (is_at copy) (take from xs) ≡ count_by (is_at copy) (take j ys)
  pub are_partners : places ≡ map (partner xs ys) (range_with_len 0 j)
