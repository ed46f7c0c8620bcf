-- What is kept of the numbers that came.
use Rattle.std.specs.Prelude.{ℕ, ◌≡◌, ◌<◌, ◌^◌, ◌/◌, ◌%◌, ◌&&◌, nat_eq, ◌+◌, ◌*◌, ◌≤◌, Bool, false, List, length, reverse, slice_index_or, IfSome, Option, Some, None}
use Rattle.std.specs.HashMap.{get}
use Rattle.hsr_number_runs.specs.declared.run.Counting.{Counting}
use Rattle.hsr_number_runs.specs.declared.run.InRun.{InRun}
use Rattle.hsr_number_runs.specs.declared.run.Numbered.{Numbered}
use Rattle.hsr_number_runs.specs.declared.run.Placed.{Placed}
use Rattle.hsr_number_runs.specs.declared.run.Restart.{Restart}
use Rattle.hsr_number_runs.specs.Runs.{in_run, in_runs, is_there, restart_of, restarts_in, run_count, top_of}

-- a run and a block of eight extended numbers are the same
abbrev pub same_block : ℕ × ℕ → ℕ × ℕ → Bool
same_block a b = nat_eq a.0 b.0 && nat_eq a.1 b.1

-- whether a number is marked among the eight of a block
abbrev pub is_marked : Option (List Bool) → ℕ → Bool
is_marked None k = false
is_marked (Some marks) k = slice_index_or marks k false

-- the extended numbers of each run are marked, eight by eight, where a block has these marks
abbrev pub AreMarkedBy : (ℕ × ℕ → Option (List Bool)) → List InRun → Type 0
AreMarkedBy marks before = (run extended : ℕ) → is_marked (marks (run, extended / 8)) (extended % 8) ≡ is_there run extended before

abbrev pub AreMarked : Counting → List InRun → Type 0
AreMarked counting before = AreMarkedBy (get same_block counting.there) before

-- the greatest of each group's latest run, what each run has, and how many there are
pub record Knows (counting : Counting) (before : List InRun) : Type 0 where
  pub tops : (group : ℕ) → get nat_eq counting.tops group ≡ top_of group before
  pub there : AreMarked counting before
  pub runs : counting.runs ≡ run_count before

-- a number is placed behind those that came before it
pub record IsPlaced (before : List InRun) (n : Numbered) (placed : Placed) : Type 0 where
  pub is : placed.in_run ≡ in_run before n
  pub restart : placed.restart ≡ restart_of before n
  pub number : n.number < 2 ^ 16

-- Numbers, the latest first, are put into runs: the sum of runs and the greatest numbers have room, and each of these can be counted back
-- from.
pub record AreSoFar (counting : Counting) (done : List InRun) (told : List Restart) (past : List Numbered) : Type 0 where
  pub knows : Knows counting (in_runs past)
  pub few : run_count (in_runs past) ≤ length past
  pub small : (group : ℕ) → IfSome (top_of group (in_runs past)) (λ top. top.extended ≤ 131072 + 32768 * length past)
  pub large : (group : ℕ) → IfSome (top_of group (in_runs past)) (λ top. 65536 ≤ top.extended)
  pub placed : done ≡ reverse (in_runs past)
  pub begun : told ≡ restarts_in past
