-- Numbers of 16 bits that go round, in runs. What came before a number is a list, the latest first.
--     top_of          the greatest number of a group's latest run
--     restarts        whether a number begins a new run
--     in_run          a number in its run
--     in_runs         numbers in their runs
--     restarts_in     the numbers that began a new run behind another one
--     AreRunsOf       numbers in the order of time, in their runs, and the restarts among them
--     numbers_of      the numbers that stand in runs
use Rattle.std.specs.Prelude.{ℕ, ◌+◌, ◌-◌, ◌%◌, ◌==◌, ◌&&◌, ◌||◌, max, nat_le, nat_lt, Bool, if◌then◌else◌, List, [], ◌∷◌, ◌++◌, map, reverse, ◌≡◌, Option, Some, None, unwrap_or, option_to_list}
use Rattle.std.specs.List.{list_any}
use Rattle.hsr_number_runs.specs.declared.run.InRun.{InRun}
use Rattle.hsr_number_runs.specs.declared.run.Numbered.{Numbered}
use Rattle.hsr_number_runs.specs.declared.run.Restart.{Restart}
use Rattle.hsr_number_runs.specs.declared.run.Runs.{Runs}

-- how long a node remembers a frame, in nanoseconds
abbrev pub forget_time : ℕ
forget_time = 400000000

-- ---- what came before

-- the greater one of a number and the greatest before it; in a new run it is the first
abbrev pub greater : InRun → Option InRun → InRun
greater p None = p
greater p (Some top) = if (p.run == top.run) && nat_le p.extended top.extended then top else p

-- the greatest number of a group's latest run
abbrev pub top_of : ℕ → List InRun → Option InRun
top_of group [] = None
top_of group (p ∷ before) = if p.group == group then Some (greater p (top_of group before)) else top_of group before

-- whether a run has an extended number
abbrev pub is_there : ℕ → ℕ → List InRun → Bool
is_there run extended before = list_any (λ p. (p.run == run) && (p.extended == extended)) before

-- how many runs were begun
abbrev pub run_count : List InRun → ℕ
run_count [] = 0
run_count (p ∷ before) = max (run_count before) (p.run + 1)

-- ---- a number in its run

-- a number, extended so that it is next to the greatest so far, on whichever side it is nearer
abbrev pub extended_by : ℕ → ℕ → ℕ
extended_by top number = let ahead = (number + 65536 - top % 65536) % 65536 in
    if nat_lt ahead 32768 then top + ahead else top - (65536 - ahead)

abbrev pub distance : ℕ → ℕ → ℕ
distance a b = (a - b) + (b - a)

-- A number begins a new run if it is more than 4096 from the greatest so far; or if it isn't greater, and the greatest came 400 ms ago or
-- more, or the number was there before.
abbrev pub restarts_by : InRun → ℕ → ℕ → Bool → Bool
restarts_by top extended at was_there =
    nat_lt 4096 (distance extended top.extended) || (nat_le extended top.extended && (nat_le forget_time (at - top.at) || was_there))

abbrev pub restarts : List InRun → InRun → ℕ → ℕ → Bool
restarts before top extended at = restarts_by top extended at (is_there top.run extended before)

abbrev pub put_in : ℕ → ℕ → Numbered → InRun
put_in run extended n = record { run = run; extended = extended; group = n.group; sender = n.sender; at = n.at; copy = n.copy }

-- the first number of a run: it counts on from 65536, so that one may be behind it
abbrev pub begun : ℕ → Numbered → InRun
begun run n = put_in run (65536 + n.number) n

-- the number in the run that goes on, by the greatest so far; none where it begins a new run
abbrev pub gone_on : List InRun → Numbered → Option InRun → Option InRun
gone_on before n None = None
gone_on before n (Some top) = let extended = extended_by top.extended n.number in
    if restarts before top extended n.at then None else Some (put_in top.run extended n)

abbrev pub in_run : List InRun → Numbered → InRun
in_run before n = unwrap_or (gone_on before n (top_of n.group before)) (begun (run_count before) n)

-- numbers in their runs, the latest first
abbrev pub in_runs : List Numbered → List InRun
in_runs [] = []
in_runs (n ∷ past) = in_run (in_runs past) n ∷ in_runs past

-- ---- restarts

abbrev pub restart_behind : InRun → Numbered → Restart
restart_behind top n = record { group = n.group; sender = n.sender; number = n.number; copy = n.copy; at = n.at; after = top.extended % 65536; since = top.at }

-- a number that begins a new run, though its group had one
abbrev pub restart_by : Numbered → Option InRun → Option InRun → Option Restart
restart_by n None _ = None
restart_by n (Some top) (Some p) = None
restart_by n (Some top) None = Some (restart_behind top n)

abbrev pub restart_of : List InRun → Numbered → Option Restart
restart_of before n = restart_by n (top_of n.group before) (gone_on before n (top_of n.group before))

-- the restarts, in the order of time, of numbers that have the latest first
abbrev pub restarts_in : List Numbered → List Restart
restarts_in [] = []
restarts_in (n ∷ past) = restarts_in past ++ option_to_list (restart_of (in_runs past) n)

-- ---- all together

-- numbers in the order of time in their runs, and the restarts among them
pub record AreRunsOf (numbers : List Numbered) (runs : Runs) : Type 0 where
  pub placed : runs.in_runs.items ≡ reverse (in_runs (reverse numbers))
  pub begun : runs.restarts.items ≡ restarts_in (reverse numbers)

-- a number that stands in a run
abbrev pub number_of : InRun → Numbered
number_of p = record { at = p.at; group = p.group; sender = p.sender; copy = p.copy; number = p.extended % 65536 }

abbrev pub numbers_of : List InRun → List Numbered
numbers_of placed = map number_of placed
