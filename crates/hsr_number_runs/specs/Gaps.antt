-- Numbers of a run that never came.
use Rattle.std.specs.Prelude.{◌+◌, ◌-◌, ◌%◌, ◌==◌, ◌&&◌, nat_lt, if◌then◌else◌, List, [], ◌∷◌, ◌++◌, Option, Some, None, option_to_list}
use Rattle.hsr_number_runs.specs.declared.gaps.Gap.{Gap}
use Rattle.hsr_number_runs.specs.declared.run.InRun.{InRun}

-- all numbers between two of a run
abbrev pub gap_told : InRun → InRun → Gap
gap_told before behind = record {
  group = behind.group;
  sender = behind.sender;
  first = (before.extended + 1) % 65536;
  last = (behind.extended - 1) % 65536;
  missing = behind.extended - before.extended - 1;
  copy = behind.copy;
  at = behind.at;
}

abbrev pub gap_between : InRun → InRun → Option Gap
gap_between before behind =
    if (before.run == behind.run) && nat_lt (before.extended + 1) behind.extended then Some (gap_told before behind) else None

abbrev pub gap_in_front : Option InRun → InRun → Option Gap
gap_in_front None behind = None
gap_in_front (Some before) behind = gap_between before behind

-- the gaps behind a number, each between two numbers that follow one another
abbrev pub gaps_from : Option InRun → List InRun → List Gap
gaps_from last [] = []
gaps_from last (p ∷ rest) = option_to_list (gap_in_front last p) ++ gaps_from (Some p) rest

-- the gaps of all runs, of numbers in the order of runs, and of extended numbers in each
abbrev pub gaps_in : List InRun → List Gap
gaps_in in_runs = gaps_from None in_runs
