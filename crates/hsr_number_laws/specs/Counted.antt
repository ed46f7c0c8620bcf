-- Numbers that don't come again, by count.
--     numbered_in    how many frames a node numbered
--     CountedTells   where that is no more than there are numbers, none is mistaken
use Rattle.std.specs.Prelude.{ℕ, ◌<◌, ◌≤◌, List, length, count_by, is_some}
use Rattle.hsr_forwarding.specs.Numbers.{number_range}
use Rattle.hsr_node.specs.Record.{number_in}
use Rattle.hsr_node.specs.declared.entry.Entry.{Entry}
use Rattle.hsr_run_laws.specs.Closed.{IsClosed}
use Rattle.hsr_run_laws.specs.Premises.{NothingMistaken, NumberedFirst}
use Rattle.hsr_run_laws.specs.Run.{Run, past_of}
use Rattle.hsr_network_laws.specs.Network.{IsNetwork}

-- its own, and those of its Station
abbrev pub numbered_in : List Entry → ℕ
numbered_in h = count_by (λ (x : Entry). is_some (number_in x.outcome)) h

abbrev pub FewNumbers : Run → Type 0
FewNumbers run = (k : ℕ) → k < length run.places → numbered_in (past_of run k) ≤ number_range

-- In a closed run of a network where each RedBox numbered first, so that it numbers a frame once.
abbrev pub CountedTells : Type 0
CountedTells = (run : Run) → IsClosed run → IsNetwork run → NumberedFirst run → FewNumbers run → NothingMistaken run
