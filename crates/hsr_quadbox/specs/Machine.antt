-- What a contract sees of a QuadBox: all that it holds.
use Rattle.std.specs.Prelude.{◌≡◌, ℕ, ◌≤◌}
use Rattle.hsr_frame.specs.Counters.{AreWithin as CountersWithin, no_counts, step_limit}
use Rattle.hsr_frame.specs.declared.counters.Counters.{Counters}
use Rattle.hsr_forwarding.specs.Tables.{AreWithin, Notes, no_notes}
use Rattle.hsr_quadbox.specs.Wanted.{egresses}

pub record Machine : Type 0 where
  -- what each port remembers
  pub notes : Notes
  pub counters : Counters
  -- the greatest moment so far
  pub moment : ℕ
  -- how many arrivals were accepted
  pub accepted : ℕ

abbrev pub new_machine : Machine
new_machine = record { notes = no_notes egresses; counters = no_counts; moment = 0; accepted = 0 }

-- what holds of each QuadBox
pub record IsSound (machine : Machine) : Type 0 where
  pub there : machine.notes.there ≡ egresses
  pub notes : AreWithin machine.notes machine.moment machine.accepted
  pub steps : machine.accepted ≤ step_limit
  pub counters : CountersWithin machine.counters machine.accepted
