-- After how long a node forgets, in the unit of its moments.
use Rattle.std.specs.Prelude.{ℕ, ◌*◌}
use Rattle.hsr_duptable.specs.Notes.{entry_forget}
use Rattle.hsr_tables.specs.Known.{node_forget}

-- frames that passed, and addresses that were heard
pub record Times : Type 0 where
  pub entry : ℕ
  pub node : ℕ

-- the times of the standard, in microseconds
abbrev pub usual : Times
usual = record { entry = entry_forget; node = node_forget }

-- the same times in a finer unit, `factor` of which are one of the old
abbrev pub finer_times : ℕ → Times → Times
finer_times factor times = record { entry = times.entry * factor; node = times.node * factor }
