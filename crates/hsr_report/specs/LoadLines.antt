-- The lines of load in a report: one for each channel that carried a copy, then the one with the worst millisecond.
use Rattle.std.specs.Prelude.{ℕ, ◌≡◌, List, ◌++◌, codes, Option, Some, None}
use Rattle.std.specs.Fmt.{decimal}
use Rattle.std.specs.List.{flat_map}
use Rattle.hsr_node.specs.declared.place.Place.{Place}
use Rattle.hsr_run_laws.specs.Run.{Run}
use Rattle.hsr_naming.specs.Naming.{port_text}
use Rattle.hsr_naming.specs.declared.naming.Naming.{Naming}
use Rattle.hsr_load.specs.Loads.{AreLoadsOf, most}
use Rattle.hsr_load.specs.declared.load.ChannelLoad.{ChannelLoad}

-- how many copies, and their octets on the wire
unfoldable pub carried_text : ChannelLoad → List ℕ
carried_text load = codes " frames " ++ decimal load.frames ++ codes " octets " ++ decimal load.octets

-- the mean, and the worst millisecond with its first moment
unfoldable pub rates_text : ChannelLoad → List ℕ
rates_text load = codes " mean " ++ decimal load.mean ++ codes " worst-ms " ++ decimal load.worst ++ codes " at " ++ decimal load.at

unfoldable pub load_line : Naming → List Place → ChannelLoad → List ℕ
load_line naming places load =
    codes "load " ++ port_text naming places load.from ++ codes " " ++ port_text naming places load.to ++ carried_text load ++ rates_text load
    ++ codes "\n"

unfoldable pub most_line : Naming → List Place → ChannelLoad → List ℕ
most_line naming places load = codes "load most " ++ decimal load.worst ++ codes " " ++ port_text naming places load.from ++ codes "\n"

abbrev pub most_if : Naming → List Place → Option ChannelLoad → List ℕ
most_if naming places None = codes "load none\n"
most_if naming places (Some load) = most_line naming places load

abbrev pub load_lines : Naming → List Place → List ChannelLoad → List ℕ
load_lines naming places loads = flat_map (load_line naming places) loads ++ most_if naming places (most loads)

-- the lines of a run
pub record TellsLoad (naming : Naming) (run : Run) (text : List ℕ) : Type 0 where
  pub loads : List ChannelLoad
  pub are_loads : AreLoadsOf run loads
  pub lines : text ≡ load_lines naming run.places loads
