-- What the channels of a finished run carried. A channel is a direction of a link.
--     is_carried   a copy was taken, or was on its way when its link was cut
--     transits     the copies that a channel carried, each with its moment and its octets on the wire
--     channels     all channels, by links, forth before back
use Rattle.std.specs.Prelude.{ℕ, zero, suc, ◌+◌, ◌&&◌, Bool, true, false, if◌then◌else◌, List, [], ◌∷◌, ◌++◌, length, Option, Some, None}
use Rattle.hsr_link.specs.Rows.{goes}
use Rattle.hsr_link.specs.declared.row.Dir.{Dir}
use Rattle.hsr_link.specs.declared.row.Dir.TheVariants.{Forth, Back}
use Rattle.hsr_link.specs.declared.row.Fate.{Fate}
use Rattle.hsr_link.specs.declared.row.Fate.TheVariants.{Queued, Taken, LostDown, LostCut, LostOverrun}
use Rattle.hsr_link.specs.declared.row.Row.{Row}
use Rattle.hsr_topology.specs.declared.end.End.{End}
use Rattle.hsr_run_laws.specs.Budget.{moment_of}
use Rattle.hsr_run_laws.specs.Run.{Run, ends_of, from_end, rows_of, to_end}
use Rattle.hsr_timeline.specs.Hops.{passed_place}
use Rattle.hsr_wire.specs.Octets.{wire_octets}
use Rattle.hsr_load.specs.declared.transit.Transit.{Transit}

-- what was put on a link that was down, or found its queue full, went nowhere
abbrev pub is_carried : Fate → Bool
is_carried Queued = false
is_carried Taken = true
is_carried LostDown = false
is_carried LostCut = true
is_carried LostOverrun = false

-- ---- transits

-- the effective moment of the entry at a place of a node's record
abbrev pub moment_by : Run → ℕ → Option ℕ → ℕ
moment_by run node None = 0
moment_by run node (Some place) = moment_of run (record { node = node; place = place })

-- the copy of a row, if the channel carried it; the entry at this place of a node's record passed it
unfoldable pub transit_by : Run → ℕ → Dir → Option ℕ → Row → List Transit
transit_by run node dir place row =
    if goes dir row && is_carried row.fate then record { moment = moment_by run node place; octets = wire_octets row.carried.octets } ∷ [] else []

-- that of the j-th row of a link
abbrev pub transit_of : Run → ℕ → Dir → ℕ → Row → List Transit
transit_of run l dir j row = transit_by run ((from_end dir (ends_of run l)).node) dir (passed_place run l dir j) row

-- those of a link's rows, from the j-th on
abbrev pub transits_from : Run → ℕ → Dir → ℕ → List Row → List Transit
transits_from run l dir j [] = []
transits_from run l dir j (row ∷ rows) = transit_of run l dir j row ++ transits_from run l dir (j + 1) rows

abbrev pub transits : Run → ℕ → Dir → List Transit
transits run l dir = transits_from run l dir 0 (rows_of run l)

-- ---- channels

-- where the copies of a channel come from, where they go, and those that it carried
pub record Channel : Type 0 where
  pub from : End
  pub to : End
  pub transits : List Transit

abbrev pub channel_of : Run → ℕ → Dir → Channel
channel_of run l dir = record { from = from_end dir (ends_of run l); to = to_end dir (ends_of run l); transits = transits run l dir }

-- those of the links below one
abbrev pub channels_below : Run → ℕ → List Channel
channels_below run zero = []
channels_below run (suc l) = channels_below run l ++ channel_of run l Forth ∷ channel_of run l Back ∷ []

abbrev pub channels : Run → List Channel
channels run = channels_below run (length run.links)
