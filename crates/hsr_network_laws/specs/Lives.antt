-- Supervision frames stay on rings.
--     is_joined_with_station   a Station that is joined with a Station
--     LivesStay                a Station takes up no supervision frame but of such a one
use Rattle.std.specs.Prelude.{ℕ, ◌<◌, ◌≡◌, ◌==◌, ◌&&◌, ◌||◌, Bool, true, false, List, length, count_by, slice_index_or}
use Rattle.std.specs.List.{list_any}
use Rattle.hsr_frame.specs.Egress.{is_supervision}
use Rattle.hsr_node.specs.declared.event.Probe.{Probe}
use Rattle.hsr_node.specs.declared.place.Place.{Place}
use Rattle.hsr_node.specs.declared.place.Place.TheVariants.{QuadBox}
use Rattle.hsr_node.specs.declared.sending.Sending.{Sending}
use Rattle.hsr_link.specs.declared.row.Dir.TheVariants.{Forth}
use Rattle.hsr_topology.specs.declared.end.End.{End}
use Rattle.hsr_run_laws.specs.Closed.{IsClosed, IsSend}
use Rattle.hsr_run_laws.specs.Once.{delivers}
use Rattle.hsr_run_laws.specs.Run.{Run, from_end, place_of, record_of, to_end}
use Rattle.hsr_network_laws.specs.Network.{IsNetwork, is_station}

-- ---- Stations that are joined

abbrev pub is_station_at : List Place → End → Bool
is_station_at places end = is_station (slice_index_or places end.node QuadBox)

-- both ends of a link are Stations', and one of them is this node's
abbrev pub joins_stations : List Place → ℕ → List End → Bool
joins_stations places k ends =
    (((from_end Forth ends).node == k) || ((to_end Forth ends).node == k)) && (is_station_at places (from_end Forth ends) && is_station_at places (to_end Forth ends))

-- a Station that is joined with a Station
abbrev pub is_joined_with_station : List Place → List (List End) → ℕ → Bool
is_joined_with_station places links k = list_any (joins_stations places k) links

-- ---- supervision frames

-- In a closed run of a network no Station took up a supervision frame, but for one of a Station that is joined with a Station. (What
-- these two send each other no RedBox sees.)
abbrev pub LivesStay : Type 0
LivesStay = (run : Run) → IsClosed run → IsNetwork run → (send : Probe) (sending : Sending) (k : ℕ) → IsSend run send sending →
    is_supervision sending.frame.dst sending.frame.kind ≡ true → is_joined_with_station run.places run.links send.node ≡ false → k < length run.places →
    is_station (place_of run k) ≡ true → count_by (delivers send) (record_of run k) ≡ 0
