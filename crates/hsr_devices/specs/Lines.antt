-- The lines of a device.
--     row_text                          what is counted, the count at each port, and the node's own counter
--     arrivals_text, departures_text    the rows of what came, and of what left
use Rattle.std.specs.Prelude.{ℕ, ◌==◌, List, [], ◌++◌, codes, count_by, map, Option, Some, None, if◌then◌else◌}
use Rattle.std.specs.Fmt.{decimal}
use Rattle.std.specs.List.{flat_map, range_with_len}
use Rattle.hsr_frame.specs.declared.counters.Counters.{Counters}
use Rattle.hsr_node.specs.declared.entry.Entry.{Entry}
use Rattle.hsr_devices.specs.Cells.{label_cell, right}
use Rattle.hsr_devices.specs.Counted.{is_counted}
use Rattle.hsr_devices.specs.declared.counted.Counted.{Counted}
use Rattle.hsr_devices.specs.declared.counted.Counted.TheVariants.{Arrived, Up, Passed, Duplicate, Returned, Foreign, Local, Untagged, Tagged, Malformed, Own, Forwarded}

-- a count in a column
abbrev pub cell_text : ℕ → ℕ → List ℕ
cell_text width n = right width (decimal n)

abbrev pub node_cell : ℕ → Option ℕ → List ℕ
node_cell width None = []
node_cell width (Some n) = cell_text width n

unfoldable pub row_text : ℕ → List ℕ → List ℕ → Option ℕ → List ℕ
row_text width label cells node = label_cell label ++ flat_map (cell_text width) cells ++ node_cell width node ++ codes "\n"

-- what is counted at each port of a record
unfoldable pub counts : List Entry → ℕ → Counted → List ℕ
counts entries ports what = map (λ port. count_by (is_counted what port) entries) (range_with_len 0 ports)

unfoldable pub label_of : Counted → List ℕ
label_of Arrived = codes "  in"
label_of Up = codes "      of it taken up"
label_of Passed = codes "    passed"
label_of Duplicate = codes "    duplicate"
label_of Returned = codes "    returned"
label_of Foreign = codes "    foreign"
label_of Local = codes "    local"
label_of Untagged = codes "    untagged"
label_of Tagged = codes "    tagged"
label_of Malformed = codes "    malformed"
label_of Own = codes "  out, its own"
label_of Forwarded = codes "  out, passed on"

unfoldable pub counted_row : ℕ → List Entry → ℕ → Counted → Option ℕ → List ℕ
counted_row width entries ports what node = row_text width (label_of what) (counts entries ports what) node

-- a row that is left out where the node counted nothing
unfoldable pub counted_if : ℕ → List Entry → ℕ → Counted → ℕ → List ℕ
counted_if width entries ports what node = if node == 0 then [] else counted_row width entries ports what (Some node)

-- the octets at each port
unfoldable pub octets_row : ℕ → List ℕ → List ℕ
octets_row width octets = row_text width (codes "    octets") octets None

unfoldable pub lost_row : ℕ → List ℕ → List ℕ
lost_row width lost = row_text width (codes "    lost on the way") lost None

-- the octets at each port, and what was lost on its way
unfoldable pub way_text : ℕ → List ℕ → List ℕ → List ℕ
way_text width octets lost = octets_row width octets ++ lost_row width lost

-- all that came, and what was wanted of it; what was taken up was passed too
unfoldable pub wanted_text : ℕ → List Entry → ℕ → Counters → List ℕ
wanted_text width entries ports node =
    counted_row width entries ports Arrived None ++ counted_row width entries ports Passed None ++ counted_row width entries ports Up (Some node.up)
    ++ counted_row width entries ports Duplicate (Some node.duplicate)

-- the rest of what came
unfoldable pub unwanted_text : ℕ → List Entry → ℕ → Counters → List ℕ
unwanted_text width entries ports node =
    counted_if width entries ports Returned node.returned ++ counted_if width entries ports Foreign node.foreign ++ counted_if width entries ports Local node.local
    ++ counted_if width entries ports Untagged node.untagged ++ counted_if width entries ports Tagged node.tagged ++ counted_if width entries ports Malformed node.malformed

-- what came, by what became of it, its octets, and what was lost on its way here
unfoldable pub arrivals_text : ℕ → List Entry → ℕ → Counters → List ℕ → List ℕ → List ℕ
arrivals_text width entries ports node octets lost =
    wanted_text width entries ports node ++ unwanted_text width entries ports node ++ way_text width octets lost

-- what left, its octets, and what was lost on its way from here
unfoldable pub departures_text : ℕ → List Entry → ℕ → Counters → List ℕ → List ℕ → List ℕ
departures_text width entries ports node octets lost =
    counted_row width entries ports Own None ++ counted_row width entries ports Forwarded (Some node.forwarded) ++ way_text width octets lost
