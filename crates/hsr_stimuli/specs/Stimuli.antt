-- All stimuli for a device, in the order of time. Scenes begin a second or more apart.
--     by_ring_port   what comes to a port of a node on a ring
--     remembering    what its tables remember
--     stimuli        for a device at a place, with tables of so many entries, and its first number, if that is known
use Rattle.std.specs.Prelude.{ℕ, List, [], ◌++◌, Option, unwrap_or}
use Rattle.hsr_node.specs.Copies.{ring_address}
use Rattle.hsr_node.specs.declared.place.Place.{Place}
use Rattle.hsr_node.specs.declared.place.Place.TheVariants.{Danh, RedBox, QuadBox, Station}
use Rattle.hsr_stimuli.specs.Scene.{no_address, with_port}
use Rattle.hsr_stimuli.specs.Scenes.{addressed, below, came_back_if, forgetting, full_table, from_stations, groups, last_station, malformed, node, numbers, others, station, stations_behind, supervisions, to_stations}
use Rattle.hsr_stimuli.specs.declared.scene.Scene.{Scene}
use Rattle.hsr_stimuli.specs.declared.scene.Stimulus.{Stimulus}

abbrev pub scene : List ℕ → ℕ → ℕ → ℕ → ℕ → Scene
scene own start port beyond sender = record { own = own; start = start; port = port; beyond = beyond; sender = sender }

-- ---- parts

-- to a port on a ring
unfoldable pub by_port : Scene → List Stimulus
by_port s = groups s ++ others s ++ supervisions s ++ malformed s

-- to a ring port of a device that has an address
unfoldable pub by_ring_port : Scene → List Stimulus
by_ring_port s = groups s ++ others s ++ addressed s ++ supervisions s ++ malformed s

unfoldable pub remembering : List ℕ → ℕ → List Stimulus
remembering own entries =
    forgetting (scene own 6000000 0 1 104) ++ numbers (scene own 7000000 0 1 105) ++ full_table (scene own 8000000 0 1 106) entries

-- 64 nodes and one more
abbrev pub nodes : List ℕ → List Stimulus
nodes own = below (node (scene own 9000000 0 1 107)) 65

unfoldable pub on_ring : List ℕ → ℕ → List Stimulus
on_ring own entries = by_ring_port (scene own 2000000 0 1 100) ++ by_ring_port (scene own 3000000 1 0 101) ++ remembering own entries ++ nodes own

unfoldable pub by_interlink : Scene → Option ℕ → List Stimulus
by_interlink ring start = from_stations ring ++ malformed (with_port ring 2) ++ came_back_if ring start ++ to_stations ring

-- 64 stations and one more; the last one is forgotten a minute later
unfoldable pub stations : List ℕ → List Stimulus
stations own =
    below (station (scene own 10000000 0 1 108)) 64 ++ stations_behind (scene own 10000000 0 1 108) ++ last_station (scene own 11000000 0 1 109)

-- ---- the whole

unfoldable pub of_redbox : List ℕ → ℕ → Option ℕ → List Stimulus
of_redbox own entries start = by_interlink (scene own 1000000 0 1 110) start ++ on_ring own entries ++ stations own

unfoldable pub of_quadbox : ℕ → List Stimulus
of_quadbox entries =
    by_port (scene no_address 2000000 0 1 100) ++ by_port (scene no_address 3000000 1 0 101) ++ by_port (scene no_address 4000000 2 3 102)
    ++ by_port (scene no_address 5000000 3 2 103) ++ remembering no_address entries

-- a station is no device of a ring
abbrev pub stimuli : Place → ℕ → Option ℕ → List Stimulus
stimuli (Danh mac mode) entries start = on_ring mac entries
stimuli (RedBox mac mode) entries start = of_redbox mac entries start
stimuli QuadBox entries start = of_quadbox entries
stimuli (Station macs) entries start = []
