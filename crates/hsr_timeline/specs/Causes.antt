-- What the entries of a finished run follow.
--     main_at      the main worker's entries, in their order
--     cause_in     what is paired with an entry
--     origins      of each entry, its moment and what it follows
use Rattle.std.specs.Prelude.{ℕ, zero, suc, ◌+◌, ◌-◌, ◌==◌, ◌&&◌, Bool, if◌then◌else◌, List, [], ◌∷◌, ◌++◌, length, take, count_by, filter_map, slice_get, Option, Some, None}
use Rattle.std.specs.List.{range_with_len}
use Rattle.std.specs.Option.{option_and_then, option_or}
use Rattle.hsr_node.specs.declared.entry.Entry.{Entry}
use Rattle.hsr_run_laws.specs.Run.{Run, record_of}
use Rattle.hsr_run_index.specs.Turns.{holds_from}
use Rattle.hsr_finished_run.specs.declared.planned.Planned.{Planned}
use Rattle.hsr_timeline.specs.declared.origin.Origin.{Origin}
use Rattle.hsr_timeline.specs.declared.origin.Spot.{Spot}
use Rattle.hsr_timeline.specs.declared.hop.Hop.{Hop}
use Rattle.hsr_timeline.specs.Hops.{hops, spot_at}

-- an effect with its cause
abbrev pub pair_of : Option Spot → Option Spot → Option (Spot × Spot)
pair_of None cause = None
pair_of (Some effect) None = None
pair_of (Some effect) (Some cause) = Some (effect, cause)

abbrev pub is_spot : Spot → Spot → Bool
is_spot x y = x.node == y.node && x.place == y.place

abbrev pub cause_if : Spot → Spot × Spot → Option Spot
cause_if spot pair = if is_spot pair.0 spot then Some pair.1 else None

-- the cause that is paired with an entry; the last, if there are several
abbrev pub cause_in : List (Spot × Spot) → Spot → Option Spot
cause_in [] spot = None
cause_in (pair ∷ pairs) spot = option_or (cause_in pairs spot) (cause_if spot pair)

-- ---- the main worker

abbrev pub is_for : ℕ → Planned → Bool
is_for node x = x.node == node

-- the main worker's next entry of a node, behind those that come before
abbrev pub main_next : Run → List Planned → Planned → Option Spot
main_next run before x = spot_at x.node (slice_get (holds_from 0 (record_of run x.node) 0) (count_by (is_for x.node) before))

-- its i-th entry
abbrev pub main_at : Run → List Planned → ℕ → Option Spot
main_at run plan i = option_and_then (main_next run (take i plan)) (slice_get plan i)

-- the one before that
abbrev pub main_before : Run → List Planned → ℕ → Option Spot
main_before run plan i = if i == 0 then None else main_at run plan (i - 1)

-- each of its entries with the one before
abbrev pub main_pair : Run → List Planned → ℕ → Option (Spot × Spot)
main_pair run plan i = pair_of (main_at run plan i) (main_before run plan i)

abbrev pub main_pairs : Run → List Planned → List (Spot × Spot)
main_pairs run plan = filter_map (main_pair run plan) (range_with_len 0 (length plan))

-- ---- copies

-- each entry that judged a copy with the one that passed it
abbrev pub hop_pair : Hop → Option (Spot × Spot)
hop_pair hop = pair_of hop.judged hop.passed

abbrev pub hop_pairs : Run → List (Spot × Spot)
hop_pairs run = filter_map hop_pair (hops run)

-- ---- origins

abbrev pub origin_at : (Spot → Option Spot) → (Spot → Option Spot) → Spot → Entry → Origin
origin_at planned passed spot x = record { at = x.at; planned = planned spot; passed = passed spot }

-- those of a node's entries, from the n-th on
abbrev pub origins_from : (Spot → Option Spot) → (Spot → Option Spot) → ℕ → ℕ → List Entry → List Origin
origins_from planned passed node n [] = []
origins_from planned passed node n (x ∷ xs) = origin_at planned passed (record { node = node; place = n }) x ∷ origins_from planned passed node (n + 1) xs

-- those of the nodes below one
abbrev pub origins_below : Run → (Spot → Option Spot) → (Spot → Option Spot) → ℕ → List (List Origin)
origins_below run planned passed zero = []
origins_below run planned passed (suc k) = origins_below run planned passed k ++ origins_from planned passed k 0 (record_of run k) ∷ []

abbrev pub origins : Run → List Planned → List (List Origin)
origins run plan = origins_below run (cause_in (main_pairs run plan)) (cause_in (hop_pairs run)) (length run.places)
