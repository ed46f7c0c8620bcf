-- What RedBoxes hear of the stations behind them.
use Rattle.std.specs.Prelude.{ℕ, ◌==◌, ◌&&◌, max, nat_lt, Bool, false, List, [], ◌∷◌, ◌++◌, map, count_by, position, slice_get, slice_set, Option, Some, None, unwrap_or, if◌then◌else◌}
use Rattle.hsr_node.specs.declared.place.Place.{Place}
use Rattle.hsr_node.specs.declared.place.Place.TheVariants.{Danh, RedBox, QuadBox, Station}
use Rattle.hsr_tables.specs.Proxies.{Proxies, is_known, learned, no_proxies}
use Rattle.hsr_topology.specs.declared.end.End.{End}
use Rattle.hsr_plan_network.specs.Nodes.{Node}
use Rattle.hsr_plan_schedule.specs.Senders.{is_own}

-- the frames that wait on interlinks, each by the number of its Station, and what each node knows of stations behind it
pub record Heard : Type 0 where
  pub waits : List ℕ
  pub known : List Proxies

abbrev pub nothing_heard : List Node → Heard
nothing_heard nodes = record { waits = []; known = map (λ node. no_proxies) nodes }

-- ---- interlinks: the links from port I of a RedBox to its Station

abbrev pub begins_at : ℕ → List End → Bool
begins_at k (e ∷ f ∷ []) = (e.port == 2) && (e.node == k)
begins_at k _ = false

abbrev pub leads_to : ℕ → List End → Bool
leads_to s (e ∷ f ∷ []) = (e.port == 2) && (f.node == s)
leads_to s _ = false

-- the interlink of a Station
abbrev pub interlink_to : List (List End) → ℕ → Option ℕ
interlink_to links s = position (leads_to s) links

abbrev pub macs_in : Place → List (List ℕ)
macs_in (Danh mac mode) = []
macs_in (RedBox mac mode) = []
macs_in QuadBox = []
macs_in (Station macs) = macs.items

abbrev pub macs_if : Option Node → List (List ℕ)
macs_if None = []
macs_if (Some node) = macs_in node.place

abbrev pub macs_beyond : List Node → Option (List End) → List (List ℕ)
macs_beyond nodes (Some (e ∷ f ∷ [])) = macs_if (slice_get nodes f.node)
macs_beyond nodes _ = []

abbrev pub macs_by : List Node → List (List End) → Option ℕ → List (List ℕ)
macs_by nodes links None = []
macs_by nodes links (Some l) = macs_beyond nodes (slice_get links l)

-- the addresses of the stations behind a node
abbrev pub macs_behind : List Node → List (List End) → ℕ → List (List ℕ)
macs_behind nodes links k = macs_by nodes links (position (begins_at k) links)

-- ---- what is heard, and known

-- how many copies wait is the link's capacity at most
abbrev pub has_room : ℕ → ℕ → Heard → Bool
has_room capacity s heard = nat_lt (count_by (λ w. w == s) heard.waits) capacity

abbrev pub table_at : List Proxies → ℕ → Proxies
table_at known k = unwrap_or (slice_get known k) no_proxies

-- a node hears an address at a moment, if it isn't its own
abbrev pub with_known : List Node → ℕ → ℕ → List ℕ → List Proxies → List Proxies
with_known nodes now k mac known =
    if is_own (slice_get nodes k) mac then known else slice_set known k (learned (table_at known k) (mac, max (table_at known k).last now))

-- a frame of a station waits on this interlink, and is heard at its end
abbrev pub heard_on : List Node → ℕ → List End → List ℕ → Heard → Heard
heard_on nodes now (e ∷ f ∷ []) mac heard = record { waits = heard.waits ++ f.node ∷ []; known = with_known nodes now e.node mac heard.known }
heard_on nodes now _ mac heard = heard

-- nothing waits any more
abbrev pub settled : Heard → Heard
settled heard = record heard { waits = [] }

-- a node knows an address that it heard, until that is forgotten
abbrev pub knows : ℕ → ℕ → List ℕ → Heard → Bool
knows now k mac heard = is_known (max (table_at heard.known k).last now) (table_at heard.known k).heard mac
