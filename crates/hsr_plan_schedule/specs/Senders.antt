-- Who sends, and to whom.
use Rattle.std.specs.Prelude.{ℕ, nat_lt, ◌==◌, ◌&&◌, ◌||◌, not, Bool, false, ⊤, List, [], ◌∷◌, ◌++◌, slice_get, position, Option, Some, None, option_map, Result, Ok, Err, ok_or, if◌then◌else◌}
use Rattle.std.specs.List.{list_any}
use Rattle.std.specs.Option.{option_or}
use Rattle.std.specs.Str.{bytes_eq}
use Rattle.hsr_frame.specs.Address.{is_group}
use Rattle.hsr_node.specs.declared.place.Place.{Place}
use Rattle.hsr_node.specs.declared.place.Place.TheVariants.{Danh, RedBox, QuadBox, Station}
use Rattle.hsr_toml.specs.Fallible.{◌>>=◌, guard}
use Rattle.hsr_plan_text.specs.declared.fault.Key.TheVariants as key
use Rattle.hsr_plan_text.specs.declared.fault.What.{What}
use Rattle.hsr_plan_text.specs.declared.fault.What.TheVariants.{Refused}
use Rattle.hsr_plan_text.specs.declared.fault.Refusal.{Refusal}
use Rattle.hsr_plan_text.specs.declared.fault.Refusal.TheVariants.{NoAddress, NoSuchName, Nobody, NotDue, ToItself}
use Rattle.hsr_plan_text.specs.declared.plan.Target.{Target}
use Rattle.hsr_plan_text.specs.declared.plan.Target.TheVariants.{Named, Address}
use Rattle.hsr_node.specs.Copies.{ring_address}
use Rattle.hsr_node.specs.Place.{owns}
use Rattle.hsr_plan_network.specs.Checks.{unless_held}
use Rattle.hsr_plan_network.specs.Names.{is_in, number}
use Rattle.hsr_plan_network.specs.Nodes.{Node}
use Rattle.hsr_plan_schedule.specs.declared.occasion.Sender.{Sender}

-- ---- names

-- the number of the node that has the name
abbrev pub named : List Node → List ℕ → Option ℕ
named nodes n = position (λ node. bytes_eq node.name n) nodes

abbrev pub station_mac : Place → ℕ → Option (List ℕ)
station_mac (Danh mac mode) j = None
station_mac (RedBox mac mode) j = None
station_mac QuadBox j = None
station_mac (Station macs) j = if nat_lt j 16 then slice_get macs.items j else None

abbrev pub sender_at : ℕ → ℕ → Option (List ℕ) → Option Sender
sender_at k from mac = option_map (λ m. record { node = k; from = from; mac = m }) mac

abbrev pub own_sender : ℕ → Option Node → Option Sender
own_sender k None = None
own_sender k (Some node) = sender_at k 0 (ring_address node.place)

abbrev pub as_node : List Node → Option ℕ → Option Sender
as_node nodes None = None
as_node nodes (Some k) = own_sender k (slice_get nodes k)

abbrev pub station_sender : ℕ → Option Node → List ℕ → Option Sender
station_sender k None n = None
station_sender k (Some node) n = sender_at k (number node.stations n) (station_mac node.place (number node.stations n))

abbrev pub as_station : List Node → Option ℕ → List ℕ → Option Sender
as_station nodes None n = None
as_station nodes (Some k) n = station_sender k (slice_get nodes k) n

-- a node of the name that has an address, or else the station of the name
abbrev pub sender : List Node → List ℕ → Option Sender
sender nodes n = option_or (as_node nodes (named nodes n)) (as_station nodes (position (λ node. is_in n node.stations) nodes) n)

-- nobody has the name, or a node has it that has no address: a QuadBox or a Station
abbrev pub nobody_if : Option ℕ → List ℕ → Refusal
nobody_if None n = NoSuchName n
nobody_if (Some k) n = NoAddress n

abbrev pub nobody : List Node → List ℕ → Refusal
nobody nodes n = nobody_if (named nodes n) n

-- ---- destinations

abbrev pub some_has : List Node → List ℕ → Bool
some_has nodes mac = list_any (λ node. owns node.place mac) nodes

-- a group's address, or one that some node has
abbrev pub is_somebody : List Node → List ℕ → Bool
is_somebody nodes mac = is_group mac || some_has nodes mac

abbrev pub target : List Node → Target → Result (List ℕ) What
target nodes (Named n) = ok_or (option_map (λ s. s.mac) (sender nodes n)) (Refused (nobody nodes n))
target nodes (Address mac) = if is_somebody nodes mac then Ok mac else Err (Refused (Nobody key.To))

abbrev pub is_own : Option Node → List ℕ → Bool
is_own None mac = false
is_own (Some node) mac = owns node.place mac

-- a sender of a name, which isn't itself the destination
abbrev pub source : List Node → List ℕ → List ℕ → Result Sender What
source nodes dst n = ok_or (sender nodes n) (Refused (nobody nodes n))
    >>= λ s. guard (not (is_own (slice_get nodes s.node) dst)) (Refused (ToItself n)) >>= λ _. Ok s

abbrev pub sources : List Node → List ℕ → List Sender → List (List ℕ) → Result (List Sender) What
sources nodes dst seen [] = Ok seen
sources nodes dst seen (n ∷ ns) = source nodes dst n >>= λ s. sources nodes dst (seen ++ s ∷ []) ns

-- ---- receivers

-- frames are due at an address: it is the destination, or that is a group's; and somebody else sends them
abbrev pub is_due_at : List Sender → List ℕ → Sender → Bool
is_due_at senders dst r = (is_group dst || bytes_eq r.mac dst) && list_any (λ s. not (s.node == r.node)) senders

-- a node or a station of the name, at which frames of these senders are due
unfoldable pub receives : List Node → List Sender → List ℕ → List ℕ → Result ⊤ What
receives nodes senders dst n = ok_or (sender nodes n) (Refused (nobody nodes n)) >>= λ r. unless_held (is_due_at senders dst r) (NotDue n)
