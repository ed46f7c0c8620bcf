-- How long sends took to a node of a finished run.
--     counts     which arrivals at a node are looked at: those that went up, or those of a send of which another copy went up
--     delays     of these, from send to arrival
--     greatest   the first than which none is greater: of equals that of the lowest send
use Rattle.std.specs.Prelude.{ℕ, ◌+◌, ◌-◌, ◌==◌, ◌&&◌, ◌||◌, nat_lt, not, Bool, if◌then◌else◌, List, [], ◌∷◌, ◌++◌, count_by, find, Option, Some, None}
use Rattle.std.specs.List.{list_all}
use Rattle.hsr_node.specs.declared.entry.Entry.{Entry}
use Rattle.hsr_node.specs.declared.event.Event.{Event}
use Rattle.hsr_node.specs.declared.event.Event.TheVariants.{Send, Supervise, Arrive, Age}
use Rattle.hsr_node.specs.declared.event.Probe.{Probe}
use Rattle.hsr_run_laws.specs.Budget.{moment_of}
use Rattle.hsr_run_laws.specs.Once.{delivers}
use Rattle.hsr_run_laws.specs.Run.{Run, record_of}
use Rattle.hsr_latency.specs.declared.delay.Arrivals.{Arrivals}
use Rattle.hsr_latency.specs.declared.delay.Arrivals.TheVariants.{Up, Second}
use Rattle.hsr_latency.specs.declared.delay.Delay.{Delay}

-- ---- arrivals

-- the send of a copy that came
abbrev pub send_in : Event → Option Probe
send_in (Send from dst vlan ethertype payload) = None
send_in (Supervise about) = None
send_in (Arrive port copy) = copy.probe
send_in Age = None

-- how many copies of a send went up with an entry: its own or none
abbrev pub own_times : Probe → Entry → ℕ
own_times send x = if delivers send x then 1 else 0

-- an arrival of a send went up; or more copies of the send went up in the record than this one
abbrev pub counts : Arrivals → List Entry → Entry → Probe → Bool
counts Up entries x send = delivers send x
counts Second entries x send = nat_lt (own_times send x) (count_by (delivers send) entries)

-- ---- delays

-- from send to arrival, by the effective moments of both; 0 where the arrival's is earlier
abbrev pub delay_at : Run → Probe → Probe → Delay
delay_at run here send = record { send = send; time = moment_of run here - moment_of run send }

abbrev pub delay_if : Arrivals → Run → Probe → Entry → Option Probe → List Delay
delay_if which run here x None = []
delay_if which run here x (Some send) = if counts which (record_of run here.node) x send then delay_at run here send ∷ [] else []

-- that of the entry at a place of a node's record, if it is an arrival that is looked at
unfoldable pub delay_of : Arrivals → Run → Probe → Entry → List Delay
delay_of which run here x = delay_if which run here x (send_in x.event)

-- those of a record's entries, from the i-th on
abbrev pub delays_from : Arrivals → Run → ℕ → ℕ → List Entry → List Delay
delays_from which run k i [] = []
delays_from which run k i (x ∷ xs) = delay_of which run (record { node = k; place = i }) x ++ delays_from which run k (i + 1) xs

abbrev pub delays : Arrivals → Run → ℕ → List Delay
delays which run k = delays_from which run k 0 (record_of run k)

-- ---- the greatest

abbrev pub is_lower : Probe → Probe → Bool
is_lower x y = nat_lt x.node y.node || (x.node == y.node && nat_lt x.place y.place)

abbrev pub is_greater : Delay → Delay → Bool
is_greater x y = nat_lt y.time x.time || (x.time == y.time && is_lower x.send y.send)

-- none of them is greater
abbrev pub is_greatest : List Delay → Delay → Bool
is_greatest ds delay = list_all (λ (other : Delay). not (is_greater other delay)) ds

abbrev pub greatest : List Delay → Option Delay
greatest ds = find (is_greatest ds) ds
