-- What an entry asks of the notes of its node, and what it adds to them.
--     heard_in     the stations that are known, with what an entry lets hear
--     wanted_from  where what comes from a ring is wanted
--     noted_in     where an entry is noted
--     Reading      all of it
use Rattle.std.specs.Prelude.{ℕ, max, Bool, if◌then◌else◌, List, [], ◌∷◌, fold, Option, Some, None, is_some, option_map, Result}
use Rattle.hsr_frame.specs.Egress.{up, a, b, c, d, no_exits}
use Rattle.hsr_frame.specs.declared.egress.Exits.{Exits}
use Rattle.hsr_frame.specs.declared.fault.FrameFault.{FrameFault}
use Rattle.hsr_tag.specs.Seen.{classified}
use Rattle.hsr_tag.specs.declared.seen.Seen.{Seen}
use Rattle.hsr_tables.specs.Proxies.{Proxies, is_known, learned, no_proxies}
use Rattle.hsr_redbox.specs.Wanted.{unnumbered}
use Rattle.hsr_redbox.specs.declared.wanted.Handling.{Handling}
use Rattle.hsr_quadbox.specs.Wanted.{wanted}
use Rattle.hsr_node.specs.Record.{handling, heard_from, is_noted, key_handled, now, probe_handled}
use Rattle.hsr_node.specs.Step.{quad_port}
use Rattle.hsr_node.specs.declared.entry.Entry.{Entry}
use Rattle.hsr_node.specs.declared.event.Event.{Event}
use Rattle.hsr_node.specs.declared.event.Event.TheVariants.{Arrive}
use Rattle.hsr_node.specs.declared.event.Outcome.{Outcome}
use Rattle.hsr_node.specs.declared.event.Probe.{Probe}
use Rattle.hsr_node.specs.declared.place.Place.{Place}
use Rattle.hsr_run_laws.specs.Premises.{is_on_ring}

-- ---- stations

-- the stations that are known, after an event at an effective moment
abbrev pub heard_in : Place → ℕ → Event → Proxies → Proxies
heard_in place at event stations = fold learned stations (heard_from place at event)

-- the stations that a record lets know
abbrev pub stations_of : Place → List Entry → Proxies
stations_of place [] = no_proxies
stations_of place (x ∷ past) = heard_in place (now (x ∷ past)) x.event (stations_of place past)

-- ---- where what comes is wanted

abbrev pub exits_of : Option Handling → Exits
exits_of None = no_exits
exits_of (Some h) = h.wants.exits

-- where what comes to a port is wanted, if that is on a ring
abbrev pub wanted_from : Place → (List ℕ → Bool) → ℕ → Result Seen FrameFault → Exits
wanted_from place known port seen = if is_on_ring place port then exits_of (handling place known port seen) else no_exits

-- where a QuadBox wants what came to a port
abbrev pub quadbox_exits : ℕ → Result Seen FrameFault → Exits
quadbox_exits port seen = exits_of (option_map (λ x. unnumbered (wanted x seen)) (quad_port port))

abbrev pub wanted_in : Place → (List ℕ → Bool) → Event → Exits
wanted_in place known (Arrive port copy) = wanted_from place known port (classified copy.octets)
wanted_in place known event = no_exits

-- ---- where it is noted

abbrev pub noted_at : Outcome → Exits
noted_at outcome = record { up = is_noted outcome up; a = is_noted outcome a; b = is_noted outcome b; c = is_noted outcome c; d = is_noted outcome d }

-- what has a number is noted
abbrev pub noted_in : Place → Event → Outcome → Exits
noted_in place event outcome = if is_some (key_handled place event outcome) then noted_at outcome else no_exits

-- ---- all of it

pub record Reading : Type 0 where
  pub wanted : Exits
  pub send : Option Probe
  pub noted : Exits

-- an entry that stands here, read at an effective moment by the stations that are known then
abbrev pub reading : Place → Proxies → ℕ → Probe → Entry → Reading
reading place stations at here x = record {
  wanted = wanted_in place (is_known at stations.heard) x.event;
  send = probe_handled here x.event;
  noted = noted_in place x.event x.outcome;
}

-- the same, by the moment and the stations of the node before it
abbrev pub read_after : ℕ → Proxies → Place → Probe → Entry → Reading
read_after moment stations place here x = let at = max moment x.at in reading place (heard_in place at x.event stations) at here x
