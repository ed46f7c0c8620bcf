-- Which rows of a finished run are wanted.
--     checked     whether the run has the link and the send
--     is_wanted   a row is on the link, and its copy is of the send
use Rattle.std.specs.Prelude.{ℕ, ◌==◌, ◌&&◌, ◌||◌, nat_lt, Bool, true, false, length, slice_get, Option, Some, None, Result, Ok, Err, if◌then◌else◌}
use Rattle.hsr_node.specs.Record.{is_life, is_sent}
use Rattle.hsr_node.specs.declared.entry.Entry.{Entry}
use Rattle.hsr_node.specs.declared.event.Probe.{Probe}
use Rattle.hsr_link.specs.declared.row.Row.{Row}
use Rattle.hsr_run_laws.specs.Run.{Run, is_of, record_of, rows_of}
use Rattle.hsr_timeline.specs.declared.choice.Choice.{Choice}
use Rattle.hsr_timeline.specs.declared.choice.ChoiceFault.{ChoiceFault}
use Rattle.hsr_timeline.specs.declared.choice.ChoiceFault.TheVariants.{NoLink, NoSend}
use Rattle.hsr_timeline.specs.declared.shown.Shown.{Shown}

-- ---- what the run has

abbrev pub has_link : Run → Option ℕ → Bool
has_link run None = true
has_link run (Some link) = nat_lt link (length run.links)

-- an entry sent a frame, or a supervision frame
abbrev pub is_send_at : Option Entry → Bool
is_send_at None = false
is_send_at (Some x) = is_sent x.outcome || is_life x.outcome

abbrev pub has_send : Run → Option Probe → Bool
has_send run None = true
has_send run (Some send) = is_send_at (slice_get (record_of run send.node) send.place)

abbrev pub checked : Run → Choice → Result (Unit {0}) ChoiceFault
checked run choice = if has_link run choice.link then (if has_send run choice.send then Ok tt else Err NoSend) else Err NoLink

-- ---- which rows

abbrev pub is_on : Option ℕ → ℕ → Bool
is_on None link = true
is_on (Some wanted) link = link == wanted

abbrev pub is_copy_of : Option Probe → Option Row → Bool
is_copy_of None row = true
is_copy_of (Some send) None = false
is_copy_of (Some send) (Some row) = is_of send row.carried.probe

abbrev pub is_wanted : Run → Choice → Shown → Bool
is_wanted run choice shown = is_on choice.link shown.link && is_copy_of choice.send (slice_get (rows_of run shown.link) shown.number)
