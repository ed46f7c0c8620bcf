-- The copies that come to a node and leave it, as its record tells them.
use Rattle.std.specs.Prelude.{ℕ, ◌==◌, Bool, false, if◌then◌else◌, List, [], ◌∷◌, length, Option, Some, None, option_map}
use Rattle.std.specs.List.{cons_option}
use Rattle.hsr_frame.specs.Egress.{Egress, has_exit}
use Rattle.hsr_frame.specs.Grammar.{Fields}
use Rattle.hsr_frame.specs.declared.fault.FrameFault.{FrameFault}
use Rattle.hsr_tag.specs.declared.seen.Seen.{Seen}
use Rattle.hsr_redbox.specs.declared.wanted.Handling.{Handling}
use Rattle.std.specs.Prelude.{Result}
use Rattle.hsr_node.specs.Copies.{address_at, asked_frame, copy_octets, life_frame, ring_address}
use Rattle.hsr_node.specs.Record.{Owner, handling, probe_handled}
use Rattle.hsr_node.specs.declared.event.Carried.{Carried}
use Rattle.hsr_node.specs.declared.event.Event.{Event}
use Rattle.hsr_node.specs.declared.event.Event.TheVariants.{Send, Supervise, Arrive}
use Rattle.hsr_node.specs.declared.event.Outcome.{Outcome}
use Rattle.hsr_node.specs.declared.event.Outcome.TheVariants.{Sent, Life}
use Rattle.hsr_node.specs.declared.entry.Entry.{Entry}
use Rattle.hsr_node.specs.declared.place.Place.{Place}
use Rattle.hsr_node.specs.declared.sending.Sending.{Sending}

-- ---- arrivals

abbrev pub copy_at : ℕ → Event → Option Carried
copy_at port (Arrive x copy) = if x == port then Some copy else None
copy_at port event = None

-- the copies that came to a port, the newest first
abbrev pub arrivals : ℕ → List Entry → List Carried
arrivals port [] = []
arrivals port (x ∷ past) = cons_option (copy_at port x.event) (arrivals port past)

-- ---- passes

-- the copy that an entry on this past lets leave by a port
abbrev pub pass_of : Owner → ℕ → Entry → List Entry → Option Carried
pass_of owner port x past =
    option_map (λ octets. record { probe = probe_handled (record { node = owner.number; place = length past }) x.event; octets = octets })
    (copy_octets owner.place x.event x.outcome port)

-- the copies that left by a port, the newest first
abbrev pub passes : Owner → ℕ → List Entry → List Carried
passes owner port [] = []
passes owner port (x ∷ past) = cons_option (pass_of owner port x past) (passes owner port past)

-- ---- sends

abbrev pub sending_of : Option ℕ → Option Fields → Option Sending
sending_of seq frame = option_map (λ f. record { frame = f; seq = seq }) frame

-- what an entry sends, if it is one of the node's own
abbrev pub sent_by : Place → Event → Outcome → Option Sending
sent_by place (Send from dst vlan ethertype payload) (Sent seq ports) =
    sending_of seq (asked_frame (address_at place from) dst vlan ethertype payload)
sent_by place (Supervise about) (Life seq life ports) = sending_of (Some seq) (life_frame (ring_address place) about life)
sent_by place event outcome = None

-- the entry at a place of a record, if it is a send
abbrev pub send_at : Place → ℕ → List Entry → Option Sending
send_at place n [] = None
send_at place n (x ∷ past) = if n == length past then sent_by place x.event x.outcome else send_at place n past

-- ---- what an arrival wants

abbrev pub wanted_at : Option Handling → Egress → Bool
wanted_at None e = false
wanted_at (Some h) e = has_exit h.wants.exits e

-- whether what comes to a port is wanted at an egress
abbrev pub wants : Place → (List ℕ → Bool) → ℕ → Result Seen FrameFault → Egress → Bool
wants place known port seen e = wanted_at (handling place known port seen) e
