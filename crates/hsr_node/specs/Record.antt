-- A record of what a node did, the newest entry first: with each entry, what is below it is its past. The place of an
-- entry is the number of entries below it.
--     now          the effective moment
--     answer       what a past answers to an event
--     IsLegal      each outcome is what the past below it answers
--     notes        what was noted at one egress, never shortened
--     remembered   what is remembered of that
use Rattle.std.specs.Prelude.{ℕ, ◌+◌, ◌-◌, ◌%◌, ◌^◌, ◌≡◌, ◌==◌, ◌||◌, not, max, nat_lt, Bool, true, false, if◌then◌else◌, List, [], ◌∷◌, ◌++◌, length, take, filter, slice_get, unwrap_or, Option, Some, None, option_map, is_some, Result, Ok, Err}
use Rattle.std.specs.List.{list_any, cons_option}
use Rattle.hsr_frame.specs.Address.{is_among, is_group, is_same_address}
use Rattle.hsr_frame.specs.Cases.{first_of}
use Rattle.hsr_frame.specs.Egress.{Egress, up, a, b, c, d, cause_of, nowhere, to}
use Rattle.hsr_frame.specs.Grammar.{Fields}
use Rattle.hsr_frame.specs.Send.{send_refusal}
use Rattle.hsr_frame.specs.declared.egress.Exits.{Exits}
use Rattle.hsr_frame.specs.declared.egress.Wants.{Wants}
use Rattle.hsr_frame.specs.declared.fault.FrameFault.{FrameFault}
use Rattle.hsr_frame.specs.declared.fault.SendFault.{SendFault}
use Rattle.hsr_frame.specs.declared.node.Cause.TheVariants as cause
use Rattle.hsr_frame.specs.declared.node.Mode.{Mode}
use Rattle.hsr_frame.specs.declared.node.RingPort.{RingPort}
use Rattle.hsr_frame.specs.declared.node.RingPort.TheVariants as ring
use Rattle.hsr_tag.specs.Seen.{classified, is_told, payload_in}
use Rattle.hsr_tag.specs.declared.seen.Seen.{Seen}
use Rattle.hsr_tag.specs.declared.seen.Seen.TheVariants.{Plain, Tagged}
use Rattle.hsr_duptable.specs.Key.{Key, is_same_key}
use Rattle.hsr_duptable.specs.Notes.{entry_forget}
use Rattle.hsr_duptable.specs.declared.note.Note.{Note}
use Rattle.hsr_supervision.specs.Payload.{read_of}
use Rattle.hsr_tables.specs.Known.{known_within, latest_heard}
use Rattle.hsr_tables.specs.Nodes.{Hearing, hearing_if, rows_known}
use Rattle.hsr_tables.specs.declared.nodes.NodeRow.{NodeRow}
use Rattle.hsr_forwarding.specs.Arrival.{key_of}
use Rattle.hsr_forwarding.specs.Tables.{passes_by}
use Rattle.hsr_danh.specs.Wanted as of_danh
use Rattle.hsr_redbox.specs.Past.{source_in}
use Rattle.hsr_redbox.specs.Step.{life_refusal, number_of}
use Rattle.hsr_redbox.specs.Wanted as of_redbox
use Rattle.hsr_redbox.specs.Wanted.{numbered, unnumbered}
use Rattle.hsr_frame.specs.declared.node.About.{About}
use Rattle.hsr_frame.specs.declared.node.About.TheVariants.{Own}
use Rattle.hsr_redbox.specs.declared.call.BoxPort.{BoxPort}
use Rattle.hsr_redbox.specs.declared.call.BoxPort.TheVariants as box
use Rattle.hsr_redbox.specs.declared.call.LifeFault.{LifeFault}
use Rattle.hsr_redbox.specs.declared.wanted.Handling.{Handling}
use Rattle.hsr_quadbox.specs.Wanted as of_quadbox
use Rattle.hsr_node.specs.Copies.{address_at, ring_address}
use Rattle.hsr_node.specs.Step.{box_port, life_fault, quad_port, ring_port}
use Rattle.hsr_node.specs.Times.{Times, usual}
use Rattle.hsr_node.specs.declared.event.Event.{Event}
use Rattle.hsr_node.specs.declared.event.Event.TheVariants.{Send, Supervise, Arrive, Age}
use Rattle.hsr_node.specs.declared.event.Outcome.{Outcome}
use Rattle.hsr_node.specs.declared.event.Outcome.TheVariants.{Sent, Life, Judged, Aged}
use Rattle.hsr_node.specs.declared.event.Probe.{Probe}
use Rattle.hsr_node.specs.declared.event.StepFault.{StepFault}
use Rattle.hsr_node.specs.declared.event.StepFault.TheVariants.{WrongEvent, Spent}
use Rattle.hsr_node.specs.declared.event.StepFault.TheVariants as refused
use Rattle.hsr_node.specs.declared.entry.Entry.{Entry}
use Rattle.hsr_node.specs.declared.place.Place.{Place}
use Rattle.hsr_node.specs.declared.place.Place.TheVariants.{Danh, RedBox, QuadBox, Station}

-- whose record it is: the node's number, and where it stands
pub record Owner : Type 0 where
  pub number : ℕ
  pub place : Place

-- P of each entry and its past
abbrev pub Each : (Entry → List Entry → Type 0) → List Entry → Type 0
Each P [] = Unit {0}
Each P (x ∷ past) = P x past × Each P past

-- the greatest moment that was given
abbrev pub now : List Entry → ℕ
now [] = 0
now (x ∷ past) = max (now past) x.at

abbrev pub count_of : (Entry → Bool) → List Entry → ℕ
count_of p [] = 0
count_of p (x ∷ past) = if p x then count_of p past + 1 else count_of p past

abbrev pub sum_of : (Entry → ℕ) → List Entry → ℕ
sum_of f [] = 0
sum_of f (x ∷ past) = sum_of f past + f x

-- ---- what an outcome tells

abbrev pub is_aged : Outcome → Bool
is_aged Aged = true
is_aged _ = false

-- the number that a frame got
abbrev pub number_in : Outcome → Option ℕ
number_in (Sent seq ports) = seq
number_in (Life seq life ports) = Some seq
number_in (Judged up_too ports seq cause) = seq
number_in Aged = None

abbrev pub is_life : Outcome → Bool
is_life (Life seq life ports) = true
is_life _ = false

abbrev pub is_sent : Outcome → Bool
is_sent (Sent seq ports) = true
is_sent _ = false

abbrev pub has_port : List Bool → ℕ → Bool
has_port ports number = unwrap_or (slice_get ports number) false

-- whether a frame left by these ports, or went up
abbrev pub has_left : Bool → List Bool → Egress → Bool
has_left up_too ports up = up_too
has_left up_too ports a = has_port ports 0
has_left up_too ports b = has_port ports 1
has_left up_too ports c = has_port ports 2
has_left up_too ports d = has_port ports 3

abbrev pub leaves : Outcome → Egress → Bool
leaves (Sent seq ports) e = has_left false ports e
leaves (Life seq life ports) e = has_left false ports e
leaves (Judged up_too ports seq cause) e = has_left up_too ports e
leaves Aged e = false

-- ---- counts of steps and numbers

-- sends, supervisions and arrivals are steps
abbrev pub steps : List Entry → ℕ
steps past = count_of (λ x. not (is_aged x.outcome)) past

abbrev pub lives : List Entry → ℕ
lives past = count_of (λ x. is_life x.outcome) past

-- numbers begin at 0, and go up by one modulo 65536
abbrev pub next_number : List Entry → ℕ
next_number past = count_of (λ x. is_some (number_in x.outcome)) past % 65536

-- ---- notes

pub record Noted : Type 0 where
  pub key : Key
  pub moment : ℕ
  -- the send that the frame is of
  pub probe : Option Probe

-- the source and number of what came, with the number that it got where it had none
abbrev pub key_in : Result Seen FrameFault → Option ℕ → Option Key
key_in (Err fault) seq = None
key_in (Ok (Plain frame)) seq = option_map (λ n. record { src = frame.src; seq = n }) seq
key_in (Ok (Tagged frame)) seq = Some (key_of frame)

abbrev pub own_key : Option (List ℕ) → Option ℕ → Option Key
own_key None seq = None
own_key (Some src) seq = option_map (λ n. record { src = src; seq = n }) seq

-- the source and number of the frame that an entry handles, where it has a number
abbrev pub key_handled : Place → Event → Outcome → Option Key
key_handled place (Arrive port copy) (Judged up_too ports seq cause) = key_in (classified copy.octets) seq
key_handled place event outcome = own_key (ring_address place) (number_in outcome)

-- the send that an entry's frame is of
abbrev pub probe_handled : Probe → Event → Option Probe
probe_handled here (Arrive port copy) = copy.probe
probe_handled here event = Some here

-- where a frame is noted that came and went on: where it left, and on the interlink too if it came from there and got a number
abbrev pub noted_on : Bool → List Bool → Option ℕ → Egress → Bool
noted_on up_too ports (Some seq) c = true
noted_on up_too ports seq e = has_left up_too ports e

abbrev pub is_noted : Outcome → Egress → Bool
is_noted (Judged up_too ports seq cause) e = noted_on up_too ports seq e
is_noted outcome e = leaves outcome e

abbrev pub note_if : Bool → Option Key → ℕ → Option Probe → Option Noted
note_if noted None moment probe = None
note_if noted (Some key) moment probe = if noted then Some (record { key = key; moment = moment; probe = probe }) else None

abbrev pub note_of : Owner → Egress → Entry → List Entry → Option Noted
note_of owner e x past =
    note_if (is_noted x.outcome e) (key_handled owner.place x.event x.outcome) (now (x ∷ past)) (probe_handled (record { node = owner.number; place = length past }) x.event)

-- the notes of an egress, the newest first
abbrev pub notes : Owner → Egress → List Entry → List Noted
notes owner e [] = []
notes owner e (x ∷ past) = cons_option (note_of owner e x past) (notes owner e past)

-- notes as a table has them, the oldest first
abbrev pub oldest_first : List Noted → List Note
oldest_first [] = []
oldest_first (n ∷ ns) = oldest_first ns ++ record { key = n.key; moment = n.moment } ∷ []

-- of all notes the youngest, as many as a table has entries, and of these the ones younger than `forget`
abbrev pub remembered_within : ℕ → ℕ → ℕ → List Noted → List Noted
remembered_within forget capacity at noted = filter (λ n. nat_lt (at - n.moment) forget) (take capacity noted)

-- the ones younger than 400 milliseconds
abbrev pub remembered : ℕ → ℕ → List Noted → List Noted
remembered capacity at noted = remembered_within entry_forget capacity at noted

abbrev pub has_key : Key → List Noted → Bool
has_key key noted = list_any (λ n. is_same_key n.key key) noted

abbrev pub remembers_by : Times → ℕ → Owner → List Entry → ℕ → Key → Egress → Bool
remembers_by times capacity owner past at key e = has_key key (remembered_within times.entry capacity at (notes owner e past))

abbrev pub remembers : ℕ → Owner → List Entry → ℕ → Key → Egress → Bool
remembers = remembers_by usual

-- ---- the addresses that a RedBox knows on its interlink

abbrev pub source_at : Option BoxPort → List ℕ → ℕ → Result Seen FrameFault → List (List ℕ × ℕ)
source_at (Some box.I) own at seen = source_in own at seen
source_at _ own at seen = []

-- a RedBox hears the source of each plain frame on its interlink that isn't its own address
abbrev pub heard_from : Place → ℕ → Event → List (List ℕ × ℕ)
heard_from (RedBox mac mode) at (Arrive port copy) = source_at (box_port port) mac at (classified copy.octets)
heard_from place at event = []

-- all that was heard, the latest first, with its moment
abbrev pub heard : Place → List Entry → List (List ℕ × ℕ)
heard place [] = []
heard place (x ∷ past) = heard_from place (now (x ∷ past)) x.event ++ heard place past

-- an address is known where it is among the `row_limit` heard latest, and was heard less than its forget time ago; what comes now is
-- heard before it is decided
abbrev pub knows_by : Times → Place → List Entry → ℕ → Event → List ℕ → Bool
knows_by times place past at event mac =
    list_any (λ h. is_same_address h.0 mac) (known_within times.node at (latest_heard (λ h. h.0) (heard_from place at event ++ heard place past)))

abbrev pub knows : Place → List Entry → ℕ → Event → List ℕ → Bool
knows = knows_by usual

-- ---- the nodes that were heard on the ring

abbrev pub ring_of : Option BoxPort → Option RingPort
ring_of (Some box.A) = Some ring.A
ring_of (Some box.B) = Some ring.B
ring_of _ = None

-- the ring port that a port is, of a node that hears supervision frames
abbrev pub hears_on : Place → ℕ → Option RingPort
hears_on (Danh mac mode) port = ring_port port
hears_on (RedBox mac mode) port = ring_of (box_port port)
hears_on _ port = None

abbrev pub hearing_by : Option (List ℕ) → Option RingPort → ℕ → Result Seen FrameFault → List Hearing
hearing_by (Some own) (Some x) at seen = if is_told own seen then hearing_if x at (read_of (payload_in seen)) else []
hearing_by own x at seen = []

-- a node hears each readable tagged supervision frame of another on a ring port
abbrev pub hearings_from : Place → ℕ → Event → List Hearing
hearings_from place at (Arrive port copy) = hearing_by (ring_address place) (hears_on place port) at (classified copy.octets)
hearings_from place at event = []

-- all that was heard, the latest first
abbrev pub hearings : Place → List Entry → List Hearing
hearings place [] = []
hearings place (x ∷ past) = hearings_from place (now (x ∷ past)) x.event ++ hearings place past

-- the rows of the nodes that are known at a moment
abbrev pub rows : Place → List Entry → ℕ → List NodeRow
rows place past at = rows_known (hearings place past) at

-- ---- what is wanted

-- a station takes each plain frame for one of its addresses or for a group, but none of its own
abbrev pub station_plain : List (List ℕ) → Fields → Wants
station_plain macs frame = first_of
    ((is_among macs frame.src, nowhere cause.Returned)
    ∷ (is_among macs frame.dst || is_group frame.dst, to (up ∷ []))
    ∷ [])
    (to [])

abbrev pub station_wanted : List (List ℕ) → Result Seen FrameFault → Wants
station_wanted macs (Err fault) = nowhere (cause.Malformed fault)
station_wanted macs (Ok (Plain frame)) = station_plain macs frame
station_wanted macs (Ok (Tagged frame)) = nowhere cause.Tagged

-- what comes to a port of a RedBox
abbrev pub box_handling : List ℕ → Mode → (List ℕ → Bool) → BoxPort → Result Seen FrameFault → Handling
box_handling mac mode known box.A seen = unnumbered (of_redbox.wanted mac mode known ring.A seen)
box_handling mac mode known box.B seen = unnumbered (of_redbox.wanted mac mode known ring.B seen)
box_handling mac mode known box.I seen = of_redbox.handling_interlink mac known seen

-- where what comes to a port is wanted, and for whom it gets a number; nothing where there is no such port
abbrev pub handling : Place → (List ℕ → Bool) → ℕ → Result Seen FrameFault → Option Handling
handling (Danh mac mode) known port seen = option_map (λ x. unnumbered (of_danh.wanted mac mode x seen)) (ring_port port)
handling (RedBox mac mode) known port seen = option_map (λ x. box_handling mac mode known x seen) (box_port port)
handling QuadBox known port seen = option_map (λ x. unnumbered (of_quadbox.wanted x seen)) (quad_port port)
handling (Station macs) known port seen = if port == 0 then Some (unnumbered (station_wanted macs.items seen)) else None

-- where a frame of the node's own goes, and for whom it gets a number
abbrev pub sending : Place → (List ℕ → Bool) → List ℕ → ℕ → Handling
sending (Danh mac mode) known dst ethertype = numbered mac (to (a ∷ b ∷ []))
sending (RedBox mac mode) known dst ethertype = of_redbox.handling_send mac known dst ethertype
sending QuadBox known dst ethertype = unnumbered (to [])
sending (Station macs) known dst ethertype = unnumbered (to (a ∷ []))

-- ---- answers

-- a tagged frame passes where it is wanted and not remembered, all else where it is wanted
abbrev pub passing : (Key → Egress → Bool) → Exits → Result Seen FrameFault → Exits
passing is_held exits (Err fault) = exits
passing is_held exits (Ok (Plain frame)) = exits
passing is_held exits (Ok (Tagged frame)) = passes_by (is_held (key_of frame)) exits

abbrev pub ports : Exits → List Bool
ports exits = exits.a ∷ exits.b ∷ exits.c ∷ exits.d ∷ []

abbrev pub judged_as : Handling → Exits → ℕ → Outcome
judged_as h passes next = Judged passes.up (ports passes) (number_of h.source next) (cause_of h.wants passes)

abbrev pub sent_as : Handling → ℕ → Outcome
sent_as h next = Sent (number_of h.source next) (ports h.wants.exits)

abbrev pub sent_or_refused : Option SendFault → Outcome → Result Outcome StepFault
sent_or_refused (Some fault) outcome = Err (refused.Send fault)
sent_or_refused None outcome = Ok outcome

abbrev pub send_answer_by : Times → ℕ → Owner → List Entry → ℕ → Option (List ℕ) → List ℕ → ℕ → ℕ → Result Outcome StepFault
send_answer_by times capacity owner past at None dst ethertype len = Err WrongEvent
send_answer_by times capacity owner past at (Some src) dst ethertype len =
    sent_or_refused (send_refusal src (steps past) dst ethertype len)
    (sent_as (sending owner.place (knows_by times owner.place past at Age) dst ethertype) (next_number past))

abbrev pub send_answer : ℕ → Owner → List Entry → ℕ → Option (List ℕ) → List ℕ → ℕ → ℕ → Result Outcome StepFault
send_answer = send_answer_by usual

-- a supervision frame leaves by both ring ports, with the count of those before it
abbrev pub lived_or_refused : List Entry → Option LifeFault → Result Outcome StepFault
lived_or_refused past (Some fault) = Err (life_fault fault)
lived_or_refused past None = Ok (Life (next_number past) (lives past % 65536) (true ∷ true ∷ false ∷ false ∷ []))

abbrev pub life_answer_by : Times → Place → List Entry → ℕ → About → Result Outcome StepFault
life_answer_by times (Danh mac mode) past at Own = if steps past == 2 ^ 62 then Err Spent else lived_or_refused past None
life_answer_by times (RedBox mac mode) past at about =
    lived_or_refused past (life_refusal (knows_by times (RedBox mac mode) past at Age) (steps past) about)
life_answer_by times _ past at about = Err WrongEvent

abbrev pub life_answer : Place → List Entry → ℕ → About → Result Outcome StepFault
life_answer = life_answer_by usual

abbrev pub arrive_answer_by : Times → ℕ → Owner → List Entry → ℕ → Option Handling → Result Seen FrameFault → Result Outcome StepFault
arrive_answer_by times capacity owner past at None seen = Err WrongEvent
arrive_answer_by times capacity owner past at (Some h) seen =
    if steps past == 2 ^ 62 then Err Spent
    else Ok (judged_as h (passing (remembers_by times capacity owner past at) h.wants.exits seen) (next_number past))

abbrev pub arrive_answer : ℕ → Owner → List Entry → ℕ → Option Handling → Result Seen FrameFault → Result Outcome StepFault
arrive_answer = arrive_answer_by usual

-- the answer of a past to an event at an effective moment, where frames and addresses are forgotten after these times
abbrev pub answer_by : Times → ℕ → Owner → List Entry → ℕ → Event → Result Outcome StepFault
answer_by times capacity owner past at (Send from dst vlan ethertype payload) =
    send_answer_by times capacity owner past at (address_at owner.place from) dst ethertype (length payload)
answer_by times capacity owner past at (Supervise about) = life_answer_by times owner.place past at about
answer_by times capacity owner past at (Arrive port copy) =
    arrive_answer_by times capacity owner past at (handling owner.place (knows_by times owner.place past at (Arrive port copy)) port (classified copy.octets))
    (classified copy.octets)
answer_by times capacity owner past at Age = Ok Aged

-- the answer of a past to an event at an effective moment
abbrev pub answer : ℕ → Owner → List Entry → ℕ → Event → Result Outcome StepFault
answer = answer_by usual

-- Each outcome is what the past below it answers. A refused event has no outcome, so no legal record holds one.
abbrev pub IsLegalBy : Times → ℕ → Owner → List Entry → Type 0
IsLegalBy times capacity owner past = Each (λ x below. answer_by times capacity owner below (now (x ∷ below)) x.event ≡ Ok x.outcome) past

unfoldable pub IsLegal : ℕ → Owner → List Entry → Type 0
IsLegal capacity owner past = IsLegalBy usual capacity owner past
