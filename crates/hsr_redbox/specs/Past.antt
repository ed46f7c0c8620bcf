-- The machine that keeps its whole past, and answers by filtering it.
use Rattle.std.specs.Prelude.{◌≡◌, ℕ, ◌+◌, ◌%◌, ◌==◌, max, Bool, true, false, List, [], ◌∷◌, ◌++◌, map, reverse, Option, Some, None, is_some, Result, Ok, Err}
use Rattle.std.specs.List.{list_any}
use Rattle.hsr_frame.specs.Counters.{bit, step_limit}
use Rattle.hsr_frame.specs.Address.{is_same_address}
use Rattle.hsr_frame.specs.Cause.{is_duplicate, is_returned, is_foreign, is_local, is_untagged, is_tagged, is_malformed}
use Rattle.hsr_frame.specs.Egress.{Egress, up, a, b, c, d, exits_of, with_exit, has_exit}
use Rattle.hsr_frame.specs.Send.{send_refusal}
use Rattle.hsr_frame.specs.declared.counters.Counters.{Counters}
use Rattle.hsr_frame.specs.declared.fault.FrameFault.{FrameFault}
use Rattle.hsr_frame.specs.declared.fault.SendFault.{SendFault}
use Rattle.hsr_frame.specs.declared.fault.Spent.{Spent}
use Rattle.hsr_frame.specs.declared.node.Life.{Life}
use Rattle.hsr_frame.specs.declared.node.Mode.{Mode}
use Rattle.hsr_frame.specs.declared.node.RingPort.{RingPort}
use Rattle.hsr_frame.specs.declared.node.RingPort.TheVariants as ring
use Rattle.hsr_tag.specs.Seen.{classified}
use Rattle.hsr_tag.specs.declared.seen.Seen.{Seen}
use Rattle.hsr_duptable.specs.Notes.{note_if}
use Rattle.hsr_duptable.specs.declared.note.Note.{Note}
use Rattle.hsr_tables.specs.Known.{known, latest_heard}
use Rattle.hsr_tables.specs.Nodes.{Hearing, rows_known}
use Rattle.hsr_tables.specs.declared.nodes.NodeRow.{NodeRow}
use Rattle.hsr_redbox.specs.Machine.{Machine, new_machine}
use Rattle.hsr_forwarding.specs.Past.{answers_of, hearing_in, is_bad_life, left_by, note_of, passes_from}
pub use Rattle.hsr_forwarding.specs.Arrival.{source_in}
use Rattle.hsr_forwarding.specs.Past as of_role
pub use Rattle.hsr_forwarding.specs.Past.{count_of, moment_of, sum_of}
use Rattle.hsr_forwarding.specs.Numbers.{number_range}
use Rattle.hsr_forwarding.specs.Tables.{judged_as}
use Rattle.hsr_redbox.specs.Step.{age_step, arrive_step, life_refusal, life_step, number_of, send_step, sent_of, verdict_of}
use Rattle.hsr_redbox.specs.Wanted.{handling_interlink, handling_send, interlink, wanted}
use Rattle.hsr_redbox.specs.declared.wanted.Handling.{Handling}
use Rattle.hsr_frame.specs.declared.node.About.{About}
use Rattle.hsr_redbox.specs.declared.call.BoxPort.{BoxPort}
use Rattle.hsr_redbox.specs.declared.call.BoxPort.TheVariants.{A, B, I}
use Rattle.hsr_redbox.specs.declared.call.BoxSent.{BoxSent}
use Rattle.hsr_redbox.specs.declared.call.BoxVerdict.{BoxVerdict}
use Rattle.hsr_redbox.specs.declared.call.LifeFault.{LifeFault}

-- ---- calls and answers

pub data Call : Type 0 where
  sending : (at : ℕ) → (dst : List ℕ) → (ethertype len : ℕ) → Call
  supervising : (at : ℕ) → (about : About) → Call
  arriving : (at : ℕ) → (port : BoxPort) → (octets : List ℕ) → Call
  ageing : (at : ℕ) → Call

pub data Answer : Type 0 where
  sent : Result BoxSent SendFault → Answer
  lived : Result Life LifeFault → Answer
  judged : Result BoxVerdict Spent → Answer
  aged : Answer

-- the stepping machine
abbrev pub step : ℕ → Machine → Call → Answer × Machine
step capacity machine (sending at dst ethertype len) = let s = send_step capacity machine at dst ethertype len in (sent s.0, s.1)
step capacity machine (supervising at about) = let s = life_step capacity machine at about in (lived s.0, s.1)
step capacity machine (arriving at port octets) = let s = arrive_step capacity machine at port octets in (judged s.0, s.1)
step capacity machine (ageing at) = (aged, age_step machine at)

-- ---- the past: all that was done, the latest first, each at its effective moment; a refusal does nothing. What passed
-- without a look has how it was handled beside it, and the number that was next then.

pub data Did : Type 0 where
  sent_frame : (handling : Handling) → (seq : ℕ) → Did
  sent_life : (seq : ℕ) → Did
  judged_ring : (x : RingPort) → (seen : Result Seen FrameFault) → (verdict : BoxVerdict) → Did
  judged_interlink : (seen : Result Seen FrameFault) → (handling : Handling) → (seq : ℕ) → Did
  gave_up : Did

abbrev pub Deed : Type 0
Deed = of_role.Deed Did

abbrev pub is_step : Did → Bool
is_step gave_up = false
is_step _ = true

abbrev pub is_sent : Did → Bool
is_sent (sent_frame handling seq) = true
is_sent _ = false

abbrev pub is_life : Did → Bool
is_life (sent_life seq) = true
is_life _ = false

abbrev pub is_numbered : Did → Bool
is_numbered (sent_frame handling seq) = is_some handling.source
is_numbered (sent_life seq) = true
is_numbered (judged_ring x seen verdict) = false
is_numbered (judged_interlink seen handling seq) = is_some handling.source
is_numbered gave_up = false

-- the number of the next frame
abbrev pub number_after : List Deed → ℕ
number_after past = count_of is_numbered past % number_range

-- ---- the log of an egress: a note for each numbered frame that it passed or that was marked there, the oldest first, never shortened

abbrev pub passed : BoxVerdict → Egress → Bool
passed verdict up = verdict.up
passed verdict a = verdict.a
passed verdict b = verdict.b
passed verdict c = verdict.interlink
passed verdict d = false

-- a frame that got a number for its source, or none
abbrev pub mark_if : Option (List ℕ) → ℕ → Bool → ℕ → List Note
mark_if None seq noted now = []
mark_if (Some src) seq noted now = note_if noted (record { src = src; seq = seq }) now

abbrev pub noted_by : List ℕ → Egress → ℕ → Did → List Note
noted_by own egress now (sent_frame handling seq) = mark_if handling.source seq (has_exit handling.wants.exits egress) now
noted_by own egress now (sent_life seq) = mark_if (Some own) seq (has_exit (exits_of (a ∷ b ∷ [])) egress) now
noted_by own egress now (judged_ring x seen verdict) = note_of seen (passed verdict egress) now
noted_by own egress now (judged_interlink seen handling seq) = mark_if handling.source seq (has_exit (with_exit interlink handling.wants.exits) egress) now
noted_by own egress now gave_up = []

abbrev pub log_of : List ℕ → Egress → List Deed → List Note
log_of own egress = left_by (noted_by own egress)

-- ---- hearings on the ring: readable tagged supervision frames of other nodes, the earliest first

abbrev pub heard_by : List ℕ → ℕ → Did → List Hearing
heard_by own now (judged_ring x seen verdict) = hearing_in own x now seen
heard_by own now _ = []

abbrev pub hearings_of : List ℕ → List Deed → List Hearing
hearings_of own = left_by (heard_by own)

abbrev pub is_unreadable : List ℕ → Did → Bool
is_unreadable own (judged_ring x seen verdict) = is_bad_life own seen
is_unreadable own _ = false

-- the rows of the nodes that are known at a moment
abbrev pub rows_of : List ℕ → List Deed → ℕ → List NodeRow
rows_of own past at = rows_known (reverse (hearings_of own past)) at

-- ---- hearings on the interlink: the sources of plain frames but the own address, with their moments, the earliest first

abbrev pub source_by : List ℕ → ℕ → Did → List (List ℕ × ℕ)
source_by own now (judged_interlink seen handling seq) = source_in own now seen
source_by own now _ = []

abbrev pub sources_of : List ℕ → List Deed → List (List ℕ × ℕ)
sources_of own = left_by (source_by own)

-- the addresses that are known at a moment, of the `row_limit` heard latest, the latest first
abbrev pub known_among : List (List ℕ × ℕ) → ℕ → List (List ℕ × ℕ)
known_among sources at = known at (latest_heard (λ h. h.0) (reverse sources))

abbrev pub knows_among : List (List ℕ × ℕ) → ℕ → List ℕ → Bool
knows_among sources at mac = list_any (λ h. is_same_address h.0 mac) (known_among sources at)

-- ---- counters: how often each thing was done

-- the verdict on a frame that passes wherever it is wanted
abbrev pub linked : Handling → ℕ → BoxVerdict
linked handling seq = verdict_of (judged_as handling.wants handling.wants.exits) (number_of handling.source seq)

abbrev pub has : (BoxVerdict → Bool) → Did → Bool
has p (judged_ring x seen verdict) = p verdict
has p (judged_interlink seen handling seq) = p (linked handling seq)
has p _ = false

-- how many ports passed an arrival
abbrev pub copies_of : BoxVerdict → ℕ
copies_of verdict = bit verdict.a + bit verdict.b + bit verdict.interlink

abbrev pub copies : Did → ℕ
copies (judged_ring x seen verdict) = copies_of verdict
copies (judged_interlink seen handling seq) = copies_of (linked handling seq)
copies _ = 0

abbrev pub counters_of : List ℕ → List Deed → Counters
counters_of own past = record {
  sent = count_of is_sent past;
  life = count_of is_life past;
  up = count_of (has (λ v. v.up)) past;
  forwarded = sum_of copies past;
  duplicate = count_of (has (λ v. is_duplicate v.cause)) past;
  returned = count_of (has (λ v. is_returned v.cause)) past;
  foreign = count_of (has (λ v. is_foreign v.cause)) past;
  local = count_of (has (λ v. is_local v.cause)) past;
  untagged = count_of (has (λ v. is_untagged v.cause)) past;
  tagged = count_of (has (λ v. is_tagged v.cause)) past;
  malformed = count_of (has (λ v. is_malformed v.cause)) past;
  bad_life = count_of (is_unreadable own) past;
}

-- ---- the answer that a past gives to a call, and the past after it

abbrev pub now_after : List Deed → ℕ → ℕ
now_after past at = max (moment_of past) at

abbrev pub done : List Deed → ℕ → Did → List Deed
done past now did = record { now = now; did = did } ∷ past

abbrev pub send_from : List Deed → ℕ → Handling → Option SendFault → Answer × List Deed
send_from past now handling (Some fault) = (sent (Err fault), past)
send_from past now handling None = (sent (Ok (sent_of handling (number_after past))), done past now (sent_frame handling (number_after past)))

abbrev pub life_from : List Deed → ℕ → Option LifeFault → Answer × List Deed
life_from past now (Some fault) = (lived (Err fault), past)
life_from past now None =
    (lived (Ok (record { seq = number_after past; life = count_of is_life past % number_range })), done past now (sent_life (number_after past)))

-- a tagged frame of the ring passes where it is wanted and not remembered
abbrev pub ring_from : ℕ → List ℕ → Mode → List Deed → ℕ → RingPort → Result Seen FrameFault → BoxVerdict × List Deed
ring_from capacity own mode past now x seen =
    let wants = wanted own mode (knows_among (sources_of own past) now) x seen in
    let verdict = verdict_of (judged_as wants (passes_from capacity (λ egress. log_of own egress past) wants.exits seen now)) None in
    (verdict, done past now (judged_ring x seen verdict))

-- a frame of the interlink passes wherever it is wanted, by what is known once its own source is heard
abbrev pub interlink_from : List ℕ → List Deed → ℕ → Result Seen FrameFault → BoxVerdict × List Deed
interlink_from own past now seen =
    let handling = handling_interlink own (knows_among (sources_of own past ++ source_in own now seen) now) seen in
    (linked handling (number_after past), done past now (judged_interlink seen handling (number_after past)))

abbrev pub port_from : ℕ → List ℕ → Mode → List Deed → ℕ → BoxPort → Result Seen FrameFault → BoxVerdict × List Deed
port_from capacity own mode past now A seen = ring_from capacity own mode past now ring.A seen
port_from capacity own mode past now B seen = ring_from capacity own mode past now ring.B seen
port_from capacity own mode past now I seen = interlink_from own past now seen

abbrev pub arrive_from : ℕ → List ℕ → Mode → List Deed → ℕ → BoxPort → Result Seen FrameFault → Bool → Answer × List Deed
arrive_from capacity own mode past now port seen true = (judged (Err (record {})), past)
arrive_from capacity own mode past now port seen false =
    let after = port_from capacity own mode past now port seen in (judged (Ok after.0), after.1)

abbrev pub past_step : ℕ → List ℕ → Mode → List Deed → Call → Answer × List Deed
past_step capacity own mode past (sending at dst ethertype len) =
    let now = now_after past at in
    send_from past now (handling_send own (knows_among (sources_of own past) now) dst ethertype) (send_refusal own (count_of is_step past) dst ethertype len)
past_step capacity own mode past (supervising at about) =
    let now = now_after past at in
    life_from past now (life_refusal (knows_among (sources_of own past) now) (count_of is_step past) about)
past_step capacity own mode past (arriving at port octets) =
    arrive_from capacity own mode past (now_after past at) port (classified octets) (count_of is_step past == step_limit)
past_step capacity own mode past (ageing at) = (aged, done past (now_after past at) gave_up)

-- After any calls the RedBox has answered as its whole past does, and its counters, the nodes and the addresses that it knows are
-- those of its past.
abbrev pub AnswersAsPast : ℕ → Type 0
AnswersAsPast capacity =
    (own : List ℕ) (mode : Mode) (calls : List Call) →
    let machine = answers_of (step capacity) (new_machine own mode) calls in
    let past = answers_of (past_step capacity own mode) [] calls in
    (machine.0 ≡ past.0)
    × (machine.1.counters ≡ counters_of own past.1)
    × ((at : ℕ) → map (λ r. r.0) (known at machine.1.nodes.rows) ≡ rows_of own past.1 at)
    × ((at : ℕ) → known at machine.1.proxies.heard ≡ known_among (sources_of own past.1) at)
