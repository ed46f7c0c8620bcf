-- The machine that keeps its whole past, and answers by filtering it.
use Rattle.std.specs.Prelude.{◌≡◌, ℕ, ◌+◌, ◌%◌, ◌==◌, max, Bool, true, false, List, [], ◌∷◌, map, reverse, Option, Some, None, Result, Ok, Err}
use Rattle.hsr_frame.specs.Counters.{step_limit}
use Rattle.hsr_frame.specs.Cause.{is_duplicate, is_returned, is_foreign, is_local, is_untagged, is_tagged, is_malformed}
use Rattle.hsr_frame.specs.Egress.{Egress, up, a, b, c, d, exits_of, has_exit}
use Rattle.hsr_frame.specs.Send.{send_refusal}
use Rattle.hsr_frame.specs.declared.counters.Counters.{Counters}
use Rattle.hsr_frame.specs.declared.fault.FrameFault.{FrameFault}
use Rattle.hsr_frame.specs.declared.fault.SendFault.{SendFault}
use Rattle.hsr_frame.specs.declared.fault.Spent.{Spent}
use Rattle.hsr_frame.specs.declared.node.Life.{Life}
use Rattle.hsr_frame.specs.declared.node.Mode.{Mode}
use Rattle.hsr_frame.specs.declared.node.RingPort.{RingPort}
use Rattle.hsr_tag.specs.Seen.{classified}
use Rattle.hsr_tag.specs.declared.seen.Seen.{Seen}
use Rattle.hsr_duptable.specs.Notes.{note_if}
use Rattle.hsr_duptable.specs.declared.note.Note.{Note}
use Rattle.hsr_tables.specs.Known.{known}
use Rattle.hsr_tables.specs.Nodes.{Hearing, rows_known}
use Rattle.hsr_tables.specs.declared.nodes.NodeRow.{NodeRow}
use Rattle.hsr_danh.specs.Machine.{Machine, new_machine}
use Rattle.hsr_forwarding.specs.Past.{answers_of, hearing_in, is_bad_life, left_by, note_of, passes_from}
use Rattle.hsr_forwarding.specs.Past as of_role
pub use Rattle.hsr_forwarding.specs.Past.{count_of, moment_of}
use Rattle.hsr_forwarding.specs.Numbers.{number_range}
use Rattle.hsr_forwarding.specs.Tables.{judged_as}
use Rattle.hsr_danh.specs.Step.{age_step, arrive_step, life_step, send_step, verdict_of}
use Rattle.hsr_danh.specs.Wanted.{wanted}
use Rattle.hsr_danh.specs.declared.danh.Sent.{Sent}
use Rattle.hsr_danh.specs.declared.danh.Verdict.{Verdict}

-- ---- calls and answers

pub data Call : Type 0 where
  sending : (at : ℕ) → (dst : List ℕ) → (ethertype len : ℕ) → Call
  supervising : (at : ℕ) → Call
  arriving : (at : ℕ) → (x : RingPort) → (octets : List ℕ) → Call
  ageing : (at : ℕ) → Call

pub data Answer : Type 0 where
  sent : Result Sent SendFault → Answer
  lived : Result Life Spent → Answer
  judged : Result Verdict Spent → Answer
  aged : Answer

-- the stepping machine
abbrev pub step : ℕ → Machine → Call → Answer × Machine
step capacity machine (sending at dst ethertype len) = let s = send_step capacity machine at dst ethertype len in (sent s.0, s.1)
step capacity machine (supervising at) = let s = life_step capacity machine at in (lived s.0, s.1)
step capacity machine (arriving at x octets) = let s = arrive_step capacity machine at x octets in (judged s.0, s.1)
step capacity machine (ageing at) = (aged, age_step machine at)

-- ---- the past: all that was done, the latest first, each at its effective moment; a refusal does nothing

pub data Did : Type 0 where
  sent_frame : (seq : ℕ) → Did
  sent_life : (seq : ℕ) → Did
  judged_frame : (x : RingPort) → (seen : Result Seen FrameFault) → (verdict : Verdict) → Did
  gave_up : Did

abbrev pub Deed : Type 0
Deed = of_role.Deed Did

abbrev pub is_step : Did → Bool
is_step gave_up = false
is_step _ = true

abbrev pub is_sent : Did → Bool
is_sent (sent_frame seq) = true
is_sent _ = false

abbrev pub is_life : Did → Bool
is_life (sent_life seq) = true
is_life _ = false

abbrev pub is_numbered : Did → Bool
is_numbered (sent_frame seq) = true
is_numbered (sent_life seq) = true
is_numbered _ = false

-- the number of the next frame
abbrev pub number_after : List Deed → ℕ
number_after past = count_of is_numbered past % number_range

-- ---- the log of an egress: a note for each numbered frame that it passed, the oldest first, never shortened

abbrev pub passed : Verdict → Egress → Bool
passed verdict up = verdict.up
passed verdict a = verdict.a
passed verdict b = verdict.b
passed verdict c = false
passed verdict d = false

abbrev pub noted_by : List ℕ → Egress → ℕ → Did → List Note
noted_by own egress now (sent_frame seq) = note_if (has_exit (exits_of (a ∷ b ∷ [])) egress) (record { src = own; seq = seq }) now
noted_by own egress now (sent_life seq) = note_if (has_exit (exits_of (a ∷ b ∷ [])) egress) (record { src = own; seq = seq }) now
noted_by own egress now (judged_frame x seen verdict) = note_of seen (passed verdict egress) now
noted_by own egress now gave_up = []

abbrev pub log_of : List ℕ → Egress → List Deed → List Note
log_of own egress = left_by (noted_by own egress)

-- ---- hearings: readable tagged supervision frames of other nodes, the earliest first

abbrev pub heard_by : List ℕ → ℕ → Did → List Hearing
heard_by own now (judged_frame x seen verdict) = hearing_in own x now seen
heard_by own now _ = []

abbrev pub hearings_of : List ℕ → List Deed → List Hearing
hearings_of own = left_by (heard_by own)

abbrev pub is_unreadable : List ℕ → Did → Bool
is_unreadable own (judged_frame x seen verdict) = is_bad_life own seen
is_unreadable own _ = false

-- the rows of the nodes that are known at a moment
abbrev pub rows_of : List ℕ → List Deed → ℕ → List NodeRow
rows_of own past at = rows_known (reverse (hearings_of own past)) at

-- ---- counters: how often each thing was done

abbrev pub has : (Verdict → Bool) → Did → Bool
has p (judged_frame x seen verdict) = p verdict
has p _ = false

abbrev pub counters_of : List ℕ → List Deed → Counters
counters_of own past = record {
  sent = count_of is_sent past;
  life = count_of is_life past;
  up = count_of (has (λ v. v.up)) past;
  forwarded = count_of (has (λ v. v.a)) past + count_of (has (λ v. v.b)) past;
  duplicate = count_of (has (λ v. is_duplicate v.cause)) past;
  returned = count_of (has (λ v. is_returned v.cause)) past;
  foreign = count_of (has (λ v. is_foreign v.cause)) past;
  local = count_of (has (λ v. is_local v.cause)) past;
  untagged = count_of (has (λ v. is_untagged v.cause)) past;
  tagged = count_of (has (λ v. is_tagged v.cause)) past;
  malformed = count_of (has (λ v. is_malformed v.cause)) past;
  bad_life = count_of (is_unreadable own) past;
}

-- ---- the answer that a past gives to a call, and the past after it

abbrev pub done : List Deed → ℕ → Did → List Deed
done past at did = record { now = max (moment_of past) at; did = did } ∷ past

abbrev pub send_from : List Deed → ℕ → Option SendFault → Answer × List Deed
send_from past at (Some fault) = (sent (Err fault), past)
send_from past at None = (sent (Ok (record { seq = number_after past })), done past at (sent_frame (number_after past)))

abbrev pub life_from : List Deed → ℕ → Bool → Answer × List Deed
life_from past at true = (lived (Err (record {})), past)
life_from past at false =
    (lived (Ok (record { seq = number_after past; life = count_of is_life past % number_range })), done past at (sent_life (number_after past)))

-- a tagged frame passes where it is wanted and not remembered
abbrev pub verdict_from : ℕ → List ℕ → Mode → List Deed → ℕ → RingPort → Result Seen FrameFault → Verdict
verdict_from capacity own mode past now x seen =
    let wants = wanted own mode x seen in verdict_of (judged_as wants (passes_from capacity (λ egress. log_of own egress past) wants.exits seen now))

abbrev pub arrive_from : ℕ → List ℕ → Mode → List Deed → ℕ → RingPort → Result Seen FrameFault → Bool → Answer × List Deed
arrive_from capacity own mode past at x seen true = (judged (Err (record {})), past)
arrive_from capacity own mode past at x seen false =
    let verdict = verdict_from capacity own mode past (max (moment_of past) at) x seen in
    (judged (Ok verdict), done past at (judged_frame x seen verdict))

abbrev pub past_step : ℕ → List ℕ → Mode → List Deed → Call → Answer × List Deed
past_step capacity own mode past (sending at dst ethertype len) =
    send_from past at (send_refusal own (count_of is_step past) dst ethertype len)
past_step capacity own mode past (supervising at) = life_from past at (count_of is_step past == step_limit)
past_step capacity own mode past (arriving at x octets) = arrive_from capacity own mode past at x (classified octets) (count_of is_step past == step_limit)
past_step capacity own mode past (ageing at) = (aged, done past at gave_up)

-- After any calls the node has answered as its whole past does, and its counters and the nodes that it knows are those of its past.
abbrev pub AnswersAsPast : ℕ → Type 0
AnswersAsPast capacity =
    (own : List ℕ) (mode : Mode) (calls : List Call) →
    let machine = answers_of (step capacity) (new_machine own mode) calls in
    let past = answers_of (past_step capacity own mode) [] calls in
    (machine.0 ≡ past.0)
    × (machine.1.counters ≡ counters_of own past.1)
    × ((at : ℕ) → map (λ r. r.0) (known at machine.1.nodes.rows) ≡ rows_of own past.1 at)
