-- A QuadBox that keeps its whole past, and answers by looking through it.
use Rattle.std.specs.Prelude.{ℕ, ◌≡◌, ◌==◌, ◌&&◌, not, max, Bool, true, false, List, [], ◌∷◌, ◌++◌, length, filter, Option, Some, None, Result, Ok, Err}
use Rattle.std.specs.List.{sum_by}
use Rattle.hsr_frame.specs.Cause.{is_duplicate, is_malformed, is_untagged}
use Rattle.hsr_frame.specs.Counters.{no_counts, step_limit}
use Rattle.hsr_frame.specs.Egress.{Egress, a, b, c, d}
use Rattle.hsr_frame.specs.declared.counters.Counters.{Counters}
use Rattle.hsr_frame.specs.declared.egress.Exits.{Exits}
use Rattle.hsr_frame.specs.declared.fault.FrameFault.{FrameFault}
use Rattle.hsr_frame.specs.declared.fault.Spent.{Spent}
use Rattle.hsr_frame.specs.declared.node.Cause.{Cause}
use Rattle.hsr_tag.specs.Seen.{classified}
use Rattle.hsr_tag.specs.declared.seen.Seen.{Seen}
use Rattle.hsr_duptable.specs.Key.{Key}
use Rattle.hsr_duptable.specs.Log.{StandsFor}
use Rattle.hsr_duptable.specs.declared.note.Note.{Note}
use Rattle.hsr_quadbox.specs.Wanted.{wanted}
use Rattle.hsr_quadbox.specs.Machine.{Machine, new_machine}
use Rattle.hsr_forwarding.specs.Arrival.{judged_by, key_in}
use Rattle.hsr_forwarding.specs.Past.{answers_of, log_remembers, note_of}
use Rattle.hsr_forwarding.specs.Tables.{AreWithin, copies_of, judged_as, table_of}
use Rattle.hsr_quadbox.specs.Step.{age_step, arrive_step, verdict_of}
use Rattle.hsr_quadbox.specs.declared.quadbox.QuadVerdict.{QuadVerdict}
use Rattle.hsr_quadbox.specs.declared.wanted.QuadPort.{QuadPort}
use Rattle.hsr_quadbox.specs.declared.wanted.QuadPort.TheVariants.{A, B, C, D}

-- an arrival that was judged: the moment given, the port, what the octets are, and the ports that passed it
pub record Judged : Type 0 where
  pub at : ℕ
  pub port : QuadPort
  pub seen : Result Seen FrameFault
  pub passes : Exits

-- what was done; a past is a list of deeds, the newest first
pub data Deed : Type 0 where
  judged : Judged → Deed
  aged : ℕ → Deed

abbrev pub moment_of : Deed → ℕ
moment_of (judged j) = j.at
moment_of (aged at) = at

-- the greatest moment that was given; 0 at first
abbrev pub greatest : List Deed → ℕ
greatest [] = 0
greatest (deed ∷ past) = max (greatest past) (moment_of deed)

abbrev pub passed_by : QuadPort → Exits → Bool
passed_by A exits = exits.a
passed_by B exits = exits.b
passed_by C exits = exits.c
passed_by D exits = exits.d

-- the log of a port: all its notes, each with its effective moment, the oldest first
abbrev pub log : QuadPort → List Deed → List Note
log port [] = []
log port (aged at ∷ past) = log port past
log port (judged j ∷ past) = log port past ++ note_of j.seen (passed_by port j.passes) (greatest (judged j ∷ past))

-- ---- an arrival

-- no remembered note of the port's log has the key
abbrev pub is_new : ℕ → List Deed → QuadPort → Key → ℕ → Bool
is_new capacity past port key now = not (log_remembers capacity (log port past) now key)

-- where an arrival passes: of the ports that want it, a tagged one only where it is new
abbrev pub passes_in : ℕ → List Deed → Exits → Result Seen FrameFault → ℕ → Exits
passes_in capacity past exits seen now = judged_by (λ key. record exits {
  a = exits.a && is_new capacity past A key now;
  b = exits.b && is_new capacity past B key now;
  c = exits.c && is_new capacity past C key now;
  d = exits.d && is_new capacity past D key now;
}) exits (key_in seen)

abbrev pub judgement : ℕ → List Deed → ℕ → QuadPort → Result Seen FrameFault → Judged
judgement capacity past at x seen = record {
  at = at;
  port = x;
  seen = seen;
  passes = passes_in capacity past (wanted x seen).exits seen (max (greatest past) at);
}

abbrev pub verdict_on : Judged → QuadVerdict
verdict_on j = verdict_of (judged_as (wanted j.port j.seen) j.passes)

-- ---- counts

abbrev pub arrivals : List Deed → List Judged
arrivals [] = []
arrivals (aged at ∷ past) = arrivals past
arrivals (judged j ∷ past) = j ∷ arrivals past

-- how many arrivals have such a cause
abbrev pub how_many : (Cause → Bool) → List Deed → ℕ
how_many is_such past = length (filter (λ j. is_such (verdict_on j).cause) (arrivals past))

-- each counter is the number of its kind in the past; what a QuadBox never does stays 0
abbrev pub counts : List Deed → Counters
counts past = record no_counts {
  forwarded = sum_by (λ j. copies_of j.passes) (arrivals past);
  duplicate = how_many is_duplicate past;
  untagged = how_many is_untagged past;
  malformed = how_many is_malformed past;
}

-- ---- the stepping machine beside it

-- the egress by which a port lets frames out
abbrev pub egress_of : QuadPort → Egress
egress_of A = a
egress_of B = b
egress_of C = c
egress_of D = d

-- What a stepping machine holds is told by the past.
pub record IsTold (capacity : ℕ) (machine : Machine) (past : List Deed) : Type 0 where
  -- each table stands for the log of its port
  pub logs : (port : QuadPort) → StandsFor capacity (table_of machine.notes (egress_of port)) (log port past)
  pub within : AreWithin machine.notes machine.moment machine.accepted
  pub moment : machine.moment ≡ greatest past
  pub accepted : machine.accepted ≡ length (arrivals past)
  pub counters : machine.counters ≡ counts past

-- ---- calls

pub data Call : Type 0 where
  arriving : ℕ → QuadPort → List ℕ → Call
  ageing : ℕ → Call

-- what a call answers; ageing answers nothing
abbrev pub Answer : Type 0
Answer = Option (Result QuadVerdict Spent)

-- a call to the stepping machine
abbrev pub machine_call : ℕ → Machine → Call → Answer × Machine
machine_call capacity machine (arriving at x octets) = let step = arrive_step capacity machine at x octets in (Some step.0, step.1)
machine_call capacity machine (ageing at) = (None, age_step machine at)

abbrev pub judge_or_spent : ℕ → List Deed → ℕ → QuadPort → Result Seen FrameFault → Bool → Answer × List Deed
judge_or_spent capacity past at x seen true = (Some (Err (record {})), past)
judge_or_spent capacity past at x seen false = let j = judgement capacity past at x seen in (Some (Ok (verdict_on j)), judged j ∷ past)

-- a call to one that keeps its past
abbrev pub past_call : ℕ → List Deed → Call → Answer × List Deed
past_call capacity past (arriving at x octets) = judge_or_spent capacity past at x (classified octets) (length (arrivals past) == step_limit)
past_call capacity past (ageing at) = (None, aged at ∷ past)

-- To any calls the stepping machine gives the answers of the one that keeps its past, and then its counters are the counts.
abbrev pub AnswersAsPast : ℕ → Type 0
AnswersAsPast capacity =
    (calls : List Call) →
    let machine = answers_of (machine_call capacity) new_machine calls in
    let past = answers_of (past_call capacity) [] calls in
    (machine.0 ≡ past.0) × (machine.1.counters ≡ counts past.1)
