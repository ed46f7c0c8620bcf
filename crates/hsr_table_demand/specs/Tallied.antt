-- What is kept of the notes of an egress: how many they are, and the latest of each send.
--     latest_in        the latest note of a send
--     reach_in         how many notes there are from it on, where it isn't expired
--     Tells            what is kept tells this of these notes
--     IsTalliedAfter   what is kept, after one more note or none
use Rattle.std.specs.Prelude.{ℕ, ◌+◌, ◌-◌, ◌≡◌, nat_eq, nat_lt, ◌&&◌, if◌then◌else◌, Bool, List, [], ◌∷◌, length, Option, Some, None}
use Rattle.indexmap.specs.IndexMap.{IndexMap, get}
use Rattle.hsr_duptable.specs.Notes.{entry_forget}
use Rattle.hsr_node.specs.Record.{Noted}
use Rattle.hsr_node.specs.declared.event.Probe.{Probe}
use Rattle.hsr_run_laws.specs.Premises.{is_note_of}
use Rattle.hsr_run_laws.specs.Run.{is_same_send}
use Rattle.hsr_table_demand.specs.declared.tally.Latest.{Latest}
use Rattle.hsr_table_demand.specs.declared.tally.Tally.{Tally}

-- ---- of notes, the newest first

-- the latest note of a send: how many notes are older, and its moment
abbrev pub latest_in : Option Probe → List Noted → Option Latest
latest_in send [] = None
latest_in send (note ∷ past) = if is_note_of send note then Some (record { index = length past; moment = note.moment }) else latest_in send past

-- how many notes there are from the latest one of a send on, where it isn't expired
abbrev pub reach_from : ℕ → ℕ → Option Latest → ℕ
reach_from count at None = 0
reach_from count at (Some latest) = if nat_lt (at - latest.moment) entry_forget then count - latest.index else 0

abbrev pub reach_in : ℕ → Option Probe → List Noted → ℕ
reach_in at send noted = reach_from (length noted) at (latest_in send noted)

-- ---- of what is kept

abbrev pub latest_of : {S : Type 0} → IndexMap (ℕ × ℕ) Latest S → Probe → Option Latest
latest_of sends send = get (λ x y. nat_eq x.0 y.0 && nat_eq x.1 y.1) sends (send.node, send.place)

abbrev pub reach_of : Tally → ℕ → Option Probe → ℕ
reach_of tally at None = 0
reach_of tally at (Some send) = reach_from tally.count at (latest_of tally.sends send)

pub record Tells (tally : Tally) (noted : List Noted) : Type 0 where
  pub count : tally.count ≡ length noted
  pub latest : (p : Probe) → latest_of tally.sends p ≡ latest_in (Some p) noted

pub record IsTalliedAfter (old : Tally) (is_noted : Bool) (moment : ℕ) (send : Option Probe) (new : Tally) : Type 0 where
  pub count : new.count ≡ (if is_noted then old.count + 1 else old.count)
  pub latest : (p : Probe) → latest_of new.sends p
      ≡ (if is_noted && is_same_send (Some p) send then Some (record { index = old.count; moment = moment }) else latest_of old.sends p)
