-- What tells at once that a run has no flaw.
--     IsClear      nothing is forgotten, mistaken or numbered late
--     IsNew        an entry notes no send where it was noted before
--     IsPlain      a node notes no send twice, numbers none late, and gives no number twice
--     IsMarked     what is kept tells that a send was noted
use Rattle.std.specs.Prelude.{ℕ, ◌+◌, ◌≤◌, ◌≡◌, ◌&&◌, ◌||◌, nat_lt, Bool, true, false, if◌then◌else◌, List, length, slice_get, slice_index_or, Option, Some, None}
use Rattle.std.specs.List.{list_any}
use Rattle.hsr_forwarding.specs.Numbers.{number_range}
use Rattle.hsr_frame.specs.Egress.{Egress, has_exit, no_exits}
use Rattle.hsr_frame.specs.declared.egress.Exits.{Exits}
use Rattle.hsr_node.specs.Record.{Each, Owner, is_noted, notes, probe_handled}
use Rattle.hsr_node.specs.declared.entry.Entry.{Entry}
use Rattle.hsr_node.specs.declared.event.Probe.{Probe}
use Rattle.hsr_run_laws.specs.Premises.{NothingForgotten, NothingMistaken, is_note_of}
use Rattle.hsr_run_laws.specs.Run.{Run, owner_of, past_of}
use Rattle.hsr_network_laws.specs.Late.{NothingLate, is_numbered_late}
use Rattle.hsr_number_laws.specs.Counted.{numbered_in}

pub record IsClear (run : Run) : Type 0 where
  pub forgotten : NothingForgotten run
  pub mistaken : NothingMistaken run
  pub late : NothingLate run

-- ---- records

-- what an entry on this past notes is a send that wasn't noted there before
abbrev pub IsNew : Owner → Entry → List Entry → Type 0
IsNew owner x past = (e : Egress) → is_noted x.outcome e ≡ true →
    list_any (is_note_of (probe_handled (record { node = owner.number; place = length past }) x.event)) (notes owner e past) ≡ false

-- a node notes no send twice at an egress, and numbers none that it noted before; and it gives no more numbers than there are, so none twice
pub record IsPlain (run : Run) (k : ℕ) : Type 0 where
  pub once : Each (IsNew (owner_of run k)) (past_of run k)
  pub in_time : Each (λ x past. is_numbered_late (owner_of run k) past x.event x.outcome ≡ false) (past_of run k)
  pub few : numbered_in (past_of run k) ≤ number_range

-- ---- what is kept of a node: where each send was noted

-- where a send stands, behind all entries of the nodes before its own
abbrev pub place_among : ℕ → Option ℕ → ℕ → Option ℕ
place_among many None place = None
place_among many (Some start) place = if nat_lt (start + place) many then Some (start + place) else None

abbrev pub mark_place : List ℕ → ℕ → Option Probe → Option ℕ
mark_place starts many None = None
mark_place starts many (Some send) = place_among many (slice_get starts send.node) send.place

-- what is kept tells that a send was noted at an egress
pub record IsMarked (starts : List ℕ) (marks : List Exits) (send : Probe) (e : Egress) : Type 0 where
  pub at : ℕ
  pub is : mark_place starts (length marks) (Some send) ≡ Some at
  pub marked : has_exit (slice_index_or marks at no_exits) e ≡ true

-- what is kept tells where each send was noted
abbrev pub AreMarked : Owner → List Entry → List ℕ → List Exits → Type 0
AreMarked owner past starts marks = (e : Egress) (send : Probe) → list_any (is_note_of (Some send)) (notes owner e past) ≡ true → IsMarked starts marks send e

-- some egress is in both
abbrev pub meet : Exits → Exits → Bool
meet x y = ((((x.up && y.up) || (x.a && y.a)) || (x.b && y.b)) || (x.c && y.c)) || (x.d && y.d)

abbrev pub joined : Exits → Exits → Exits
joined x y = record { up = x.up || y.up; a = x.a || y.a; b = x.b || y.b; c = x.c || y.c; d = x.d || y.d }

abbrev pub all_exits : Exits
all_exits = record { up = true; a = true; b = true; c = true; d = true }

-- an entry notes a send where it was noted, or numbers it after it was noted somewhere
abbrev pub is_odd : Exits → Exits → Bool → Bool
is_odd mark noted is_numbered = meet mark (if is_numbered then all_exits else noted)
