-- What the egresses of a node remember, how an arrival is judged by it, and what is counted of that.
use Rattle.std.specs.Prelude.{ℕ, ◌+◌, ◌≤◌, ◌<◌, ◌&&◌, not, Bool, if◌then◌else◌, Option, Some, None, Result}
use Rattle.hsr_frame.specs.Counters.{bit, counted, step_limit}
use Rattle.hsr_frame.specs.Egress.{Egress, up, a, b, c, d, cause_of}
use Rattle.hsr_frame.specs.declared.counters.Counters.{Counters}
use Rattle.hsr_frame.specs.declared.egress.Exits.{Exits}
use Rattle.hsr_frame.specs.declared.egress.Wants.{Wants}
use Rattle.hsr_frame.specs.declared.fault.FrameFault.{FrameFault}
use Rattle.hsr_tag.specs.declared.seen.Seen.{Seen}
use Rattle.hsr_duptable.specs.Key.{Key}
use Rattle.hsr_duptable.specs.Notes.{entry_forget}
use Rattle.hsr_duptable.specs.Table.{IsWithin, Table, after_age, after_pass, empty_table, remembers}
use Rattle.hsr_forwarding.specs.Arrival.{judged_by, key_in}
use Rattle.hsr_forwarding.specs.declared.judged.Judged.{Judged}

-- ---- one egress

-- whether a node has an egress, and what it remembers there: nothing where it doesn't have it
pub record Slot : Type 0 where
  pub there : Bool
  pub table : Table

abbrev pub empty_slot : Bool → Slot
empty_slot there = record { there = there; table = empty_table entry_forget }

abbrev pub table_held : Option Table → Table
table_held None = empty_table entry_forget
table_held (Some table) = table

-- only what is there ages
abbrev pub age_if : Bool → Table → ℕ → Table
age_if there table now = if there then after_age table now else table

-- ---- all egresses

-- which egresses a node has, and what it remembers at each
pub record Notes : Type 0 where
  pub there : Exits
  pub up : Table
  pub a : Table
  pub b : Table
  pub c : Table
  pub d : Table

abbrev pub no_notes : Exits → Notes
no_notes there = record {
  there = there;
  up = empty_table entry_forget;
  a = empty_table entry_forget;
  b = empty_table entry_forget;
  c = empty_table entry_forget;
  d = empty_table entry_forget;
}

abbrev pub table_of : Notes → Egress → Table
table_of notes up = notes.up
table_of notes a = notes.a
table_of notes b = notes.b
table_of notes c = notes.c
table_of notes d = notes.d

-- these of some egresses are among others
abbrev pub among : Exits → Exits → Exits
among exits others = record {
  up = exits.up && others.up;
  a = exits.a && others.a;
  b = exits.b && others.b;
  c = exits.c && others.c;
  d = exits.d && others.d;
}

-- no table's last moment is ahead of the node's, and none noted more than the node accepted
pub record AreWithin (notes : Notes) (moment accepted : ℕ) : Type 0 where
  pub up : IsWithin notes.up moment accepted
  pub a : IsWithin notes.a moment accepted
  pub b : IsWithin notes.b moment accepted
  pub c : IsWithin notes.c moment accepted
  pub d : IsWithin notes.d moment accepted

-- no table's last moment is ahead of this one
pub record AreEarlier (notes : Notes) (now : ℕ) : Type 0 where
  pub up : notes.up.last ≤ now
  pub a : notes.a.last ≤ now
  pub b : notes.b.last ≤ now
  pub c : notes.c.last ≤ now
  pub d : notes.d.last ≤ now

-- there is room for one note more
pub record AreRoomy (notes : Notes) : Type 0 where
  pub up : notes.up.noted < step_limit
  pub a : notes.a.noted < step_limit
  pub b : notes.b.noted < step_limit
  pub c : notes.c.noted < step_limit
  pub d : notes.d.noted < step_limit

-- ---- passing

-- a wanted frame passes an egress that doesn't hold it
abbrev pub passes_by : (Egress → Bool) → Exits → Exits
passes_by holds exits = record {
  up = exits.up && not (holds up);
  a = exits.a && not (holds a);
  b = exits.b && not (holds b);
  c = exits.c && not (holds c);
  d = exits.d && not (holds d);
}

abbrev pub passes_of : Notes → Exits → Key → ℕ → Exits
passes_of notes exits key now = passes_by (λ e. remembers (table_of notes e) key now) exits

-- the tables after a frame with this key left by these egresses
abbrev pub after_passes : ℕ → Notes → Exits → Key → ℕ → Notes
after_passes capacity notes passes key now = record notes {
  up = after_pass capacity notes.up passes.up key now;
  a = after_pass capacity notes.a passes.a key now;
  b = after_pass capacity notes.b passes.b key now;
  c = after_pass capacity notes.c passes.c key now;
  d = after_pass capacity notes.d passes.d key now;
}

-- the tables after the expired notes were dropped
abbrev pub aged : Notes → ℕ → Notes
aged notes now = record notes {
  up = age_if notes.there.up notes.up now;
  a = age_if notes.there.a notes.a now;
  b = age_if notes.there.b notes.b now;
  c = age_if notes.there.c notes.c now;
  d = age_if notes.there.d notes.d now;
}

-- ---- judging

-- where an arrival passes that these egresses want, and the tables after that: only a tagged one is looked for and noted
abbrev pub passed : ℕ → Notes → Exits → Result Seen FrameFault → ℕ → Exits × Notes
passed capacity notes exits seen now =
    judged_by (λ key. let passes = passes_of notes exits key now in (passes, after_passes capacity notes passes key now)) (exits, notes) (key_in seen)

-- the verdict where these of the egresses that want it pass an arrival
abbrev pub judged_as : Wants → Exits → Judged
judged_as wants passes = record { passes = passes; cause = cause_of wants passes }

abbrev pub judged : ℕ → Notes → Wants → Result Seen FrameFault → ℕ → Judged × Notes
judged capacity notes wants seen now = let outcome = passed capacity notes wants.exits seen now in (judged_as wants outcome.0, outcome.1)

-- ---- counting

-- how many ports passed an arrival
abbrev pub copies_of : Exits → ℕ
copies_of passes = bit passes.a + bit passes.b + bit passes.c + bit passes.d

-- the counters after a verdict, and after a supervision payload that could be read or not
abbrev pub counted_with : Counters → Judged → Bool → Counters
counted_with counters judged readable =
    let arrived = counted counters judged.cause judged.passes.up (copies_of judged.passes) in record arrived { bad_life = arrived.bad_life + bit (not readable) }
