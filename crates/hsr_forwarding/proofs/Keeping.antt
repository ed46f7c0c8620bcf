-- What the tables of a node's egresses keep, and what they stand for.
use Rattle.std.proofs.Common.{◌≡◌, ℕ, ◌+◌, ◌≤◌, ◌<◌, ◌&&◌, not, Bool, true, false, List, [], ◌++◌, Result, Ok, Err, refl, arith}
use Rattle.hsr_frame.specs.Counters.{bit, step_limit}
use Rattle.hsr_frame.specs.Egress.{Egress, up, a, b, c, d, has_exit}
use Rattle.hsr_frame.specs.declared.egress.Exits.{Exits}
use Rattle.hsr_frame.specs.declared.fault.FrameFault.{FrameFault}
use Rattle.hsr_tag.specs.declared.seen.Seen.{Seen}
use Rattle.hsr_tag.specs.declared.seen.Seen.TheVariants.{Plain, Tagged}
use Rattle.hsr_duptable.specs.Key.{Key}
use Rattle.hsr_duptable.specs.Log.{StandsFor}
use Rattle.hsr_duptable.specs.Notes.{entry_forget, note_if}
use Rattle.hsr_duptable.specs.Table.{IsWithin, Table, remembers}
use Rattle.hsr_duptable.specs.declared.note.Note.{Note}
use Rattle.hsr_duptable.proofs.LogLaws.{StandsFor-age, StandsFor-new, StandsFor-pass, StandsFor-same}
use Rattle.hsr_duptable.proofs.Within.{IsWithin-age, IsWithin-empty, IsWithin-more, IsWithin-pass}
use Rattle.hsr_forwarding.specs.Arrival.{key_of}
use Rattle.hsr_forwarding.specs.Past.{log_remembers, note_of, passes_from}
use Rattle.hsr_forwarding.specs.Tables.{AreEarlier, AreRoomy, AreWithin, Notes, after_passes, age_if, aged, copies_of, no_notes, passed, passes_by, passes_of, table_of}
use Rattle.hsr_forwarding.proofs.Pasts.{remembers-same}

-- ---- within a node's moment and steps

pub within-of : {notes : Notes} {moment accepted : ℕ} → AreWithin notes moment accepted → (e : Egress) → IsWithin (table_of notes e) moment accepted
within-of w up = w.up
within-of w a = w.a
within-of w b = w.b
within-of w c = w.c
within-of w d = w.d

-- no table's last moment is ahead of a later one
pub last-earlier : {notes : Notes} {moment now accepted : ℕ} → AreWithin notes moment accepted → moment ≤ now → (e : Egress) → (table_of notes e).last ≤ now
last-earlier w later e = let one = within-of w e in omega (arith, one.last, later)

pub AreWithin-new : (there : Exits) → AreWithin (no_notes there) 0 0
AreWithin-new there = record { up = IsWithin-empty; a = IsWithin-empty; b = IsWithin-empty; c = IsWithin-empty; d = IsWithin-empty }

-- a frame left by these egresses
pub AreWithin-passes : (capacity : ℕ) (notes : Notes) (passes : Exits) (key : Key) (moment now accepted : ℕ) → moment ≤ now → AreWithin notes moment accepted
    → AreWithin (after_passes capacity notes passes key now) now (accepted + 1)
AreWithin-passes capacity notes passes key moment now accepted h w = record {
  up = IsWithin-pass capacity notes.up passes.up key moment now accepted h w.up;
  a = IsWithin-pass capacity notes.a passes.a key moment now accepted h w.a;
  b = IsWithin-pass capacity notes.b passes.b key moment now accepted h w.b;
  c = IsWithin-pass capacity notes.c passes.c key moment now accepted h w.c;
  d = IsWithin-pass capacity notes.d passes.d key moment now accepted h w.d;
}

-- tables that are left alone
pub AreWithin-more : (notes : Notes) (moment now accepted : ℕ) → moment ≤ now → AreWithin notes moment accepted → AreWithin notes now (accepted + 1)
AreWithin-more notes moment now accepted h w = record {
  up = IsWithin-more notes.up moment now accepted (accepted + 1) h (omega arith) w.up;
  a = IsWithin-more notes.a moment now accepted (accepted + 1) h (omega arith) w.a;
  b = IsWithin-more notes.b moment now accepted (accepted + 1) h (omega arith) w.b;
  c = IsWithin-more notes.c moment now accepted (accepted + 1) h (omega arith) w.c;
  d = IsWithin-more notes.d moment now accepted (accepted + 1) h (omega arith) w.d;
}

pub AreWithin-passed : (capacity : ℕ) (notes : Notes) (exits : Exits) (seen : Result Seen FrameFault) (moment now accepted : ℕ) → moment ≤ now → AreWithin notes moment accepted
    → AreWithin (passed capacity notes exits seen now).1 now (accepted + 1)
AreWithin-passed capacity notes exits (Err fault) moment now accepted h w = AreWithin-more notes moment now accepted h w
AreWithin-passed capacity notes exits (Ok (Plain frame)) moment now accepted h w = AreWithin-more notes moment now accepted h w
AreWithin-passed capacity notes exits (Ok (Tagged frame)) moment now accepted h w =
    AreWithin-passes capacity notes (passes_of notes exits (key_of frame) now) (key_of frame) moment now accepted h w

-- an arrival changes no egress
pub passed-there : (capacity : ℕ) (notes : Notes) (exits : Exits) (seen : Result Seen FrameFault) (now : ℕ) → (passed capacity notes exits seen now).1.there ≡ notes.there
passed-there capacity notes exits (Err fault) now = refl
passed-there capacity notes exits (Ok (Plain frame)) now = refl
passed-there capacity notes exits (Ok (Tagged frame)) now = refl

IsWithin-age_if : (there : Bool) (table : Table) (moment now accepted : ℕ) → moment ≤ now → IsWithin table moment accepted → IsWithin (age_if there table now) now accepted
IsWithin-age_if true table moment now accepted h w = IsWithin-age table moment now accepted w
IsWithin-age_if false table moment now accepted h w = IsWithin-more table moment now accepted accepted h (omega arith) w

pub AreWithin-aged : (notes : Notes) (moment now accepted : ℕ) → moment ≤ now → AreWithin notes moment accepted → AreWithin (aged notes now) now accepted
AreWithin-aged notes moment now accepted h w = record {
  up = IsWithin-age_if notes.there.up notes.up moment now accepted h w.up;
  a = IsWithin-age_if notes.there.a notes.a moment now accepted h w.a;
  b = IsWithin-age_if notes.there.b notes.b moment now accepted h w.b;
  c = IsWithin-age_if notes.there.c notes.c moment now accepted h w.c;
  d = IsWithin-age_if notes.there.d notes.d moment now accepted h w.d;
}

pub AreEarlier-within : (notes : Notes) (moment now accepted : ℕ) → moment ≤ now → AreWithin notes moment accepted → AreEarlier notes now
AreEarlier-within notes moment now accepted h w = record {
  up = omega (arith, w.up.last);
  a = omega (arith, w.a.last);
  b = omega (arith, w.b.last);
  c = omega (arith, w.c.last);
  d = omega (arith, w.d.last);
}

pub AreRoomy-within : (notes : Notes) (moment accepted : ℕ) → accepted < step_limit → AreWithin notes moment accepted → AreRoomy notes
AreRoomy-within notes moment accepted some w = record {
  up = omega (arith, w.up.noted, some);
  a = omega (arith, w.a.noted, some);
  b = omega (arith, w.b.noted, some);
  c = omega (arith, w.c.noted, some);
  d = omega (arith, w.d.noted, some);
}

-- ---- the tables beside the logs of their egresses, one egress each

pub stands-new : (capacity : ℕ) (there : Exits) (e : Egress) → StandsFor capacity (table_of (no_notes there) e) []
stands-new capacity there up = StandsFor-new capacity entry_forget
stands-new capacity there a = StandsFor-new capacity entry_forget
stands-new capacity there b = StandsFor-new capacity entry_forget
stands-new capacity there c = StandsFor-new capacity entry_forget
stands-new capacity there d = StandsFor-new capacity entry_forget

pub stands-passes : (capacity : ℕ) (notes : Notes) (log : List Note) (passes : Exits) (key : Key) (now : ℕ) (e : Egress) → (table_of notes e).last ≤ now → StandsFor capacity (table_of notes e) log
    → StandsFor capacity (table_of (after_passes capacity notes passes key now) e) (log ++ note_if (has_exit passes e) key now)
stands-passes capacity notes log passes key now up h s = StandsFor-pass capacity notes.up log passes.up key now h s
stands-passes capacity notes log passes key now a h s = StandsFor-pass capacity notes.a log passes.a key now h s
stands-passes capacity notes log passes key now b h s = StandsFor-pass capacity notes.b log passes.b key now h s
stands-passes capacity notes log passes key now c h s = StandsFor-pass capacity notes.c log passes.c key now h s
stands-passes capacity notes log passes key now d h s = StandsFor-pass capacity notes.d log passes.d key now h s

pub stands-same : (capacity : ℕ) (notes : Notes) (log : List Note) (e : Egress) → StandsFor capacity (table_of notes e) log → StandsFor capacity (table_of notes e) (log ++ [])
stands-same capacity notes log e s = StandsFor-same capacity (table_of notes e) log s

pub stands-passed : (capacity : ℕ) (notes : Notes) (log : List Note) (exits : Exits) (seen : Result Seen FrameFault) (now : ℕ) (e : Egress) → (table_of notes e).last ≤ now → StandsFor capacity (table_of notes e) log
    → let outcome = passed capacity notes exits seen now in StandsFor capacity (table_of outcome.1 e) (log ++ note_of seen (has_exit outcome.0 e) now)
stands-passed capacity notes log exits (Err fault) now e h s = stands-same capacity notes log e s
stands-passed capacity notes log exits (Ok (Plain frame)) now e h s = stands-same capacity notes log e s
stands-passed capacity notes log exits (Ok (Tagged frame)) now e h s = stands-passes capacity notes log (passes_of notes exits (key_of frame) now) (key_of frame) now e h s

StandsFor-age_if : (capacity : ℕ) (there : Bool) (table : Table) (log : List Note) (now : ℕ) → table.last ≤ now → StandsFor capacity table log → StandsFor capacity (age_if there table now) log
StandsFor-age_if capacity true table log now h s = StandsFor-age capacity table log now h s
StandsFor-age_if capacity false table log now h s = s

pub stands-aged : (capacity : ℕ) (notes : Notes) (log : List Note) (now : ℕ) (e : Egress) → (table_of notes e).last ≤ now → StandsFor capacity (table_of notes e) log → StandsFor capacity (table_of (aged notes now) e) log
stands-aged capacity notes log now up h s = StandsFor-age_if capacity notes.there.up notes.up log now h s
stands-aged capacity notes log now a h s = StandsFor-age_if capacity notes.there.a notes.a log now h s
stands-aged capacity notes log now b h s = StandsFor-age_if capacity notes.there.b notes.b log now h s
stands-aged capacity notes log now c h s = StandsFor-age_if capacity notes.there.c notes.c log now h s
stands-aged capacity notes log now d h s = StandsFor-age_if capacity notes.there.d notes.d log now h s

-- what an egress remembers is what its log does
pub remembers-logged : (capacity : ℕ) (notes : Notes) (log : List Note) (moment now accepted : ℕ) (key : Key) (e : Egress) → moment ≤ now → AreWithin notes moment accepted → StandsFor capacity (table_of notes e) log
    → remembers (table_of notes e) key now ≡ log_remembers capacity log now key
remembers-logged capacity notes log moment now accepted key e h w s =
    let one = within-of w e in remembers-same capacity (table_of notes e) log now key (omega (arith, one.last, h)) one.forget s

-- ---- passing

-- an egress that isn't wanted passes nothing
pub unwanted-shut : (wanted held : Bool) → wanted ≡ false → wanted && not held ≡ false
unwanted-shut wanted held e = rw e refl

pub passes-same : (exits : Exits) (held told : Egress → Bool) → ((e : Egress) → held e ≡ told e) → passes_by held exits ≡ passes_by told exits
passes-same exits held told same = λ i. passes_by (λ e. same e i) exits

-- an arrival passes by the tables as it does by the logs that they stand for
pub passed-logged : (capacity : ℕ) (notes : Notes) (logs : Egress → List Note) (exits : Exits) (seen : Result Seen FrameFault) (moment now accepted : ℕ) → moment ≤ now → AreWithin notes moment accepted
    → ((e : Egress) → StandsFor capacity (table_of notes e) (logs e)) → (passed capacity notes exits seen now).0 ≡ passes_from capacity logs exits seen now
passed-logged capacity notes logs exits (Err fault) moment now accepted h w s = refl
passed-logged capacity notes logs exits (Ok (Plain frame)) moment now accepted h w s = refl
passed-logged capacity notes logs exits (Ok (Tagged frame)) moment now accepted h w s =
    let key = key_of frame in
    passes-same exits (λ e. remembers (table_of notes e) key now) (λ e. log_remembers capacity (logs e) now key)
    (λ e. remembers-logged capacity notes (logs e) moment now accepted key e h w (s e))

-- where an arrival doesn't pass: what isn't wanted
pub passed-shut : (capacity : ℕ) (notes : Notes) (exits : Exits) (seen : Result Seen FrameFault) (now : ℕ) (e : Egress) → has_exit exits e ≡ false → has_exit (passed capacity notes exits seen now).0 e ≡ false
passed-shut capacity notes exits (Err fault) now e shut = shut
passed-shut capacity notes exits (Ok (Plain frame)) now e shut = shut
passed-shut capacity notes exits (Ok (Tagged frame)) now up shut = unwanted-shut exits.up (remembers notes.up (key_of frame) now) shut
passed-shut capacity notes exits (Ok (Tagged frame)) now a shut = unwanted-shut exits.a (remembers notes.a (key_of frame) now) shut
passed-shut capacity notes exits (Ok (Tagged frame)) now b shut = unwanted-shut exits.b (remembers notes.b (key_of frame) now) shut
passed-shut capacity notes exits (Ok (Tagged frame)) now c shut = unwanted-shut exits.c (remembers notes.c (key_of frame) now) shut
passed-shut capacity notes exits (Ok (Tagged frame)) now d shut = unwanted-shut exits.d (remembers notes.d (key_of frame) now) shut

-- ---- copies

bit-le : (p : Bool) → bit p ≤ 1
bit-le true = omega arith
bit-le false = omega arith

abbrev is_port : Egress → Bool
is_port up = false
is_port _ = true

-- where one port passes nothing, at most three do
pub copies-few : (passes : Exits) (e : Egress) → is_port e ≡ true → has_exit passes e ≡ false → copies_of passes ≤ 3
copies-few passes up port shut = absurd (cc)
copies-few passes a port shut = let q = bit-le passes.b in let r = bit-le passes.c in let s = bit-le passes.d in rw shut (omega (arith, q, r, s))
copies-few passes b port shut = let p = bit-le passes.a in let r = bit-le passes.c in let s = bit-le passes.d in rw shut (omega (arith, p, r, s))
copies-few passes c port shut = let p = bit-le passes.a in let q = bit-le passes.b in let s = bit-le passes.d in rw shut (omega (arith, p, q, s))
copies-few passes d port shut = let p = bit-le passes.a in let q = bit-le passes.b in let r = bit-le passes.c in rw shut (omega (arith, p, q, r))
