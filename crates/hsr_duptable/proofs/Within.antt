-- A node's table stays within its node's moment and steps.
use Rattle.std.proofs.Common.{ℕ, ◌+◌, ◌≤◌, Bool, true, false, refl, arith}
use Rattle.hsr_duptable.specs.Key.{Key}
use Rattle.hsr_duptable.specs.Notes.{entry_forget}
use Rattle.hsr_duptable.specs.Table.{IsWithin, Table, after_age, after_pass, empty_table}

pub IsWithin-empty : IsWithin (empty_table entry_forget) 0 0
IsWithin-empty = record { forget = refl; last = omega arith; noted = omega arith }

pub IsWithin-pass : (capacity : ℕ) (table : Table) (passes : Bool) (key : Key) (moment now accepted : ℕ) → moment ≤ now → IsWithin table moment accepted
    → IsWithin (after_pass capacity table passes key now) now (accepted + 1)
IsWithin-pass capacity table true key moment now accepted h w = record { forget = w.forget; last = omega arith; noted = omega (arith, w.noted) }
IsWithin-pass capacity table false key moment now accepted h w = record { forget = w.forget; last = omega (arith, w.last); noted = omega (arith, w.noted) }

pub IsWithin-age : (table : Table) (moment now accepted : ℕ) → IsWithin table moment accepted → IsWithin (after_age table now) now accepted
IsWithin-age table moment now accepted w = record { forget = w.forget; last = omega arith; noted = omega (arith, w.noted) }

-- a step that leaves the table alone
pub IsWithin-more : (table : Table) (moment now accepted more : ℕ) → moment ≤ now → accepted ≤ more → IsWithin table moment accepted → IsWithin table now more
IsWithin-more table moment now accepted more h k w = record { forget = w.forget; last = omega (arith, w.last); noted = omega (arith, w.noted) }
