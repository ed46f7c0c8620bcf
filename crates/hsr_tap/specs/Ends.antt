-- How it ends, and what was written.
--     Ends   what stands on the writer
--     Taps   that, what stands on the other writer, and the status
use Rattle.std.specs.Prelude.{ℕ, ◌≡◌, ◌⊎◌, ◌==◌, if◌then◌else◌, List, [], ◌++◌, codes, Option, Result, Ok, Err}
use Rattle.std.specs.Fmt.{decimal}
use Rattle.std.specs.Io.KnownBytes.{Appends, Keeps}
use Rattle.hsr_node_lines.specs.Lines.{LinesFields}
use Rattle.hsr_tap.specs.Fault.{fault_line}
use Rattle.hsr_tap.specs.Tapping.{IsTold, IsUntold}
use Rattle.hsr_tap.specs.declared.fault.Fault.{Fault}
use Rattle.hsr_tap.specs.declared.fault.Fault.TheVariants.{Write}

-- how many packets gave no line, where there are such
abbrev pub skipped_line : ℕ → List ℕ
skipped_line skipped = if skipped == 0 then [] else codes "skipped " ++ decimal skipped ++ codes "\n"

-- The other writer has how many packets gave no line, and the status is 0; or it has the line of a fault, and the status is 1: where room
-- for that line was refused, the one of refused memory.
abbrev pub Tells : Option (List ℕ) → Option (List ℕ) → Result ℕ Fault → ℕ → Type 0
Tells told tells (Ok skipped) code = (code ≡ 0) × Appends told tells (skipped_line skipped)
Tells told tells (Err fault) code = (code ≡ 1) × (Appends told tells (fault_line fault) ⊎ Appends told tells (codes "fault: memory\n"))

-- octets were written, or the writer failed
abbrev pub IsDelivered : Option (List ℕ) → Option (List ℕ) → List ℕ → Result (Unit {0}) Fault → Type 0
IsDelivered held holds octets (Ok done) = Appends held holds octets
IsDelivered held holds octets (Err fault) = fault ≡ Write

-- The lines were written, all of them; or nothing was, for this reason; or the writer failed at them.
abbrev pub Ends : Option (List ℕ) → ℕ → List ℕ → Option (List ℕ) → Option (List ℕ) → Result ℕ Fault → Type 0
Ends document fcs octets held holds (Ok skipped) =
    (lines : LinesFields) × IsTold document fcs octets (Ok lines) × Appends held holds lines.text × (lines.skipped ≡ skipped)
Ends document fcs octets held holds (Err fault) =
    (IsUntold document fcs octets fault × Keeps held holds)
    ⊎ ((fault ≡ Write) × ((lines : LinesFields) × IsTold document fcs octets (Ok lines)))

pub record Taps (document : Option (List ℕ)) (fcs : ℕ) (octets : List ℕ) (held holds told tells : Option (List ℕ)) (code : ℕ) : Type 0 where
  pub ended : Result ℕ Fault
  pub ends : Ends document fcs octets held holds ended
  pub is_told : Tells told tells ended code
