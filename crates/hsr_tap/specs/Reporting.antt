-- A report with its verdict, what is written of it, and the status.
use Rattle.std.specs.Prelude.{ℕ, ◌≡◌, Bool, if◌then◌else◌, List, Option, Result, Ok, Err}
use Rattle.std.specs.Io.KnownBytes.{Appends, Keeps}
use Rattle.hsr_tap.specs.Ends.{Tells}
use Rattle.hsr_tap.specs.declared.fault.Fault.{Fault}
use Rattle.hsr_tap.specs.declared.fault.Fault.TheVariants.{Write}

-- a report was written, and this is its verdict; or the writer failed
abbrev pub IsDelivered : Option (List ℕ) → Option (List ℕ) → List ℕ → Bool → Result Bool Fault → Type 0
IsDelivered held holds text well (Ok said) = Appends held holds text × (said ≡ well)
IsDelivered held holds text well (Err fault) = fault ≡ Write

-- 0 where all is well: the ring is healthy, or the device conforms
abbrev pub status_of : Bool → ℕ
status_of well = if well then 0 else 2

-- The status follows from the verdict, and the other writer keeps what it has; or it has the line of a fault, as where no report is written.
abbrev pub TellsVerdict : Option (List ℕ) → Option (List ℕ) → Result Bool Fault → ℕ → Type 0
TellsVerdict told tells (Ok well) code = (code ≡ status_of well) × Keeps told tells
TellsVerdict told tells (Err fault) code = Tells told tells (Err fault) code
