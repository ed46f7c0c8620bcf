-- How it ends, and what was written.
--     Ends    what stands on the writer
--     Views   that, what stands on the other writer, and the status
use Rattle.std.specs.Prelude.{ℕ, ◌≡◌, ◌⊎◌, List, [], ◌++◌, codes, Option, Result, Ok, Err}
use Rattle.std.specs.Io.KnownBytes.{Appends, Keeps}
use Rattle.hsr_table_size.specs.Sizes.{capacity_of}
use Rattle.hsr_head.specs.Told.{told_size}
use Rattle.hsr_view.specs.Fault.{fault_line}
use Rattle.hsr_given.specs.Given.{given_of}
use Rattle.hsr_head.specs.Reads.{front}
use Rattle.hsr_view.specs.Refusals.{IsUnshownOf}
use Rattle.hsr_view.specs.Viewing.{IsShownOf}
use Rattle.hsr_view.specs.declared.views.What.{What}
use Rattle.hsr_view.specs.declared.fault.Fault.{Fault}
use Rattle.hsr_view.specs.declared.fault.Fault.TheVariants.{Write}

abbrev pub code_of : Result (Unit {0}) Fault → ℕ
code_of (Ok done) = 0
code_of (Err fault) = 1

abbrev pub line_of : Result (Unit {0}) Fault → List ℕ
line_of (Ok done) = []
line_of (Err fault) = fault_line fault ++ codes "\n"

-- the other writer has the line of a fault, or nothing, and the code is that of the end
pub record Tells (told tells : Option (List ℕ)) (ended : Result (Unit {0}) Fault) (code : ℕ) : Type 0 where
  pub is_code : code ≡ code_of ended
  pub line : Appends told tells (line_of ended)

-- octets were written, or the writer failed
abbrev pub IsDelivered : Option (List ℕ) → Option (List ℕ) → List ℕ → Result (Unit {0}) Fault → Type 0
IsDelivered held holds octets (Ok done) = Appends held holds octets
IsDelivered held holds octets (Err fault) = fault ≡ Write

-- What is asked for of a text, with tables of the size that it tells, was written; or nothing was, for this reason; or the writer
-- failed at it.
abbrev pub Ends : List ℕ → What → Option (List ℕ) → Option (List ℕ) → Option (List ℕ) → Result (Unit {0}) Fault → Type 0
Ends text what scenario held holds (Ok done) = (octets : List ℕ) × IsShownOf (capacity_of (told_size (front text))) text what scenario octets × Appends held holds octets
Ends text what scenario held holds (Err fault) =
    (IsUnshownOf (capacity_of (told_size (front text))) (given_of (front text)) text what scenario fault × Keeps held holds)
    ⊎ ((fault ≡ Write) × ((octets : List ℕ) × IsShownOf (capacity_of (told_size (front text))) text what scenario octets))

pub record Views (text : List ℕ) (what : What) (scenario : Option (List ℕ)) (held holds told tells : Option (List ℕ)) (code : ℕ) : Type 0 where
  pub ended : Result (Unit {0}) Fault
  pub ends : Ends text what scenario held holds ended
  pub is_told : Tells told tells ended code
