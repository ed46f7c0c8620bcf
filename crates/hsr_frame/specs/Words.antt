-- The words that texts have for the enums that all nodes share, and what each word says.
--     mode_word, port_word, cause_word    the word
--     mode_of, port_of, cause_of          what a word says
use Rattle.std.specs.Prelude.{ℕ, ◌==◌, List, [], ◌∷◌, ◌++◌, codes, Option, Some, None}
use Rattle.std.specs.Fmt.{decimal}
use Rattle.std.specs.Str.{bytes_eq}
use Rattle.hsr_frame.specs.Cases.{first_of}
use Rattle.hsr_frame.specs.Fault.{frame_fault_code}
use Rattle.hsr_frame.specs.declared.fault.FrameFault.{FrameFault}
use Rattle.hsr_frame.specs.declared.fault.FrameFault.TheVariants.{Short, Long, GroupSource, DoubleVlan, ShortTag, NestedTag}
use Rattle.hsr_frame.specs.declared.node.Cause.{Cause}
use Rattle.hsr_frame.specs.declared.node.Cause.TheVariants.{Passed, Duplicate, Returned, Foreign, Local, Untagged, Tagged, Malformed}
use Rattle.hsr_frame.specs.declared.node.Mode.{Mode}
use Rattle.hsr_frame.specs.declared.node.Mode.TheVariants.{H, N, U}
use Rattle.hsr_frame.specs.declared.node.RingPort.{RingPort}
use Rattle.hsr_frame.specs.declared.node.RingPort.TheVariants.{A, B}

-- ---- modes

abbrev pub mode_word : Mode → List ℕ
mode_word H = codes "H"
mode_word N = codes "N"
mode_word U = codes "U"

abbrev pub mode_of : List ℕ → Option Mode
mode_of w = first_of ((bytes_eq w (codes "H"), Some H) ∷ (bytes_eq w (codes "N"), Some N) ∷ (bytes_eq w (codes "U"), Some U) ∷ []) None

-- ---- ring ports

abbrev pub port_word : RingPort → List ℕ
port_word A = codes "A"
port_word B = codes "B"

abbrev pub port_of : List ℕ → Option RingPort
port_of w = first_of ((bytes_eq w (codes "A"), Some A) ∷ (bytes_eq w (codes "B"), Some B) ∷ []) None

-- ---- causes

abbrev pub cause_word : Cause → List ℕ
cause_word Passed = codes "passed"
cause_word Duplicate = codes "duplicate"
cause_word Returned = codes "returned"
cause_word Foreign = codes "foreign"
cause_word Local = codes "local"
cause_word Untagged = codes "untagged"
cause_word Tagged = codes "tagged"
cause_word (Malformed fault) = codes "malformed"

-- the fault of octets that are no frame
abbrev pub fault_in : Cause → Option FrameFault
fault_in (Malformed fault) = Some fault
fault_in cause = None

-- a separator and the number of the fault, if there is one
abbrev pub fault_text : List ℕ → Option FrameFault → List ℕ
fault_text separator None = []
fault_text separator (Some fault) = separator ++ decimal (frame_fault_code fault)

-- a cause: its word, and behind a separator the number of the fault of octets that are no frame
abbrev pub cause_text : List ℕ → Cause → List ℕ
cause_text separator cause = cause_word cause ++ fault_text separator (fault_in cause)

-- the fault of a number
abbrev pub fault_of : ℕ → Option FrameFault
fault_of n = first_of
    ((n == 1, Some Short) ∷ (n == 2, Some Long) ∷ (n == 3, Some GroupSource) ∷ (n == 4, Some DoubleVlan)
    ∷ (n == 5, Some ShortTag) ∷ (n == 6, Some NestedTag) ∷ [])
    None

-- the cause of a word: one with no fault, and one with a fault
abbrev pub cause_of : List ℕ → Option FrameFault → Option Cause
cause_of w None = first_of
    ((bytes_eq w (codes "passed"), Some Passed) ∷ (bytes_eq w (codes "duplicate"), Some Duplicate)
    ∷ (bytes_eq w (codes "returned"), Some Returned) ∷ (bytes_eq w (codes "foreign"), Some Foreign)
    ∷ (bytes_eq w (codes "local"), Some Local) ∷ (bytes_eq w (codes "untagged"), Some Untagged)
    ∷ (bytes_eq w (codes "tagged"), Some Tagged) ∷ [])
    None
cause_of w (Some fault) = first_of ((bytes_eq w (codes "malformed"), Some (Malformed fault)) ∷ []) None
