-- What each interface of a capture is to the device.
--     tap_of      what an interface is, by a document's names, or without a document
--     taps_of     of each interface by number; `Link` where one is no Ethernet, and then `NoSuchName` where none has a name
use Rattle.std.specs.Prelude.{ℕ, ◌+◌, ◌==◌, ◌||◌, ⊤, Bool, false, if◌then◌else◌, List, [], ◌∷◌, ◌++◌, length, Option, Some, None, Result, Ok, Err}
use Rattle.std.specs.Option.{option_or}
use Rattle.std.specs.Str.{bytes_eq}
use Rattle.hsr_capture_reader.specs.Fields.{InterfaceFields}
use Rattle.hsr_text.specs.Words.{decimal_of}
use Rattle.hsr_tap_device.specs.declared.device.End.TheVariants.{A, B}
use Rattle.hsr_tap_device.specs.declared.device.Named.{Named}
use Rattle.hsr_tap_device.specs.declared.device.Passing.TheVariants.{In}
use Rattle.hsr_tap_device.specs.declared.device.Tap.{Tap}
use Rattle.hsr_node_lines.specs.Faults.{◌>>=◌}
use Rattle.hsr_node_lines.specs.declared.fault.LinesFault.{LinesFault}
use Rattle.hsr_node_lines.specs.declared.fault.LinesFault.TheVariants.{Link, NoSuchName}

-- ---- without a document

-- packets come in at port A on interface 0, and at port B on interface 1
abbrev pub plain_tap : ℕ → Option Tap
plain_tap i =
    if i == 0 then Some (record { end = A; passing = In })
    else (if i == 1 then Some (record { end = B; passing = In }) else None)

-- ---- by a document

-- whether a name is a number in decimal
abbrev pub is_decimal_of : ℕ → Option ℕ → Bool
is_decimal_of i None = false
is_decimal_of i (Some n) = n == i

abbrev pub is_number : ℕ → List ℕ → Bool
is_number i name = is_decimal_of i (decimal_of name)

abbrev pub tap_by_name : List ℕ → List Named → Option Tap
tap_by_name name [] = None
tap_by_name name (n ∷ named) = if bytes_eq n.name name then Some n.tap else tap_by_name name named

abbrev pub tap_by_number : ℕ → List Named → Option Tap
tap_by_number i [] = None
tap_by_number i (n ∷ named) = if is_number i n.name then Some n.tap else tap_by_number i named

-- by its name, or else by its number
abbrev pub tap_of : Option (List Named) → ℕ → List ℕ → Option Tap
tap_of None i name = plain_tap i
tap_of (Some named) i name = option_or (tap_by_name name named) (tap_by_number i named)

-- ---- of all interfaces

-- a link type of 1 is Ethernet
abbrev pub on_ethernet : ℕ → Option Tap → Result (Option Tap) LinesFault
on_ethernet link None = Ok None
on_ethernet link (Some tap) = if link == 1 then Ok (Some tap) else Err (Link link)

-- behind those of which it is known: so many stand before
abbrev pub taps_from : Option (List Named) → List (Option Tap) → List InterfaceFields → Result (List (Option Tap)) LinesFault
taps_from named taps [] = Ok taps
taps_from named taps (i ∷ interfaces) =
    on_ethernet i.link (tap_of named (length taps) i.name) >>= λ tap. taps_from named (taps ++ tap ∷ []) interfaces

-- an interface from a number on has this name or number
abbrev pub is_there : List ℕ → ℕ → List InterfaceFields → Bool
is_there name number [] = false
is_there name number (i ∷ interfaces) = bytes_eq i.name name || is_number number name || is_there name (number + 1) interfaces

abbrev pub are_there : List InterfaceFields → List Named → Result ⊤ LinesFault
are_there interfaces [] = Ok tt
are_there interfaces (n ∷ named) = if is_there n.name 0 interfaces then are_there interfaces named else Err (NoSuchName n.name)

abbrev pub are_named_there : List InterfaceFields → Option (List Named) → Result ⊤ LinesFault
are_named_there interfaces None = Ok tt
are_named_there interfaces (Some named) = are_there interfaces named

unfoldable pub taps_of : Option (List Named) → List InterfaceFields → Result (List (Option Tap)) LinesFault
taps_of named interfaces = do
  taps ← taps_from named [] interfaces
  _ ← are_named_there interfaces named
  Ok taps
