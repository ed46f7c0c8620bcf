-- What each interface of a capture is.
--     indexes_of    of each interface the index of what a document says of it; `Link` where that is no Ethernet
--     are_used      `NoSuchName` where no interface has a name of the document
use Rattle.std.specs.Prelude.{ℕ, ◌+◌, ◌==◌, ◌&&◌, ⊤, Bool, true, false, if◌then◌else◌, List, [], ◌∷◌, ◌++◌, length, map, position, slice_get, Option, Some, None, option_map, Result, Ok, Err}
use Rattle.std.specs.Fmt.{decimal}
use Rattle.std.specs.List.{list_any}
use Rattle.std.specs.Option.{option_or}
use Rattle.std.specs.Str.{bytes_eq}
use Rattle.hsr_toml.specs.Fallible.{◌>>=◌}
use Rattle.hsr_capture_reader.specs.Fields.{InterfaceFields}
use Rattle.hsr_tap_device.specs.Words.{is_same_end}
use Rattle.hsr_tap_device.specs.declared.device.End.{End}
use Rattle.hsr_tap_device.specs.declared.device.Named.{Named}
use Rattle.hsr_tap_device.specs.declared.device.Passing.{Passing}
use Rattle.hsr_tap_device.specs.declared.device.Passing.TheVariants as by
use Rattle.hsr_tap_device.specs.declared.device.Tap.{Tap}
use Rattle.hsr_tap_passages.specs.declared.fault.PassageFault.{PassageFault}
use Rattle.hsr_tap_passages.specs.declared.fault.PassageFault.TheVariants.{Link, NoSuchName}

-- ---- what a document says of an interface

-- the index of the interface that a document names so
abbrev pub index_of : List Named → List ℕ → Option ℕ
index_of named name = position (λ n. bytes_eq n.name name) named

-- by its name, or else by its number
abbrev pub named_as : List Named → ℕ → List ℕ → Option ℕ
named_as named number name = option_or (index_of named name) (index_of named (decimal number))

-- a link type of 1 is Ethernet
abbrev pub on_ethernet : ℕ → Option ℕ → Result (Option ℕ) PassageFault
on_ethernet link None = Ok None
on_ethernet link (Some index) = if link == 1 then Ok (Some index) else Err (Link link)

-- behind those of which it is known: so many stand before
abbrev pub indexes_from : List Named → List (Option ℕ) → List InterfaceFields → Result (List (Option ℕ)) PassageFault
indexes_from named indexes [] = Ok indexes
indexes_from named indexes (i ∷ interfaces) =
    on_ethernet i.link (named_as named (length indexes) i.name) >>= λ index. indexes_from named (indexes ++ index ∷ []) interfaces

unfoldable pub indexes_of : List Named → List InterfaceFields → Result (List (Option ℕ)) PassageFault
indexes_of named interfaces = indexes_from named [] interfaces

-- ---- names that no interface has

abbrev pub is_index : ℕ → Option ℕ → Bool
is_index i None = false
is_index i (Some index) = index == i

abbrev pub is_used : List (Option ℕ) → ℕ → Bool
is_used indexes i = list_any (λ index. is_index i index) indexes

-- of those from an index on
abbrev pub are_used : List (Option ℕ) → ℕ → List Named → Result ⊤ PassageFault
are_used indexes i [] = Ok tt
are_used indexes i (n ∷ named) = if is_used indexes i then are_used indexes (i + 1) named else Err (NoSuchName n.name)

-- ---- taps

abbrev pub tap_at : List Named → Option ℕ → Option Tap
tap_at named None = None
tap_at named (Some i) = option_map (λ n. n.tap) (slice_get named i)

-- what each interface is; none where it is left out
unfoldable pub interface_taps : List Named → List InterfaceFields → Result (List (Option Tap)) PassageFault
interface_taps named interfaces = do
  indexes ← indexes_of named interfaces
  _ ← are_used indexes 0 named
  Ok (map (tap_at named) indexes)

-- ---- which ends are tapped

abbrev pub lets_in : Passing → Bool
lets_in by.Out = false
lets_in _ = true

abbrev pub lets_out : Passing → Bool
lets_out by.In = false
lets_out _ = true

-- an interface shows what goes in at an end, and what leaves by it
abbrev pub shows_in : End → Option Tap → Bool
shows_in end None = false
shows_in end (Some tap) = is_same_end end tap.end && lets_in tap.passing

abbrev pub shows_out : End → Option Tap → Bool
shows_out end None = false
shows_out end (Some tap) = is_same_end end tap.end && lets_out tap.passing
