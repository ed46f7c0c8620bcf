-- The device's own frames that no interface shows.
use Rattle.std.specs.Prelude.{ℕ, ◌-◌, ◌/◌, ◌==◌, ◌&&◌, ◌||◌, not, is_some, nat_le, nat_lt, replicate, slice_get, slice_set, unwrap_or, Bool, true, false, List, [], ◌∷◌, Option, Some, None, Result, Ok, Err, if◌then◌else◌}
use Rattle.std.specs.Str.{bytes_eq}
use Rattle.hsr_frame.specs.Address.{is_same_address}
use Rattle.hsr_frame.specs.Egress.{is_supervision}
use Rattle.hsr_frame.specs.Grammar.{spelling}
use Rattle.hsr_frame.specs.declared.fault.FrameFault.{FrameFault}
use Rattle.hsr_tag.specs.Seen.{classified}
use Rattle.hsr_tag.specs.Tag.{TaggedFields, untag_of}
use Rattle.hsr_tag.specs.declared.seen.Seen.{Seen}
use Rattle.hsr_tag.specs.declared.seen.Seen.TheVariants.{Plain, Tagged}
use Rattle.hsr_tap_device.specs.declared.device.End.{End}
use Rattle.hsr_tap_device.specs.declared.device.End.TheVariants as at
use Rattle.hsr_playback.specs.declared.passage.Heading.{Heading}
use Rattle.hsr_playback.specs.declared.passage.Heading.TheVariants.{In, Out}
use Rattle.hsr_playback.specs.declared.passage.Passage.{Passage}

-- ---- which passages are the device's own

-- it left by A or B
abbrev pub leaves_by : Heading → End → Bool
leaves_by Out at.A = true
leaves_by Out at.B = true
leaves_by _ _ = false

abbrev pub from_own : List ℕ → Result Seen FrameFault → Option TaggedFields
from_own own (Ok (Tagged f)) = if is_same_address f.src own then Some f else None
from_own own (Ok (Plain f)) = None
from_own own (Err fault) = None

-- the tagged frame that left by A or B from the device's address
abbrev pub own_frame : Option (List ℕ) → Passage → Option TaggedFields
own_frame None p = None
own_frame (Some own) p = if leaves_by p.heading p.end then from_own own (classified p.octets) else None

abbrev pub handed_by : Heading → End → Bool
handed_by In at.Up = true
handed_by _ _ = false

-- the host handed it down
abbrev pub is_handed_down : Passage → Bool
is_handed_down p = handed_by p.heading p.end

-- the plain octets were handed down up to so many microseconds before a moment; the past is given latest first
abbrev pub was_handed_down : ℕ → ℕ → List ℕ → List Passage → Bool
was_handed_down within moment plain [] = false
was_handed_down within moment plain (p ∷ past) =
    if nat_lt within ((moment - p.moment) / 1000) then false
    else ((is_handed_down p && bytes_eq plain p.octets) || was_handed_down within moment plain past)

-- ---- which of them begin a frame

-- a number is another frame's than that which was begun with it last
abbrev pub is_new : Option ℕ → ℕ → Bool
is_new None moment = true
is_new (Some begun) moment = nat_le 800000000 (moment - begun)

-- with a host only supervision begins, that the host didn't hand down
abbrev pub may_begin : Bool → ℕ → List Passage → TaggedFields → ℕ → Bool
may_begin has_host within past f moment =
    if is_supervision f.dst f.kind then not (was_handed_down within moment (spelling (untag_of f)) past) else not has_host

-- ---- when each number was begun last

-- none of the 65536 numbers was begun
unfoldable pub none_begun : List (Option ℕ)
none_begun = replicate 65536 None

-- by a table of all numbers
abbrev pub last_in : List (Option ℕ) → ℕ → Option ℕ
last_in table n = unwrap_or (slice_get table n) None

-- the table with the number that a passage began, if it began one
abbrev pub noted : List (Option ℕ) → Option ℕ → ℕ → List (Option ℕ)
noted table None moment = table
noted table (Some n) moment = slice_set table n (Some moment)

-- ---- what a passage begins

-- the number of the frame that it begins
abbrev pub begun_by : Bool → ℕ → List Passage → List (Option ℕ) → Option TaggedFields → ℕ → Option ℕ
begun_by has_host within past table None moment = None
begun_by has_host within past table (Some f) moment =
    if is_new (last_in table f.seq) moment && may_begin has_host within past f moment then Some f.seq else None

abbrev pub begin_if : List (Option ℕ) → ℕ → Option ℕ → Bool × List (Option ℕ)
begin_if table moment begun = (is_some begun, noted table begun moment)

-- whether it begins one, and when each number was begun last then; what passed before is given latest first
abbrev pub begin_one : Option (List ℕ) → Bool → ℕ → List Passage → List (Option ℕ) → Passage → Bool × List (Option ℕ)
begin_one own has_host within past table p = begin_if table p.moment (begun_by has_host within past table (own_frame own p) p.moment)

abbrev pub begins_from : Option (List ℕ) → Bool → ℕ → List Passage → List (Option ℕ) → List Passage → List Bool
begins_from own has_host within past table [] = []
begins_from own has_host within past table (p ∷ ps) =
    let y = begin_one own has_host within past table p in y.0 ∷ begins_from own has_host within (p ∷ past) y.1 ps

-- of each passage whether it begins a frame
unfoldable pub own_begins : Option (List ℕ) → Bool → ℕ → List Passage → List Bool
own_begins own has_host within ps = begins_from own has_host within [] none_begun ps
