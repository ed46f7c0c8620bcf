-- What the reference said of the frame of a copy that nothing caused, and whether that frame left by its end already.
--     is_of        what came is the frame of a copy
--     reason_in    the answer to the youngest such passage at another end
--     is_twice     a copy's frame left by its end less than 400 ms before
use Rattle.std.specs.Prelude.{ℕ, ◌+◌, ◌-◌, ◌/◌, ◌==◌, ◌&&◌, ◌||◌, not, nat_le, nat_lt, Bool, true, false, List, [], ◌∷◌, length, take, drop, slice_get, reverse, Option, Some, None, Result, Ok, Err, if◌then◌else◌}
use Rattle.std.specs.Str.{bytes_eq}
use Rattle.hsr_frame.specs.Address.{is_same_address}
use Rattle.hsr_frame.specs.Cases.{first_of}
use Rattle.hsr_frame.specs.Grammar.{Fields, number_at}
use Rattle.hsr_frame.specs.Layout.{ethertype_hsr, ethertype_vlan}
use Rattle.hsr_frame.specs.declared.fault.FrameFault.{FrameFault}
use Rattle.hsr_tag.specs.Seen.{classified}
use Rattle.hsr_tag.specs.Tag.{TaggedFields, untag_of}
use Rattle.hsr_tag.specs.declared.seen.Seen.{Seen}
use Rattle.hsr_tag.specs.declared.seen.Seen.TheVariants.{Plain, Tagged}
use Rattle.hsr_tap_device.specs.Words.{is_same_end}
use Rattle.hsr_playback.specs.declared.passage.Passage.{Passage}
use Rattle.hsr_playback.specs.declared.playing.Answer.{Answer}
use Rattle.hsr_judging.specs.Agreement.{same_but_zeros}
use Rattle.hsr_judging.specs.Windows.{us_from}
use Rattle.hsr_judging.specs.declared.reason.Looked.{Looked}
use Rattle.hsr_judging.specs.declared.reason.Looked.TheVariants.{Next, Old, Found}
use Rattle.hsr_judging.specs.declared.reason.Reason.{Reason}

-- ---- one frame

-- the same source and number
abbrev pub same_key : TaggedFields → TaggedFields → Bool
same_key a b = is_same_address a.src b.src && (a.seq == b.seq)

-- the same destination, type and payload, zeros at its end apart
abbrev pub same_plain : Fields → Fields → Bool
same_plain a b = is_same_address a.dst b.dst && ((a.kind == b.kind) && same_but_zeros a.rest b.rest)

abbrev pub are_one : Seen → Seen → Bool
are_one (Tagged a) (Tagged b) = same_key a b
are_one (Tagged a) (Plain b) = same_plain (untag_of a) b
are_one (Plain a) (Tagged b) = same_plain a (untag_of b)
are_one (Plain a) (Plain b) = same_plain a b

-- ---- octets that are no frame

abbrev pub has_number : List ℕ → ℕ → ℕ → Bool
has_number octets at number = nat_le (at + 2) (length octets) && (number_at at octets == number)

-- where octets have the type of an HSR tag, if they do: behind the addresses, or behind the first VLAN tag
abbrev pub tag_at : List ℕ → Option ℕ
tag_at octets = first_of
    ((has_number octets 12 ethertype_hsr, Some 12)
    ∷ (has_number octets 12 ethertype_vlan && has_number octets 16 ethertype_hsr, Some 16)
    ∷ [])
    None

abbrev pub are_untagged_at : List ℕ → List ℕ → Option ℕ → Bool
are_untagged_at octets tagged None = false
are_untagged_at octets tagged (Some at) =
    (length octets + 6 == length tagged)
    && (nat_le (at + 6) (length tagged) && (bytes_eq (take at octets) (take at tagged) && bytes_eq (drop at octets) (drop (at + 6) tagged)))

-- octets are others without their HSR tag
abbrev pub are_untagged : List ℕ → List ℕ → Bool
are_untagged octets tagged = are_untagged_at octets tagged (tag_at tagged)

abbrev pub same_or_untagged : List ℕ → List ℕ → Bool
same_or_untagged came copy = bytes_eq came copy || (are_untagged copy came || are_untagged came copy)

abbrev pub is_read_of : List ℕ → List ℕ → Result Seen FrameFault → Result Seen FrameFault → Bool
is_read_of came copy (Ok a) (Ok b) = are_one a b
is_read_of came copy _ _ = same_or_untagged came copy

-- octets that came are those of a copy, as far as they are frames, or but for a tag
abbrev pub is_of : List ℕ → List ℕ → Bool
is_of came copy = is_read_of came copy (classified came) (classified copy)

-- ---- the reason

-- it came too early: 400 ms before the copy, or more
abbrev pub is_old : Passage → Passage → Bool
is_old came copy = nat_lt 400000 (us_from came.moment copy.moment)

-- it came at another end, and up to so many microseconds behind the copy
abbrev pub is_cause : ℕ → Passage → Passage → Bool
is_cause early came copy =
    nat_le (us_from copy.moment came.moment) early && (not (is_same_end came.end copy.end) && is_of came.octets copy.octets)

-- what came of a look at an answer
abbrev pub looked_at : ℕ → Passage → Answer → Option Passage → Looked
looked_at early copy a None = Next
looked_at early copy a (Some came) = first_of
    ((is_old came copy, Old)
    ∷ (is_cause early came copy, Found (record { said = a.said; passage = a.passage }))
    ∷ [])
    Next

abbrev pub reason_by : Looked → Option Reason → Option Reason
reason_by Next rest = rest
reason_by Old rest = None
reason_by (Found reason) rest = Some reason

-- what was said is given latest first
abbrev pub reason_from : List Passage → ℕ → Passage → List Answer → Option Reason
reason_from passages early copy [] = None
reason_from passages early copy (a ∷ past) =
    reason_by (looked_at early copy a (slice_get passages a.passage)) (reason_from passages early copy past)

abbrev pub reason_in : List Passage → List Answer → ℕ → Passage → Option Reason
reason_in passages answers early copy = reason_from passages early copy (reverse answers)

-- ---- twice

abbrev pub same_keys : Result Seen FrameFault → Result Seen FrameFault → Bool
same_keys (Ok (Tagged a)) (Ok (Tagged b)) = same_key a b
same_keys _ _ = false

-- the same octets, or the same source and number
abbrev pub are_copies : List ℕ → List ℕ → Bool
are_copies a b = bytes_eq a b || same_keys (classified a) (classified b)

abbrev pub is_again : Passage → Passage → Bool
is_again other copy = is_same_end other.end copy.end && are_copies other.octets copy.octets

-- the copies before it are given latest first
abbrev pub twice_from : Passage → List Passage → Bool
twice_from copy [] = false
twice_from copy (other ∷ past) = first_of
    ((nat_le 400000000 (copy.moment - other.moment), false)
    ∷ (is_again other copy, true)
    ∷ [])
    (twice_from copy past)

abbrev pub is_twice : List Passage → Passage → Bool
is_twice earlier copy = twice_from copy (reverse earlier)
