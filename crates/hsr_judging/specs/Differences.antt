-- In which fields two copies differ.
--     tagged_differences, plain_differences    of two frames of one kind, but for numbers
--     differences                              of two copies that were matched, and numbers that didn't go on by one
use Rattle.std.specs.Prelude.{ℕ, ◌+◌, ◌==◌, ◌&&◌, ◌||◌, not, max, nat_le, Bool, true, false, List, [], ◌∷◌, ◌++◌, length, find, slice_get, Option, Some, None, option_map, Result, Ok, Err, if◌then◌else◌}
use Rattle.std.specs.List.{range_with_len}
use Rattle.std.specs.Option.{option_to_list}
use Rattle.hsr_frame.specs.Address.{is_same_address}
use Rattle.hsr_frame.specs.Grammar.{Fields}
use Rattle.hsr_frame.specs.declared.fault.FrameFault.{FrameFault}
use Rattle.hsr_tag.specs.Seen.{classified}
use Rattle.hsr_tag.specs.Tag.{TaggedFields}
use Rattle.hsr_tag.specs.declared.seen.Seen.{Seen}
use Rattle.hsr_tag.specs.declared.seen.Seen.TheVariants.{Plain, Tagged}
use Rattle.hsr_tap_device.specs.declared.device.Ignored.{Ignored}
use Rattle.hsr_playback.specs.Passages.{is_cut, is_unknown}
use Rattle.hsr_playback.specs.declared.expected.Expected.{Expected}
use Rattle.hsr_playback.specs.declared.passage.Passage.{Passage}
use Rattle.hsr_playback.specs.declared.taken.Jump.{Jump}
use Rattle.hsr_judging.specs.Agreement.{front, is_padding_ignored, is_right, needs_path, needs_source, same_but_zeros, same_vlan}
use Rattle.hsr_judging.specs.Alikeness.{both_known}
use Rattle.hsr_judging.specs.Numbers.{counter_in}
use Rattle.hsr_judging.specs.declared.difference.Difference.{Difference}
use Rattle.hsr_judging.specs.declared.difference.Difference.TheVariants.{Source, Vlan, Path, Padding, Size, Payload, Tag, Octets, Number, Life}

-- ---- payloads

-- two payloads as far as both are known, whether all of both is, and whether there is a supervision counter, which is told by itself
pub record PayloadFields : Type 0 where
  pub a : List ℕ
  pub b : List ℕ
  pub is_whole : Bool
  pub is_life : Bool

abbrev pub both_payloads : Expected → Passage → List ℕ → List ℕ → PayloadFields
both_payloads e s a b =
    if is_unknown e || is_cut s
    then record { a = front (both_known e s a b) a; b = front (both_known e s a b) b; is_whole = false; is_life = e.is_life }
    else record { a = a; b = b; is_whole = true; is_life = e.is_life }

-- they differ in zeros at their ends alone
abbrev pub is_padded : PayloadFields → Bool
is_padded p = p.is_whole && (not (length p.a == length p.b) && same_but_zeros p.a p.b)

abbrev pub same_octet : Option ℕ → Option ℕ → Bool
same_octet None None = true
same_octet (Some a) (Some b) = a == b
same_octet _ _ = false

-- a place of the supervision counter, which is told by itself
abbrev pub is_counter : PayloadFields → ℕ → Bool
is_counter p at = p.is_life && ((at == 2) || (at == 3))

-- a place of a supervision payload that need not agree, behind the address
abbrev pub is_let_be : Ignored → PayloadFields → ℕ → Bool
is_let_be ignored p at = p.is_life && (ignored.life_payload && nat_le 12 at)

abbrev pub is_same_at : PayloadFields → ℕ → Bool
is_same_at p at = same_octet (slice_get p.a at) (slice_get p.b at)

-- what stands at a place differs, and is told of: not a counter, and behind the address only what has to agree
abbrev pub differs_at : Ignored → PayloadFields → ℕ → Bool
differs_at ignored p at = not (is_counter p at) && (not (is_let_be ignored p at) && not (is_same_at p at))

-- the first place at which they differ
abbrev pub first_difference : Ignored → PayloadFields → Option ℕ
first_difference ignored p = find (differs_at ignored p) (range_with_len 0 (max (length p.a) (length p.b)))

abbrev pub padding_difference : Ignored → PayloadFields → Option Difference
padding_difference ignored p =
    if is_padded p && not (is_padding_ignored ignored p.a p.b) then Some (Padding (length p.a) (length p.b)) else None

abbrev pub payload_difference : Ignored → PayloadFields → Option Difference
payload_difference ignored p = if is_padded p then None else option_map Payload (first_difference ignored p)

-- ---- other fields

abbrev pub source_difference : Ignored → Expected → List ℕ → List ℕ → Option Difference
source_difference ignored e a b = if not (is_same_address a b) && needs_source ignored e.out then Some (Source a b) else None

abbrev pub vlan_difference : Option ℕ → Option ℕ → Option Difference
vlan_difference a b = if same_vlan a b then None else Some (Vlan a b)

abbrev pub path_difference : Ignored → Expected → TaggedFields → TaggedFields → Option Difference
path_difference ignored e a b = if not (a.path == b.path) && needs_path ignored e then Some (Path a.path b.path) else None

-- two sizes differ by as much as the lengths of their payloads
abbrev pub sizes_follow : TaggedFields → TaggedFields → Bool
sizes_follow a b = a.size + length b.payload == b.size + length a.payload

abbrev pub size_difference : Ignored → TaggedFields → TaggedFields → Option Difference
size_difference ignored a b =
    if (a.size == b.size) || (sizes_follow a b || (ignored.padding && (is_right a.size a.payload && is_right b.size b.payload)))
    then None else Some (Size a.size b.size)

-- ---- numbers

abbrev pub number_difference : ℕ → ℕ → Option Difference
number_difference a b = if a == b then None else Some (Number a b)

abbrev pub life_between : Option ℕ → Option ℕ → Option Difference
life_between (Some a) (Some b) = if a == b then None else Some (Life a b)
life_between _ _ = None

abbrev pub life_difference : Expected → TaggedFields → TaggedFields → Option Difference
life_difference e a b = if e.is_life then life_between (counter_in a.payload) (counter_in b.payload) else None

abbrev pub number_jump : Option (ℕ × ℕ) → Option Difference
number_jump None = None
number_jump (Some n) = Some (Number n.0 n.1)

abbrev pub life_jump : Option (ℕ × ℕ) → Option Difference
life_jump None = None
life_jump (Some n) = Some (Life n.0 n.1)

-- ---- all fields

-- differences that are there, in their order
abbrev pub those : List (Option Difference) → List Difference
those [] = []
those (d ∷ ds) = option_to_list d ++ those ds

unfoldable pub tagged_differences : Ignored → Expected → Passage → TaggedFields → TaggedFields → List Difference
tagged_differences ignored e s a b = let p = both_payloads e s a.payload b.payload in those
    (source_difference ignored e a.src b.src ∷ vlan_difference a.vlan b.vlan ∷ path_difference ignored e a b
    ∷ padding_difference ignored p ∷ size_difference ignored a b ∷ payload_difference ignored p
    ∷ number_difference a.seq b.seq ∷ life_difference e a b ∷ [])

unfoldable pub plain_differences : Ignored → Expected → Passage → Fields → Fields → List Difference
plain_differences ignored e s a b = let p = both_payloads e s a.rest b.rest in those
    (source_difference ignored e a.src b.src ∷ vlan_difference a.vlan b.vlan ∷ padding_difference ignored p ∷ payload_difference ignored p ∷ [])

abbrev pub seen_differences : Ignored → Expected → Passage → Seen → Seen → List Difference
seen_differences ignored e s (Tagged a) (Tagged b) = tagged_differences ignored e s a b
seen_differences ignored e s (Plain a) (Plain b) = plain_differences ignored e s a b
seen_differences ignored e s (Tagged a) (Plain b) = Tag true false ∷ []
seen_differences ignored e s (Plain a) (Tagged b) = Tag false true ∷ []

abbrev pub read_differences : Ignored → Expected → Passage → Result Seen FrameFault → Result Seen FrameFault → List Difference
read_differences ignored e s (Ok a) (Ok b) = seen_differences ignored e s a b
read_differences ignored e s _ _ = []

abbrev pub field_differences : Ignored → Expected → Passage → List Difference
field_differences ignored e s = read_differences ignored e s (classified e.octets) (classified s.octets)

abbrev pub jump_differences : Jump → List Difference
jump_differences jump = those (number_jump jump.number ∷ life_jump jump.life ∷ [])

-- where no field differs, the octets do
abbrev pub or_octets : List Difference → List Difference
or_octets [] = Octets ∷ []
or_octets (d ∷ ds) = d ∷ ds

abbrev pub differences : Ignored → Expected → Passage → Bool → Jump → List Difference
differences ignored e s is_altered jump = or_octets ((if is_altered then field_differences ignored e s else []) ++ jump_differences jump)
