-- Whether an observed copy says what an expected one does: frames of one kind by their fields, other octets in all of them.
use Rattle.std.specs.Prelude.{ℕ, ◌+◌, ◌-◌, ◌==◌, ◌&&◌, ◌||◌, min, not, nat_le, nat_lt, Bool, true, false, List, length, take, drop, Option, Some, None, Result, Ok, Err, if◌then◌else◌}
use Rattle.std.specs.List.{list_all}
use Rattle.std.specs.Str.{bytes_eq}
use Rattle.hsr_frame.specs.Address.{is_same_address}
use Rattle.hsr_frame.specs.Grammar.{Fields}
use Rattle.hsr_frame.specs.declared.fault.FrameFault.{FrameFault}
use Rattle.hsr_tag.specs.Seen.{classified}
use Rattle.hsr_tag.specs.Tag.{TaggedFields}
use Rattle.hsr_tag.specs.declared.seen.Seen.{Seen}
use Rattle.hsr_tag.specs.declared.seen.Seen.TheVariants.{Plain, Tagged}
use Rattle.hsr_tap_device.specs.Words.{is_same_end}
use Rattle.hsr_tap_device.specs.declared.device.End.{End}
use Rattle.hsr_tap_device.specs.declared.device.End.TheVariants as at
use Rattle.hsr_tap_device.specs.declared.device.Ignored.{Ignored}
use Rattle.hsr_playback.specs.Passages.{is_cut, is_unknown}
use Rattle.hsr_playback.specs.declared.expected.Expected.{Expected}
use Rattle.hsr_playback.specs.declared.passage.Passage.{Passage}
use Rattle.hsr_judging.specs.declared.agreement.Rule.{Rule}

-- ---- octets

abbrev pub are_zeros : List ℕ → Bool
are_zeros octets = list_all (λ octet. octet == 0) octets

-- so many octets in front, and what stands behind so many
abbrev pub front : ℕ → List ℕ → List ℕ
front n octets = take (min n (length octets)) octets

abbrev pub behind : ℕ → List ℕ → List ℕ
behind n octets = drop (min n (length octets)) octets

-- the same as far as there are both; only zeros follow
abbrev pub same_but_zeros : List ℕ → List ℕ → Bool
same_but_zeros a b = let both = min (length a) (length b) in
    bytes_eq (take both a) (take both b) && (are_zeros (drop both a) && are_zeros (drop both b))

-- ---- payloads

-- the least frame has so many octets of payload, with a tag's own
abbrev pub may_be_padded : List ℕ → Bool
may_be_padded payload = nat_le (length payload) 52

abbrev pub is_padding_ignored : Ignored → List ℕ → List ℕ → Bool
is_padding_ignored ignored a b = ignored.padding && (may_be_padded a && may_be_padded b)

abbrev pub same_octets : Bool → List ℕ → List ℕ → Bool
same_octets ignores a b = if ignores then same_but_zeros a b else bytes_eq a b

-- supervision of the device's own: the counter where it is known, and what stands behind the address where that has to agree
abbrev pub lives_agree : Rule → List ℕ → List ℕ → Bool
lives_agree rule a b =
    bytes_eq (front 2 a) (front 2 b)
    && ((not rule.has_numbers || bytes_eq (front 2 (behind 2 a)) (front 2 (behind 2 b)))
    && (bytes_eq (front 8 (behind 4 a)) (front 8 (behind 4 b))
    && (rule.ignored.life_payload || same_octets (is_padding_ignored rule.ignored a b) (behind 12 a) (behind 12 b))))

abbrev pub payloads_agree : Rule → Bool → List ℕ → List ℕ → Bool
payloads_agree rule is_life a b = if is_life then lives_agree rule a b else same_octets (is_padding_ignored rule.ignored a b) a b

-- ---- fields

abbrev pub needs_source : Ignored → End → Bool
needs_source ignored at.I = not ignored.interlink_source
needs_source ignored _ = true

-- paths of frames that are sent on may be ignored
abbrev pub needs_path : Ignored → Expected → Bool
needs_path ignored expected = expected.is_numbered || not ignored.path

-- a size counts a payload and the tag's own octets, or so much less as zeros follow
abbrev pub is_right : ℕ → List ℕ → Bool
is_right size payload = nat_le 6 size && (may_be_padded payload && (nat_le (size - 6) (length payload) && are_zeros (behind (size - 6) payload)))

abbrev pub sizes_agree : Rule → TaggedFields → TaggedFields → Bool
sizes_agree rule a b = (a.size == b.size) || (rule.ignored.padding && (is_right a.size a.payload && is_right b.size b.payload))

-- a number of the device's own counter need not agree until it is known
abbrev pub numbers_agree : Rule → Expected → ℕ → ℕ → Bool
numbers_agree rule expected a b = (expected.is_numbered && not rule.has_numbers) || (a == b)

abbrev pub sources_agree : Rule → Expected → List ℕ → List ℕ → Bool
sources_agree rule expected a b = is_same_address a b || not (needs_source rule.ignored expected.out)

abbrev pub same_vlan : Option ℕ → Option ℕ → Bool
same_vlan None None = true
same_vlan (Some a) (Some b) = a == b
same_vlan _ _ = false

abbrev pub tagged_agree : Rule → Expected → TaggedFields → TaggedFields → Bool
tagged_agree rule expected a b =
    is_same_address a.dst b.dst
    && (sources_agree rule expected a.src b.src
    && (same_vlan a.vlan b.vlan
    && ((a.kind == b.kind)
    && (((a.path == b.path) || not (needs_path rule.ignored expected))
    && (sizes_agree rule a b
    && (numbers_agree rule expected a.seq b.seq
    && payloads_agree rule expected.is_life a.payload b.payload))))))

abbrev pub plain_agree : Rule → Expected → Fields → Fields → Bool
plain_agree rule expected a b =
    is_same_address a.dst b.dst
    && (sources_agree rule expected a.src b.src
    && (same_vlan a.vlan b.vlan
    && ((a.kind == b.kind)
    && payloads_agree rule expected.is_life a.rest b.rest)))

abbrev pub seen_agree : Rule → Expected → Seen → Seen → Bool
seen_agree rule expected (Tagged a) (Tagged b) = tagged_agree rule expected a b
seen_agree rule expected (Plain a) (Plain b) = plain_agree rule expected a b
seen_agree rule expected _ _ = false

-- ---- octets as frames

abbrev pub read_agree : Rule → Expected → List ℕ → List ℕ → Result Seen FrameFault → Result Seen FrameFault → Bool
read_agree rule expected a b (Ok x) (Ok y) = seen_agree rule expected x y
read_agree rule expected a b (Err x) (Err y) = bytes_eq a b
read_agree rule expected a b _ _ = false

abbrev pub octets_agree : Rule → Expected → List ℕ → List ℕ → Bool
octets_agree rule expected a b = read_agree rule expected a b (classified a) (classified b)

-- what both have, where octets of either weren't captured
abbrev pub fronts_agree : Rule → Expected → Passage → Bool
fronts_agree rule expected seen = let both = min expected.kept seen.captured in
    (length expected.octets == length seen.octets) && octets_agree rule expected (front both expected.octets) (front both seen.octets)

abbrev pub is_equal : Rule → Expected → Passage → Bool
is_equal rule expected seen =
    if is_unknown expected || is_cut seen then fronts_agree rule expected seen else octets_agree rule expected expected.octets seen.octets
