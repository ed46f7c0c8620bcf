-- Whether an observed copy is an expected frame, altered: the destination and the type are the same, and two of source, number and
-- payload; where one has no tag, source or payload.
use Rattle.std.specs.Prelude.{ℕ, ◌+◌, ◌-◌, ◌==◌, ◌&&◌, ◌||◌, min, max, not, nat_le, Bool, false, List, length, Result, Ok, Err, if◌then◌else◌}
use Rattle.std.specs.Str.{bytes_eq}
use Rattle.hsr_frame.specs.Address.{is_same_address}
use Rattle.hsr_frame.specs.Grammar.{Fields}
use Rattle.hsr_frame.specs.declared.fault.FrameFault.{FrameFault}
use Rattle.hsr_tag.specs.Seen.{classified}
use Rattle.hsr_tag.specs.Tag.{TaggedFields, untag_of}
use Rattle.hsr_tag.specs.declared.seen.Seen.{Seen}
use Rattle.hsr_tag.specs.declared.seen.Seen.TheVariants.{Plain, Tagged}
use Rattle.hsr_playback.specs.Passages.{is_cut, is_unknown, missing, unknown}
use Rattle.hsr_playback.specs.declared.expected.Expected.{Expected}
use Rattle.hsr_playback.specs.declared.passage.Passage.{Passage}
use Rattle.hsr_judging.specs.Agreement.{front, numbers_agree, same_but_zeros}
use Rattle.hsr_judging.specs.declared.agreement.Rule.{Rule}

-- how many octets of two payloads both are known
abbrev pub both_known : Expected → Passage → List ℕ → List ℕ → ℕ
both_known expected seen a b = min (length a) (length b) - max (unknown expected) (missing seen)

-- the same but for zeros at their end, as far as both were captured
abbrev pub same_payloads : Expected → Passage → List ℕ → List ℕ → Bool
same_payloads expected seen a b = if is_unknown expected || is_cut seen
    then (let both = both_known expected seen a b in bytes_eq (front both a) (front both b))
    else same_but_zeros a b

abbrev pub two_of : Bool → Bool → Bool → Bool
two_of a b c = (a && b) || ((a && c) || (b && c))

abbrev pub tagged_alike : Rule → Expected → Passage → TaggedFields → TaggedFields → Bool
tagged_alike rule expected seen a b =
    is_same_address a.dst b.dst && ((a.kind == b.kind)
    && two_of (is_same_address a.src b.src) (numbers_agree rule expected a.seq b.seq) (same_payloads expected seen a.payload b.payload))

abbrev pub plain_alike : Expected → Passage → Fields → Fields → Bool
plain_alike expected seen a b =
    is_same_address a.dst b.dst && ((a.kind == b.kind) && (is_same_address a.src b.src || same_payloads expected seen a.rest b.rest))

abbrev pub seen_alike : Rule → Expected → Passage → Seen → Seen → Bool
seen_alike rule expected seen (Tagged a) (Tagged b) = tagged_alike rule expected seen a b
seen_alike rule expected seen (Tagged a) (Plain b) = plain_alike expected seen (untag_of a) b
seen_alike rule expected seen (Plain a) (Tagged b) = plain_alike expected seen a (untag_of b)
seen_alike rule expected seen (Plain a) (Plain b) = plain_alike expected seen a b

abbrev pub read_alike : Rule → Expected → Passage → Result Seen FrameFault → Result Seen FrameFault → Bool
read_alike rule expected seen (Ok a) (Ok b) = seen_alike rule expected seen a b
read_alike rule expected seen _ _ = false

abbrev pub is_alike : Rule → Expected → Passage → Bool
is_alike rule expected seen = read_alike rule expected seen (classified expected.octets) (classified seen.octets)
