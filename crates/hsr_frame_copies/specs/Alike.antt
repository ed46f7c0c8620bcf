-- Whether two copies say the same, and whether a copy says its size.
use Rattle.std.specs.Prelude.{ℕ, ◌-◌, ◌%◌, ◌==◌, ◌&&◌, ◌||◌, min, not, nat_le, Bool, true, false, List, [], ◌∷◌, length, take, drop}
use Rattle.std.specs.List.{list_all}
use Rattle.std.specs.Str.{bytes_eq}
use Rattle.hsr_frame.specs.Address.{is_same_address}
use Rattle.hsr_frame.specs.Egress.{is_supervision}
use Rattle.hsr_frame.specs.Layout.{tag_len}
use Rattle.hsr_frame_copies.specs.Contents.{CopyFields}

abbrev pub are_zeros : List ℕ → Bool
are_zeros octets = list_all (λ octet. octet == 0) octets

-- the same as far as there are both; where they are all of two payloads, only zeros follow
abbrev pub agree : Bool → List ℕ → List ℕ → Bool
agree is_whole a b = let both = min (length a) (length b) in
    bytes_eq (take both a) (take both b) && (not is_whole || (are_zeros (drop both a) && are_zeros (drop both b)))

-- the path in front of a supervision payload may differ
abbrev pub payloads_agree : Bool → Bool → List ℕ → List ℕ → Bool
payloads_agree is_whole true (x ∷ xs) (y ∷ ys) = (x % 16 == y % 16) && agree is_whole xs ys
payloads_agree is_whole true [] b = agree is_whole [] b
payloads_agree is_whole true (x ∷ xs) [] = agree is_whole (x ∷ xs) []
payloads_agree is_whole false a b = agree is_whole a b

abbrev pub is_whole : CopyFields → Bool
is_whole c = nat_le c.length (length c.payload)

-- two copies say the same behind their tags
abbrev pub says_same : CopyFields → CopyFields → Bool
says_same a b = is_same_address a.dst b.dst && (a.kind == b.kind)
    && payloads_agree (is_whole a && is_whole b) (is_supervision a.dst a.kind) a.payload b.payload

-- the size counts the payload and the tag's own octets, or so much less as zeros follow, in a short payload
abbrev pub has_right_size : CopyFields → Bool
has_right_size c = nat_le tag_len c.size && ((c.size - tag_len == c.length)
    || (nat_le (c.size - tag_len) c.length && nat_le c.length 52 && are_zeros (drop (c.size - tag_len) c.payload)))
