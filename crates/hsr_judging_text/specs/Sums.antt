-- Deviations of one kind together: how many, and the packet of the first. They stand in the order of the octets of their kinds.
use Rattle.std.specs.Prelude.{ℕ, not, Bool, false, if◌then◌else◌, List, [], ◌∷◌, ◌++◌, codes, length, position, slice_get, unwrap_or, Option, Some, None}
use Rattle.std.specs.Cmp.Lexicographic.{slice_cmp}
use Rattle.std.specs.Fmt.{decimal}
use Rattle.std.specs.List.{flat_map, insert, slice_set}
use Rattle.std.specs.Ordering.{is_gt, nat_cmp}
use Rattle.std.specs.Str.{bytes_eq}
use Rattle.hsr_capture_reader.specs.Fields.{capped_sum}
use Rattle.hsr_judging_text.specs.Lines.{SceneFields, kind}
use Rattle.hsr_judging_text.specs.declared.deviation.Deviation.{Deviation}
use Rattle.hsr_judging_text.specs.declared.sums.Sum.{Sum}

-- a sum's kind isn't before this one
abbrev pub is_from : List ℕ → Sum → Bool
is_from kind s = not (is_gt (slice_cmp nat_cmp kind s.kind))

-- how many sums have a kind before this one
abbrev pub place : List Sum → List ℕ → ℕ
place sums kind = unwrap_or (position (is_from kind) sums) (length sums)

abbrev pub first_sum : List ℕ → ℕ → Sum
first_sum kind packet = record { kind = kind; count = 1; packet = packet }

abbrev pub one_more : Sum → Sum
one_more s = record s { count = capped_sum s.count 1 }

-- a sum is of this kind
abbrev pub is_there : List ℕ → Option Sum → Bool
is_there kind None = false
is_there kind (Some s) = bytes_eq s.kind kind

abbrev pub more_at : List Sum → ℕ → Option Sum → List Sum
more_at sums at None = sums
more_at sums at (Some s) = slice_set sums at (one_more s)

-- with one more deviation of a kind, at the place of that kind
abbrev pub counted_at : List Sum → ℕ → List ℕ → ℕ → List Sum
counted_at sums at kind packet =
    if is_there kind (slice_get sums at) then more_at sums at (slice_get sums at) else insert sums at (first_sum kind packet)

unfoldable pub counted : List Sum → List ℕ → ℕ → List Sum
counted sums kind packet = counted_at sums (place sums kind) kind packet

abbrev pub sums_from : SceneFields → List Sum → List Deviation → List Sum
sums_from scene sums [] = sums
sums_from scene sums (d ∷ ds) = sums_from scene (counted sums (kind scene d) d.packet) ds

-- of all that is told
unfoldable pub sums_of : SceneFields → List Deviation → List Sum
sums_of scene ds = sums_from scene [] ds

unfoldable pub sum_line : Sum → List ℕ
sum_line s = codes "sum " ++ decimal s.count ++ codes " first packet " ++ decimal s.packet ++ codes " " ++ s.kind ++ codes "\n"

abbrev pub sum_lines : SceneFields → List Deviation → List ℕ
sum_lines scene ds = flat_map sum_line (sums_of scene ds)
