-- What is told of a copy by those that were captured before it. A past is their list, the latest first.
--     is_again      its direction carried its frame before
--     is_storm      it did so three times
--     is_late       the frame came to this point 400 ms ago or more
--     is_clash      its source and number said something else, less than 400 ms before
--     is_overtaken  its direction carried a greater number of its source, less than 400 ms before
--     needed        how many frames a table has to hold so that it knows the copy's
--     crowd         how many frames began at the point in the last 400 ms
use Rattle.std.specs.Prelude.{ℕ, ◌+◌, ◌-◌, ◌%◌, ◌==◌, ◌&&◌, ◌||◌, max, min, not, nat_le, nat_lt, Bool, false, if◌then◌else◌, List, [], ◌∷◌, length, filter, find, Option, Some, None}
use Rattle.hsr_frame_copies.specs.Alike.{says_same}
use Rattle.hsr_frame_groups.specs.Frames.{CaughtFields, key_of}
use Rattle.hsr_sightings.specs.Frames.{begins, earlier}
use Rattle.hsr_sightings.specs.Keys.{beside_key}
use Rattle.hsr_sightings.specs.Ring.{Ring, forget_time, is_at, is_in, point_of}

-- how long after another copy one came
abbrev pub after : CaughtFields → CaughtFields → ℕ
after b c = c.at - b.at

abbrev pub is_recent : CaughtFields → CaughtFields → Bool
is_recent b c = nat_lt (after b c) forget_time

-- the last of a list that has the latest first
abbrev pub first_of_past : CaughtFields → List CaughtFields → CaughtFields
first_of_past c [] = c
first_of_past c (b ∷ past) = first_of_past b past

-- ---- directions

-- how often its direction carried its frame before
abbrev pub carried_before : List CaughtFields → CaughtFields → ℕ
carried_before past c = length (filter (is_in c.direction) (earlier past c))

-- the same as it is kept in one octet: 255 for more
abbrev pub times_before : List CaughtFields → CaughtFields → ℕ
times_before past c = min (carried_before past c) 255

abbrev pub is_again : List CaughtFields → CaughtFields → Bool
is_again past c = nat_le 1 (carried_before past c)

-- the fourth of a frame on one direction, or a later one
abbrev pub is_storm : List CaughtFields → CaughtFields → Bool
is_storm past c = nat_le 3 (carried_before past c)

-- ---- points

-- the copies of its frame that came to its point before
abbrev pub there_before : Ring → List CaughtFields → CaughtFields → List CaughtFields
there_before ring past c = filter (is_at ring (point_of ring c)) (earlier past c)

-- the first copy of its frame at its point
abbrev pub first_there : Ring → List CaughtFields → CaughtFields → CaughtFields
first_there ring past c = first_of_past c (there_before ring past c)

-- no copy of its frame came to its point before
abbrev pub begins_there : Ring → List CaughtFields → CaughtFields → Bool
begins_there ring past c = length (there_before ring past c) == 0

-- nodes have forgotten its frame
abbrev pub is_late : Ring → List CaughtFields → CaughtFields → Bool
is_late ring past c = not (is_recent (first_there ring past c) c)

-- the copies that began a frame at a point
abbrev pub begun_at : Ring → ℕ → List CaughtFields → List CaughtFields
begun_at ring point [] = []
begun_at ring point (c ∷ past) =
    if is_at ring point c && begins_there ring past c then c ∷ begun_at ring point past else begun_at ring point past

-- how many copies there are from one on, where the latest is first
abbrev pub count_from : ℕ → List CaughtFields → ℕ
count_from packet [] = 0
count_from packet (b ∷ past) = if b.packet == packet then 1 else count_from packet past + 1

-- For a copy but the first of its frame, less than 400 ms after that: the frames that began at its point from that one on, both
-- included.
abbrev pub needed : Ring → List CaughtFields → CaughtFields → ℕ
needed ring past c =
    if begins_there ring past c || is_late ring past c then 0 else count_from (first_there ring past c).packet (begun_at ring (point_of ring c) past)

-- for a copy that begins a frame at its point: the frames that began there in the last 400 ms, with that one
abbrev pub crowd : Ring → List CaughtFields → CaughtFields → ℕ
crowd ring past c = if begins_there ring past c then length (filter (λ b. is_recent b c) (begun_at ring (point_of ring c) (c ∷ past))) else 0

-- of these the first in time
abbrev pub first_crowded : Ring → List CaughtFields → CaughtFields → CaughtFields
first_crowded ring past c = first_of_past c (filter (λ b. is_recent b c) (begun_at ring (point_of ring c) (c ∷ past)))

-- ---- clashes

-- the latest copy of its source and number said something else, less than 400 ms before: two devices with one address
abbrev pub differs : List CaughtFields → CaughtFields → Option CaughtFields → Bool
differs past c None = false
differs past c (Some b) = is_recent b c && not (says_same b.copy c.copy)

abbrev pub is_clash : List CaughtFields → CaughtFields → Bool
is_clash past c = begins past c && differs past c (find (λ b. key_of b == key_of c) past)

-- ---- the order of numbers

-- how far one number of 16 bits is ahead of another
abbrev pub ahead_of : ℕ → ℕ → ℕ
ahead_of n m = (n + 65536 - m) % 65536

-- a number is behind another: by at most 4096
abbrev pub is_behind : ℕ → ℕ → Bool
is_behind n m = nat_le 61440 (ahead_of n m)

-- a copy is behind the greatest number so far, less than 400 ms after that
abbrev pub is_passed : Option CaughtFields → CaughtFields → Bool
is_passed None c = false
is_passed (Some top) c = is_behind c.copy.seq top.copy.seq && is_recent top c

-- the greatest so far with one more: that one, unless it is behind
abbrev pub top_with : CaughtFields → Option CaughtFields → Option CaughtFields
top_with c top = if is_passed top c then top else Some c

-- of the first copies of frames on their direction, of a source and a priority (by their key): the greatest so far
abbrev pub top_in : ℕ → List CaughtFields → Option CaughtFields
top_in key [] = None
top_in key (b ∷ past) = if (beside_key b == key) && not (is_again past b) then top_with b (top_in key past) else top_in key past

abbrev pub top_before : List CaughtFields → CaughtFields → Option CaughtFields
top_before past c = top_in (beside_key c) past

-- a frame's first copy on a direction, behind a greater number of its source and priority, less than 400 ms after that
abbrev pub is_overtaken : List CaughtFields → CaughtFields → Bool
is_overtaken past c = not (is_again past c) && is_passed (top_before past c) c

-- ---- how many copies

-- how many copies are such, by their pasts
abbrev pub count_copies : (List CaughtFields → CaughtFields → Bool) → List CaughtFields → ℕ
count_copies is_such [] = 0
count_copies is_such (c ∷ past) = if is_such past c then count_copies is_such past + 1 else count_copies is_such past

-- the most that is told of a copy
abbrev pub most_of : (List CaughtFields → CaughtFields → ℕ) → List CaughtFields → ℕ
most_of amount [] = 0
most_of amount (c ∷ past) = max (amount past c) (most_of amount past)

-- the most copies of a frame that a direction carried
abbrev pub most_carried : ℕ → List CaughtFields → ℕ
most_carried direction copies = most_of (λ past c. if is_in direction c then carried_before past c + 1 else 0) copies

-- the first copy in time that is such
abbrev pub first_such : (List CaughtFields → CaughtFields → Bool) → List CaughtFields → Option CaughtFields
first_such is_such [] = None
first_such is_such (c ∷ past) = first_or (first_such is_such past) (if is_such past c then Some c else None)
  where
    first_or : Option CaughtFields → Option CaughtFields → Option CaughtFields
    first_or None other = other
    first_or (Some found) other = Some found
