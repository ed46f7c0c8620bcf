-- The octets of packets are moved down, one packet after the other: what the packets are stays.
use Rattle.std.proofs.Common.{◌≡◌, ℕ, zero, suc, ◌+◌, ◌-◌, ◌<◌, ◌≤◌, List, [], ◌∷◌, ◌++◌, length, take, drop, get_or, refl, sym, ap, subst, ◌∙◌, arith, le_refl}
use Rattle.std.specs.List.{copy_within}
use Rattle.std.specs.Prelude.{slice_set}
use Rattle.std.proofs.lemmas.List.{drop-drop, drop-take, drop_at, drop-set-lt, drop_more, length-drop, length-take-le, take-take, take_at}
use Rattle.std.proofs.Math.Seq.{paste}
use Rattle.std.proofs.lemmas.List.Edits.{drop-paste, take-paste}
use Rattle.hsr_capture_reader.specs.declared.rooms.Room.{Room}
use Rattle.hsr_capture_reader.specs.Packing.{IsHalfMoved, octets_of}
use Rattle.hsr_capture_reader.specs.Rooms.{AreApart, packet_by, packets_by}

-- ---- what a copy changes

-- the file, with some of its octets copied down
abbrev copied : List ℕ → ℕ → ℕ → ℕ → List ℕ
copied file at kept to = paste file to (drop at file) kept

enough : (file : List ℕ) (at kept to : ℕ) → at + kept ≤ length file → kept ≤ length (drop at file)
enough file at kept to within = omega (arith, within, length-drop at file)

fronts : (file : List ℕ) (at kept to : ℕ) → to ≤ at → at + kept ≤ length file → take (to + kept) (copied file at kept to) ≡ take to file ++ take kept (drop at file)
fronts file at kept to down within = take-paste file to (drop at file) kept (omega arith) (enough file at kept to within)

front_len : (file : List ℕ) (at kept to : ℕ) → to ≤ at → at + kept ≤ length file → length (take to file) ≡ to
front_len file at kept to down within = length-take-le to file (omega arith)

same_there : (file : List ℕ) (at kept to : ℕ) → to ≤ at → at + kept ≤ length file → take kept (drop to (copied file at kept to)) ≡ take kept (drop at file)
same_there file at kept to down within =
    sym (drop-take to kept (copied file at kept to)) ∙ ap (drop to) (fronts file at kept to down within)
    ∙ drop_at (take to file) (take kept (drop at file)) to (front_len file at kept to down within)

same_below : (file : List ℕ) (at kept to : ℕ) → to ≤ at → at + kept ≤ length file → take to (copied file at kept to) ≡ take to file
same_below file at kept to down within =
    sym (take-take to (to + kept) (copied file at kept to) (omega arith)) ∙ ap (take to) (fronts file at kept to down within)
    ∙ take_at (take to file) (take kept (drop at file)) to (front_len file at kept to down within)

same_behind : (file : List ℕ) (at kept to : ℕ) → to ≤ at → at + kept ≤ length file → drop (to + kept) (copied file at kept to) ≡ drop (to + kept) file
same_behind file at kept to down within = drop-paste file to (drop at file) kept (omega arith) (enough file at kept to within)

-- ---- octets of two files that are partly the same

drop_further : (from m : ℕ) (before after : List ℕ) → from ≤ m → drop from after ≡ drop from before → drop m after ≡ drop m before
drop_further from m before after further same =
    let e : from + (m - from) ≡ m = omega arith in
    ap (λ k. drop k after) (sym e) ∙ sym (drop-drop (m - from) from after) ∙ ap (drop (m - from)) same ∙ drop-drop (m - from) from before ∙ ap (λ k. drop k before) e

cut_same : (at kept to : ℕ) (before after : List ℕ) → at + kept ≤ to → take to after ≡ take to before → take kept (drop at after) ≡ take kept (drop at before)
cut_same at kept to before after below same =
    sym (drop-take at kept after) ∙ ap (drop at) (sym (take-take (at + kept) to after below) ∙ ap (take (at + kept)) same ∙ take-take (at + kept) to before below) ∙ drop-take at kept before

-- ---- packets that stand apart

earlier : (len to from : ℕ) (rooms : List Room) → to ≤ from → AreApart len from rooms → AreApart len to rooms
earlier len to from [] below apart = omega (arith, below, apart)
earlier len to from (room ∷ rooms) below apart = (omega (arith, below, apart.0), apart.1)

within : (len from : ℕ) (rooms : List Room) → AreApart len from rooms → from ≤ len
within len from [] apart = apart
within len from (room ∷ rooms) apart = omega (arith, apart.0, within len (room.at + room.kept) rooms apart.1)

-- their octets stand where nothing changed
untouched : (len from before : ℕ) (old new : List ℕ) (rooms : List Room) → drop from new ≡ drop from old → AreApart len from rooms → packets_by new before rooms ≡ packets_by old before rooms
untouched len from before old new [] same apart = refl
untouched len from before old new (room ∷ rooms) same apart =
    let from_at = apart.0 in
    let head : drop room.at new ≡ drop room.at old = drop_further from room.at old new from_at same in
    let rest : packets_by new (suc before) rooms ≡ packets_by old (suc before) rooms
    = untouched len (room.at + room.kept) (suc before) old new rooms (drop_further from (room.at + room.kept) old new (omega (arith, from_at)) same) apart.1 in
    rw (head, rest) refl

-- ---- one packet is moved

pub half_is_down : (len to i : ℕ) (rooms : List Room) (d : Room) → i < length rooms → IsHalfMoved len to i rooms → to ≤ (get_or rooms i d).at
half_is_down len to i [] d there half = absurd (omega (arith, there))
half_is_down len to zero (room ∷ rooms) d there half = half.0
half_is_down len to (suc i) (room ∷ rooms) d there half = half_is_down len to i rooms d (omega (arith, there)) half.1

pub half_is_within : (len to i : ℕ) (rooms : List Room) (d : Room) → i < length rooms → IsHalfMoved len to i rooms → (get_or rooms i d).at + (get_or rooms i d).kept ≤ len
half_is_within len to i [] d there half = absurd (omega (arith, there))
half_is_within len to zero (room ∷ rooms) d there half = within len (room.at + room.kept) rooms half.1
half_is_within len to (suc i) (room ∷ rooms) d there half = half_is_within len to i rooms d (omega (arith, there)) half.1

pub half_goes_on : (len to i : ℕ) (rooms : List Room) (d : Room) → i < length rooms → IsHalfMoved len to i rooms
    → IsHalfMoved len (to + (get_or rooms i d).kept) (i + 1) (slice_set rooms i (record (get_or rooms i d) { at = to }))
half_goes_on len to i [] d there half = absurd (omega (arith, there))
half_goes_on len to zero (room ∷ rooms) d there half =
    let down = half.0 in
    (le_refl _, earlier len (to + room.kept) (room.at + room.kept) rooms (omega (arith, down)) half.1)
half_goes_on len to (suc i) (room ∷ rooms) d there half =
    let e : suc i + 1 ≡ suc (i + 1) = omega arith in
    let below = half.0 in
    let rest = half_goes_on len to i rooms d (omega (arith, there)) half.1 in
    rw e (omega (arith, below), rest)

moved_same : (len to i before : ℕ) (old new : List ℕ) (rooms : List Room) (d : Room) → i < length rooms → IsHalfMoved len to i rooms
    → take to new ≡ take to old → take (get_or rooms i d).kept (drop to new) ≡ take (get_or rooms i d).kept (drop (get_or rooms i d).at old)
    → drop (to + (get_or rooms i d).kept) new ≡ drop (to + (get_or rooms i d).kept) old
    → packets_by new before (slice_set rooms i (record (get_or rooms i d) { at = to })) ≡ packets_by old before rooms
moved_same len to i before old new [] d there half below here behind = absurd (omega (arith, there))
moved_same len to zero before old new (room ∷ rooms) d there half below here behind =
    let down = half.0 in
    let rest : packets_by new (suc before) rooms ≡ packets_by old (suc before) rooms
    = untouched len (to + room.kept) (suc before) old new rooms behind (earlier len (to + room.kept) (room.at + room.kept) rooms (omega (arith, down)) half.1) in
    rw (here, rest) refl
moved_same len to (suc i) before old new (room ∷ rooms) d there half below here behind =
    let head : take room.kept (drop room.at new) ≡ take room.kept (drop room.at old) = cut_same room.at room.kept to old new half.0 below in
    rw head (ap (λ ps. packet_by old before room ∷ ps) (moved_same len to i (suc before) old new rooms d (omega (arith, there)) half.1 below here behind))

pub one_moved : (to i : ℕ) (old new : List ℕ) (rooms : List Room) (room moved : Room) (end : ℕ) → i < length rooms → IsHalfMoved (length old) to i rooms
    → room ≡ get_or rooms i room → end ≡ room.at + room.kept → new ≡ copy_within old room.at end to → moved ≡ record room { at = to }
    → packets_by new 0 (slice_set rooms i moved) ≡ packets_by old 0 rooms
one_moved to i old new rooms room moved end there half is end_is new_is moved_is =
    let len = length old in
    let down : to ≤ room.at = subst (λ r. to ≤ r.at) (sym is) (half_is_down len to i rooms room there half) in
    let inside : room.at + room.kept ≤ len = subst (λ r. r.at + r.kept ≤ len) (sym is) (half_is_within len to i rooms room there half) in
    let kept : end - room.at ≡ room.kept = omega (arith, end_is) in
    let copy : new ≡ copied old room.at room.kept to = new_is ∙ ap (λ k. copied old room.at k to) kept in
    let below : take to new ≡ take to old = ap (take to) copy ∙ same_below old room.at room.kept to down inside in
    let here : take room.kept (drop to new) ≡ take room.kept (drop room.at old) = ap (λ f. take room.kept (drop to f)) copy ∙ same_there old room.at room.kept to down inside in
    let behind : drop (to + room.kept) new ≡ drop (to + room.kept) old = ap (drop (to + room.kept)) copy ∙ same_behind old room.at room.kept to down inside in
    let same : moved ≡ record (get_or rooms i room) { at = to } = moved_is ∙ ap {A = Room} (λ r. record r { at = to }) is in
    ap (λ r. packets_by new 0 (slice_set rooms i r)) same
    ∙ moved_same len to i 0 old new rooms room there half below
    (subst (λ r. take r.kept (drop to new) ≡ take r.kept (drop r.at old)) is here)
    (subst (λ r. drop (to + r.kept) new ≡ drop (to + r.kept) old) is behind)

-- where it ends
pub one_ends : (to i : ℕ) (rooms : List Room) (room moved : Room) → i < length rooms → room ≡ get_or rooms i room
    → to + room.kept + octets_of (drop (i + 1) (slice_set rooms i moved)) ≡ to + octets_of (drop i rooms)
one_ends to i rooms room moved there is =
    let rest : drop (i + 1) (slice_set rooms i moved) ≡ drop (i + 1) rooms = drop-set-lt (i + 1) rooms i moved (omega arith) in
    let here : octets_of (drop i rooms) ≡ room.kept + octets_of (drop (i + 1) rooms)
    = ap octets_of (drop_more rooms i room there) ∙ ap (λ r. r.kept + octets_of (drop (i + 1) rooms)) (sym is) in
    rw (rest, here) (omega arith)

-- ---- all were moved

pub front_same : (len to before : ℕ) (file : List ℕ) (rooms : List Room) → IsHalfMoved len to (length rooms) rooms → packets_by (take to file) before rooms ≡ packets_by file before rooms
front_same len to before file [] half = refl
front_same len to before file (room ∷ rooms) half =
    let head : take room.kept (drop room.at (take to file)) ≡ take room.kept (drop room.at file)
    = cut_same room.at room.kept to file (take to file) half.0 (take-take to to file (le_refl to)) in
    rw head (ap (λ ps. packet_by file before room ∷ ps) (front_same len to (suc before) file rooms half.1))

pub all_are_within : (len to : ℕ) (rooms : List Room) → IsHalfMoved len to (length rooms) rooms → to ≤ len
all_are_within len to [] half = half
all_are_within len to (room ∷ rooms) half = all_are_within len to rooms half.1
