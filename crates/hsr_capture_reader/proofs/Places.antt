-- Packets as rooms: where their octets stand in a file.
use Rattle.std.proofs.Common.{◌≡◌, ℕ, suc, ◌+◌, ◌-◌, ◌<◌, ◌≤◌, List, [], ◌∷◌, ◌++◌, length, take, drop, append_assoc, refl, sym, ap, subst, ◌∙◌, arith, le_refl}
use Rattle.std.specs.Prelude.{min, reverse, slice_range}
use Rattle.std.proofs.lemmas.List.{drop-drop, drop-take, length-drop, length-take, take-take, take_all, take_min, reverse-append}
use Rattle.hsr_capture_reader.specs.declared.blocks.Start.{Start}
use Rattle.hsr_capture_reader.specs.declared.rooms.Room.{Room}
use Rattle.hsr_capture_reader.specs.Fields.{PacketFields}
use Rattle.hsr_capture_reader.specs.Rooms.{AreApart, StandAt, end_from, packet_by, packets_by}

-- ---- rooms, one behind the other

-- the last room
pub last_room : (file : List ℕ) (before : ℕ) (rooms : List Room) (room : Room)
    → packets_by file before (rooms ++ room ∷ []) ≡ packets_by file before rooms ++ packet_by file (before + length rooms) room ∷ []
last_room file before [] room = let e : before + 0 ≡ before = omega arith in rw e refl
last_room file before (first ∷ rooms) room =
    let e : suc before + length rooms ≡ before + suc (length rooms) = omega arith in
    ap (λ ps. packet_by file before first ∷ ps) (last_room file (suc before) rooms room ∙ rw e refl)

last_of_all : (file : List ℕ) (rooms : List Room) (room : Room) → packets_by file 0 (rooms ++ room ∷ []) ≡ packets_by file 0 rooms ++ packet_by file (length rooms) room ∷ []
last_of_all file rooms room = let e : 0 + length rooms ≡ length rooms = omega arith in last_room file 0 rooms room ∙ ap (λ n. packets_by file 0 rooms ++ packet_by file n room ∷ []) e

pub many_rooms : (file : List ℕ) (before : ℕ) (rooms : List Room) → length (packets_by file before rooms) ≡ length rooms
many_rooms file before [] = refl
many_rooms file before (room ∷ rooms) = ap suc (many_rooms file (suc before) rooms)

-- the last packet stands behind the others
pub apart_more : (len from : ℕ) (rooms : List Room) (room : Room) → AreApart len from rooms → end_from from rooms ≤ room.at → room.at + room.kept ≤ len → AreApart len from (rooms ++ room ∷ [])
apart_more len from [] room apart behind within = (behind, within)
apart_more len from (first ∷ rooms) room apart behind within = (apart.0, apart_more len (first.at + first.kept) rooms room apart.1 behind within)

pub end_more : (from : ℕ) (rooms : List Room) (room : Room) → end_from from (rooms ++ room ∷ []) ≡ room.at + room.kept
end_more from [] room = refl
end_more from (first ∷ rooms) room = end_more (first.at + first.kept) rooms room

-- a room goes, and its packet comes
pub one_back : (file : List ℕ) (whole left : List Room) (room : Room) (made more all : List PacketFields) → whole ≡ left ++ room ∷ [] → more ≡ made ++ packet_by file (length left) room ∷ []
    → packets_by file 0 whole ++ reverse made ≡ all → packets_by file 0 left ++ reverse more ≡ all
one_back file whole left room made more all is one before =
    let packet = packet_by file (length left) room in
    ap (λ l. packets_by file 0 left ++ reverse l) one ∙ ap (λ l. packets_by file 0 left ++ l) (reverse-append made (packet ∷ []))
    ∙ sym (append_assoc (packets_by file 0 left) (packet ∷ []) (reverse made))
    ∙ ap (λ l. l ++ reverse made) (sym (ap (packets_by file 0) is ∙ last_of_all file left room)) ∙ before

-- ---- octets in a file

-- the first octets of some that stand there
pub cut_stands : (file : List ℕ) (at : ℕ) (octets : List ℕ) (n : ℕ) → StandAt file at octets → take (min n (length octets)) (drop at file) ≡ take n octets
cut_stands file at octets n stands =
    let long = length octets in
    sym (take-take (min n long) long (drop at file) (omega arith)) ∙ ap (take (min n long)) (sym stands.1) ∙ take_min n octets

-- what stands behind the first octets of some that stand there
pub stand_behind : (file : List ℕ) (at : ℕ) (octets : List ℕ) (n k : ℕ) → StandAt file at octets → n ≤ length octets → StandAt file (at + n) (take k (drop n octets))
stand_behind file at octets n k stands within =
    let left = length octets - n in
    let some = drop n octets in
    let many : length (take k some) ≡ min k left = length-take k some ∙ ap (min k) (length-drop n octets) in
    let whole : n + left ≡ length octets = omega arith in
    let there : some ≡ take left (drop (at + n) file)
    = ap (drop n) (stands.1 ∙ ap (λ m. take m (drop at file)) (sym whole)) ∙ drop-take n left (drop at file) ∙ ap (take left) (drop-drop n at file) in
    let first : take k some ≡ take (length (take k some)) some = sym (take_min k some) ∙ ap (λ m. take m some) (sym (length-take k some)) in (
      omega (arith, many, stands.0),
      first ∙ ap (take (length (take k some))) there ∙ take-take (length (take k some)) left (drop (at + n) file) (omega (arith, many)),
    )

-- the body of a block
pub body_stands : (file left : List ℕ) (offset : ℕ) (start : Start) → left ≡ drop offset file → 12 ≤ start.len → start.len ≤ length left
    → StandAt file (offset + 8) (slice_range left 8 (start.len - 4))
body_stands file left offset start is shortest room =
    let long : length left ≡ length file - offset = ap length is ∙ length-drop offset file in
    let all : left ≡ take (length left) (drop offset file) = sym (take_all (length left) left (le_refl _)) ∙ ap (take (length left)) is in
    stand_behind file offset left 8 (start.len - 4 - 8) (omega (arith, long), all) (omega arith)

-- the octets of a packet behind the head of a block's body
pub captured_stands : (file : List ℕ) (offset : ℕ) (body : List ℕ) (n k : ℕ) → StandAt file (offset + 8) body → n ≤ length body → StandAt file (offset + (8 + n)) (take k (drop n body))
captured_stands file offset body n k stands within =
    let e : offset + 8 + n ≡ offset + (8 + n) = omega arith in
    subst (λ at. StandAt file at (take k (drop n body))) e (stand_behind file (offset + 8) body n k stands within)

-- the octets of a packet behind its header, at the front of what is left
pub packet_stands : (file left : List ℕ) (offset n k : ℕ) → left ≡ drop offset file → 0 < length left → n ≤ length left → StandAt file (offset + n) (take k (drop n left))
packet_stands file left offset n k is some within =
    let long : length left ≡ length file - offset = ap length is ∙ length-drop offset file in
    let all : left ≡ take (length left) (drop offset file) = sym (take_all (length left) left (le_refl _)) ∙ ap (take (length left)) is in
    stand_behind file offset left n k (omega (arith, long), all) within

-- a part is no longer than what it stands in
pub part_fits : (octets : List ℕ) (n k : ℕ) → n ≤ length octets → n + length (take k (drop n octets)) ≤ length octets
part_fits octets n k within = omega (arith, length-take k (drop n octets), length-drop n octets)
