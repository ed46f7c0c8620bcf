-- Frames by the packet that began them, and their copies. A past is the list of the copies that were captured before, the latest first.
use Rattle.std.specs.Prelude.{ℕ, ◌==◌, Bool, if◌then◌else◌, List, [], ◌∷◌}
use Rattle.hsr_frame_groups.specs.Frames.{CaughtFields, first_copy}

abbrev pub frame_of : List CaughtFields → CaughtFields → ℕ
frame_of past c = (first_copy past c).packet

abbrev pub begins : List CaughtFields → CaughtFields → Bool
begins past c = frame_of past c == c.packet

-- the copies of a frame
abbrev pub copies_of : ℕ → List CaughtFields → List CaughtFields
copies_of frame [] = []
copies_of frame (c ∷ past) = if frame_of past c == frame then c ∷ copies_of frame past else copies_of frame past

-- the copies of its frame that were captured before a copy
abbrev pub earlier : List CaughtFields → CaughtFields → List CaughtFields
earlier past c = copies_of (frame_of past c) past
