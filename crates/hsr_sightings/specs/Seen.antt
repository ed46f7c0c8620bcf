-- What is kept of a frame as a point saw it, and what follows from that.
use Rattle.std.specs.Prelude.{ℕ, ◌+◌, ◌-◌, ◌*◌, ◌≤◌, ◌<◌, ◌^◌, ◌==◌, ◌&&◌, ◌||◌, not, nat_lt, Bool, false, if◌then◌else◌, Option, Some, None, is_some}
use Rattle.hsr_frame_groups.specs.Frames.{CaughtFields}
use Rattle.hsr_recent_table.specs.declared.previous.Keyed.{Keyed}
use Rattle.hsr_sightings.specs.Ring.{Ring, forget_time, point_of, way_of}
use Rattle.hsr_sightings.specs.declared.sighting.Fate.{Fate}
use Rattle.hsr_sightings.specs.declared.sighting.Fate.TheVariants.{Twice, Once, More, Open}
use Rattle.hsr_sightings.specs.Fields.{Sighting}

-- a frame at a point, as one number: there are 64 points at most
abbrev pub key_by : ℕ → ℕ → ℕ
key_by first point = first * 64 + point

-- the moment of a copy, and its frame and its point
abbrev pub sighting_keyed : Ring → ℕ → CaughtFields → Keyed
sighting_keyed ring first c = record { at = c.at; key = key_by first (point_of ring c) }

abbrev pub came_both : Sighting → Bool
came_both seen = is_some seen.by_0 && is_some seen.by_1

-- the way that it came by, the first of both
abbrev pub way_of_seen : Sighting → ℕ
way_of_seen seen = if is_some seen.by_0 then 0 else 1

abbrev pub first_of : Option ℕ → ℕ → Option ℕ
first_of None at = Some at
first_of (Some known) at = Some known

-- with a copy that came one way
abbrev pub with_copy : Sighting → ℕ → ℕ → Bool → Sighting
with_copy seen way at is_again = record seen {
  by_0 = if way == 0 then first_of seen.by_0 at else seen.by_0;
  by_1 = if way == 1 then first_of seen.by_1 at else seen.by_1;
  is_more = seen.is_more || is_again;
}

-- less than 400 ms after the first packet or before the end
abbrev pub is_edge : Ring → ℕ → Bool
is_edge ring at = not ring.is_whole && (nat_lt (at - ring.start) forget_time || nat_lt (ring.end - at) forget_time)

abbrev pub fate_of : Ring → Sighting → Fate
fate_of ring seen = if seen.is_more then More else (if came_both seen then Twice else (if is_edge ring seen.at then Open else Once))

abbrev pub skew_of : Sighting → Option ℕ
skew_of seen = apart seen.by_0 seen.by_1
  where
    apart : Option ℕ → Option ℕ → Option ℕ
    apart None b = None
    apart (Some a) None = None
    apart (Some a) (Some b) = Some ((a - b) + (b - a))

-- a sighting that begins with a copy
abbrev pub begun : CaughtFields → ℕ → ℕ → ℕ → Sighting
begun c i point order = record { first = i; at = c.at; point = point; order = order; by_0 = None; by_1 = None; is_more = false }

-- a sighting with a copy, by how often its direction carried its frame before
abbrev pub joined : Ring → CaughtFields → ℕ → Sighting → Sighting
joined ring c carried seen = with_copy seen (way_of ring c) c.at (nat_lt 0 carried)

-- a moment comes no sooner than a sighting's first copy, and so soon after it that 32 bits have room for the nanoseconds
pub record IsSoonAfter (seen : Sighting) (at : ℕ) : Type 0 where
  pub later : seen.at ≤ at
  pub soon : at < seen.at + 2 ^ 32
