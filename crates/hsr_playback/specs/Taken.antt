-- Where the device's numbers don't go on by one.
use Rattle.std.specs.Prelude.{ℕ, ◌+◌, ◌%◌, ◌==◌, ◌&&◌, is_none, Bool, List, [], ◌∷◌, Option, Some, None, option_map, if◌then◌else◌}
use Rattle.hsr_playback.specs.declared.taken.Jump.{Jump}
use Rattle.hsr_playback.specs.declared.taken.Taken.{Taken}

-- the next number
abbrev pub next_of : ℕ → ℕ
next_of n = (n + 1) % 65536

abbrev pub jump_to : ℕ → ℕ → Option (ℕ × ℕ)
jump_to next seen = if next == seen then None else Some (next, seen)

-- the next number and that which was seen, where they differ
abbrev pub jump_between : Option ℕ → Option ℕ → Option (ℕ × ℕ)
jump_between None seen = None
jump_between (Some last) None = None
jump_between (Some last) (Some seen) = jump_to (next_of last) seen

-- both numbers were the next
abbrev pub goes_on : Jump → Bool
goes_on jump = is_none jump.number && is_none jump.life

-- the number before the first one
abbrev pub before : Option ℕ → Option ℕ
before first = option_map (λ n. (n + 65535) % 65536) first

-- the last number that was observed
abbrev pub last_of : Option ℕ → Option ℕ → Option ℕ
last_of last None = last
last_of last (Some seen) = Some seen

abbrev pub jump_at : Taken → Taken → Jump
jump_at last seen = record { number = jump_between last.number seen.number; life = jump_between last.life seen.life }

abbrev pub last_at : Taken → Taken → Taken
last_at last seen = record { number = last_of last.number seen.number; life = last_of last.life seen.life }

-- for each event, behind one whose last numbers were these
abbrev pub jumps_from : Taken → List Taken → List Jump
jumps_from last [] = []
jumps_from last (seen ∷ taken) = jump_at last seen ∷ jumps_from (last_at last seen) taken
