-- The numbers that the device gave: those of the first observed copy of what a passage caused.
use Rattle.std.specs.Prelude.{ℕ, ◌+◌, ◌*◌, ◌==◌, nat_le, Bool, List, [], ◌∷◌, length, map, slice_get, unwrap_or, Option, Some, None, Result, Ok, Err, if◌then◌else◌}
use Rattle.std.specs.List.{range_with_len, slice_set}
use Rattle.std.specs.Option.{option_or}
use Rattle.hsr_frame.specs.Grammar.{number_at}
use Rattle.hsr_frame.specs.declared.fault.FrameFault.{FrameFault}
use Rattle.hsr_tag.specs.Seen.{classified}
use Rattle.hsr_tag.specs.Tag.{TaggedFields}
use Rattle.hsr_tag.specs.declared.seen.Seen.{Seen}
use Rattle.hsr_tag.specs.declared.seen.Seen.TheVariants.{Plain, Tagged}
use Rattle.hsr_playback.specs.Playing.{taken_at}
use Rattle.hsr_playback.specs.declared.expected.Expected.{Expected}
use Rattle.hsr_playback.specs.declared.passage.Passage.{Passage}
use Rattle.hsr_playback.specs.declared.taken.Jump.{Jump}
use Rattle.hsr_playback.specs.declared.taken.Taken.{Taken}
use Rattle.hsr_judging.specs.declared.matching.Got.{Got}

-- ---- what an observed copy has

-- the counter in a supervision payload
abbrev pub counter_in : List ℕ → Option ℕ
counter_in payload = if nat_le 4 (length payload) then Some (number_at 2 payload) else None

abbrev pub no_numbers : Taken
no_numbers = record { number = None; life = None }

abbrev pub number_in : Expected → TaggedFields → Option ℕ
number_in e f = if e.is_numbered then Some f.seq else None

abbrev pub life_in : Expected → TaggedFields → Option ℕ
life_in e f = if e.is_life then counter_in f.payload else None

-- what an observed copy has of the numbers of the device's own that an expected one has
abbrev pub numbers_in : Expected → Result Seen FrameFault → Taken
numbers_in e (Ok (Tagged f)) = record { number = number_in e f; life = life_in e f }
numbers_in e (Ok (Plain f)) = no_numbers
numbers_in e (Err fault) = no_numbers

-- the expected copy that an observed one was matched with
abbrev pub copy_of : List Expected → Option Got → Option Expected
copy_of es None = None
copy_of es (Some got) = slice_get es got.expected

-- ---- what was taken over

-- the first of two that is there
abbrev pub first_of : Taken → Taken → Taken
first_of a b = record { number = option_or a.number b.number; life = option_or a.life b.life }

-- what an observed copy has of what a passage caused
abbrev pub numbers_at : ℕ → Passage → Option Expected → Taken
numbers_at cause s None = no_numbers
numbers_at cause s (Some e) = if e.cause == cause then numbers_in e (classified s.octets) else no_numbers

-- the numbers of the first observed copy of what a passage caused
abbrev pub taken_by : ℕ → List Expected → List Passage → List (Option Got) → Taken
taken_by cause es [] gs = no_numbers
taken_by cause es (s ∷ ss) [] = no_numbers
taken_by cause es (s ∷ ss) (g ∷ gs) = first_of (numbers_at cause s (copy_of es g)) (taken_by cause es ss gs)

-- of each of so many passages
abbrev pub taken_of : ℕ → List Expected → List Passage → List (Option Got) → List Taken
taken_of passages es ss gs = map (λ cause. taken_by cause es ss gs) (range_with_len 0 passages)

-- with what one more observed copy has
abbrev pub taken_with : List Taken → Passage → Option Expected → List Taken
taken_with taken s None = taken
taken_with taken s (Some e) = slice_set taken e.cause (first_of (taken_at taken e.cause) (numbers_in e (classified s.octets)))

-- ---- where they didn't go on by one

abbrev pub no_jump : Jump
no_jump = record { number = None; life = None }

-- the passage that caused a copy with a number of the device's own
abbrev pub cause_if : Bool → ℕ → Option ℕ
cause_if is_numbered cause = if is_numbered then Some cause else None

abbrev pub numbered_cause : Option Expected → Option ℕ
numbered_cause None = None
numbered_cause (Some e) = cause_if e.is_numbered e.cause

abbrev pub jump_of : (ℕ → Jump) → Option ℕ → Jump
jump_of left None = no_jump
jump_of left (Some cause) = left cause

-- what isn't told yet, once that of a passage is
abbrev pub left_after : (ℕ → Jump) → Option ℕ → ℕ → Jump
left_after left None n = left n
left_after left (Some cause) n = if n == cause then no_jump else left n

-- of each observed copy the jump of the passage that caused it, which is told once: of its first copy with a number of the device's own
abbrev pub told_from : (ℕ → Jump) → List Expected → List (Option Got) → List Jump
told_from left es [] = []
told_from left es (g ∷ gs) = let cause = numbered_cause (copy_of es g) in jump_of left cause ∷ told_from (left_after left cause) es gs

-- the jumps by the index of the passage
abbrev pub jumps_in : List Jump → ℕ → Jump
jumps_in jumps n = unwrap_or (slice_get jumps n) no_jump

abbrev pub jumps_told : List Jump → List Expected → List (Option Got) → List Jump
jumps_told jumps es gs = told_from (jumps_in jumps) es gs

-- the jump of a passage, and those that aren't told then
abbrev pub untold : List Jump → Option ℕ → Jump × List Jump
untold left None = (no_jump, left)
untold left (Some cause) = (jumps_in left cause, slice_set left cause no_jump)
