-- How a node counts.
use Rattle.std.specs.Prelude.{ℕ, ◌+◌, ◌*◌, ◌^◌, ◌≤◌, Bool, if◌then◌else◌}
use Rattle.hsr_frame.specs.declared.node.Cause.{Cause}
use Rattle.hsr_frame.specs.declared.node.Cause.TheVariants.{Passed, Duplicate, Returned, Foreign, Local, Untagged, Tagged, Malformed}
use Rattle.hsr_frame.specs.declared.counters.Counters.{Counters}

-- how many steps a node accepts, so that no counter overflows
abbrev pub step_limit : ℕ
step_limit = 2 ^ 62

abbrev pub no_counts : Counters
no_counts = record { sent = 0; life = 0; up = 0; forwarded = 0; duplicate = 0; returned = 0; foreign = 0; local = 0; untagged = 0; tagged = 0; malformed = 0; bad_life = 0 }

abbrev pub bit : Bool → ℕ
bit b = if b then 1 else 0

-- each cause but Passed has a counter
abbrev pub counted_cause : Counters → Cause → Counters
counted_cause counters Passed = counters
counted_cause counters Duplicate = record counters { duplicate = counters.duplicate + 1 }
counted_cause counters Returned = record counters { returned = counters.returned + 1 }
counted_cause counters Foreign = record counters { foreign = counters.foreign + 1 }
counted_cause counters Local = record counters { local = counters.local + 1 }
counted_cause counters Untagged = record counters { untagged = counters.untagged + 1 }
counted_cause counters Tagged = record counters { tagged = counters.tagged + 1 }
counted_cause counters (Malformed fault) = record counters { malformed = counters.malformed + 1 }

-- an arrival is counted: its cause, whether it went up, and the copies that left by ports
abbrev pub counted : Counters → Cause → Bool → ℕ → Counters
counted counters cause up copies =
    let causes = counted_cause counters cause in
    record causes { up = causes.up + bit up; forwarded = causes.forwarded + copies }

-- what was neither passed nor a duplicate nor a node's own frame
abbrev pub dropped : Counters → ℕ
dropped c = c.foreign + c.local + c.untagged + c.tagged + c.malformed

-- of the accepted steps each goes up once at most, leaves by three ports at most, and adds two other counts at most
pub record AreWithin (counters : Counters) (accepted : ℕ) : Type 0 where
  pub up : counters.up ≤ accepted
  pub forwarded : counters.forwarded ≤ 3 * accepted
  pub others : counters.sent + counters.life + counters.duplicate + counters.returned + counters.foreign + counters.local
      + counters.untagged + counters.tagged + counters.malformed + counters.bad_life ≤ 2 * accepted
