-- What was written as a word is read again.
use Rattle.std.proofs.Common.{◌≡◌, Some, refl}
use Rattle.hsr_text.specs.Moments.{unit_of, unit_word}
use Rattle.hsr_text.specs.declared.time_unit.TimeUnit.{TimeUnit}
use Rattle.hsr_text.specs.declared.time_unit.TimeUnit.TheVariants.{Milliseconds, Microseconds}

pub unit_again : (unit : TimeUnit) → unit_of (unit_word unit) ≡ Some unit
unit_again Milliseconds = refl
unit_again Microseconds = refl
