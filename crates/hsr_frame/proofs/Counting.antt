-- Counting an arrival keeps the counters within their bounds.
use Rattle.std.proofs.Common.{ℕ, ◌+◌, ◌≤◌, Bool, true, false, arith}
use Rattle.hsr_frame.specs.Counters.{AreWithin, bit, counted, counted_cause, no_counts}
use Rattle.hsr_frame.specs.declared.node.Cause.{Cause}
use Rattle.hsr_frame.specs.declared.node.Cause.TheVariants.{Malformed}
use Rattle.hsr_frame.specs.declared.counters.Counters.{Counters}

pub AreWithin-none : AreWithin no_counts 0
AreWithin-none = record { up = omega arith; forwarded = omega arith; others = omega arith }

bit-le : (b : Bool) → bit b ≤ 1
bit-le true = omega arith
bit-le false = omega arith

-- an arrival is counted, and with it a supervision payload that could not be read
pub AreWithin-counted_bad : (counters : Counters) (cause : Cause) (up bad : Bool) (copies accepted : ℕ) → copies ≤ 3 → AreWithin counters accepted
    → let arrived = counted counters cause up copies in AreWithin (record arrived { bad_life = arrived.bad_life + bit bad }) (accepted + 1)
AreWithin-counted_bad counters cause up bad copies accepted few w = by_cause counters cause (bit up) (bit bad) copies accepted (bit-le up) (bit-le bad) few w
  where
    by_cause : (counters : Counters) (cause : Cause) (u m n accepted : ℕ) → u ≤ 1 → m ≤ 1 → n ≤ 3 → AreWithin counters accepted
        → let causes = counted_cause counters cause in AreWithin (record causes { up = causes.up + u; forwarded = causes.forwarded + n; bad_life = causes.bad_life + m }) (accepted + 1)
    by_cause counters cause u m n accepted p q r w =
        elim cause as (λ k. let causes = counted_cause counters k in AreWithin (record causes { up = causes.up + u; forwarded = causes.forwarded + n; bad_life = causes.bad_life + m }) (accepted + 1)) [
          | Malformed fault ↦ record { up = omega (arith, w.up); forwarded = omega (arith, w.forwarded); others = omega (arith, w.others) }
          | _ ↦ record { up = omega (arith, w.up); forwarded = omega (arith, w.forwarded); others = omega (arith, w.others) }
        ]

pub AreWithin-counted : (counters : Counters) (cause : Cause) (up : Bool) (copies accepted : ℕ) → copies ≤ 3 → AreWithin counters accepted → AreWithin (counted counters cause up copies) (accepted + 1)
AreWithin-counted counters cause up copies accepted few w = by_cause counters cause (bit up) copies accepted (bit-le up) few w
  where
    by_cause : (counters : Counters) (cause : Cause) (u n accepted : ℕ) → u ≤ 1 → n ≤ 3 → AreWithin counters accepted
        → let causes = counted_cause counters cause in AreWithin (record causes { up = causes.up + u; forwarded = causes.forwarded + n }) (accepted + 1)
    by_cause counters cause u n accepted p q w =
        elim cause as (λ k. let causes = counted_cause counters k in AreWithin (record causes { up = causes.up + u; forwarded = causes.forwarded + n }) (accepted + 1)) [
          | Malformed fault ↦ record { up = omega (arith, w.up); forwarded = omega (arith, w.forwarded); others = omega (arith, w.others) }
          | _ ↦ record { up = omega (arith, w.up); forwarded = omega (arith, w.forwarded); others = omega (arith, w.others) }
        ]
