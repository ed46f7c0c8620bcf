use Rattle.std.proofs.Common.{◌≡◌, None, drop}
use Rattle.hsr_health.specs.Told.{first_from}
use Rattle.hsr_health.proofs.silent_reason.first_silence.Given as goal

-- the first of all is that so far, or one of those that are left
abbrev pub invariant-loop-silence : goal.invariant-loop-silence
invariant-loop-silence l = first_from l.found (drop l.silence-index l.silences) ≡ first_from None l.silences
