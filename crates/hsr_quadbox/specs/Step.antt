-- One step of a QuadBox: the answer to a call, and what the box holds after it.
use Rattle.std.specs.Prelude.{ℕ, ◌+◌, ◌==◌, max, Bool, true, false, List, [], ◌∷◌, Result, Ok, Err}
use Rattle.hsr_frame.specs.Counters.{step_limit}
use Rattle.hsr_frame.specs.declared.fault.FrameFault.{FrameFault}
use Rattle.hsr_frame.specs.declared.fault.Spent.{Spent}
use Rattle.hsr_tag.specs.Seen.{classified}
use Rattle.hsr_tag.specs.declared.seen.Seen.{Seen}
use Rattle.hsr_forwarding.specs.Tables.{aged, counted_with, judged}
use Rattle.hsr_forwarding.specs.declared.judged.Judged.{Judged}
use Rattle.hsr_quadbox.specs.Wanted.{wanted}
use Rattle.hsr_quadbox.specs.Machine.{Machine}
use Rattle.hsr_quadbox.specs.declared.quadbox.QuadVerdict.{QuadVerdict}
use Rattle.hsr_quadbox.specs.declared.wanted.QuadPort.{QuadPort}

-- the effective moment: one that is earlier than the last is read as the last
abbrev pub now_at : Machine → ℕ → ℕ
now_at machine at = max machine.moment at

-- ---- an arrival

-- the verdict of a QuadBox, by its ports
abbrev pub verdict_of : Judged → QuadVerdict
verdict_of judged = let passes = judged.passes in record { out = passes.a ∷ passes.b ∷ passes.c ∷ passes.d ∷ []; cause = judged.cause }

-- what came to port x, at the effective moment
abbrev pub after_arrival : ℕ → Machine → ℕ → QuadPort → Result Seen FrameFault → QuadVerdict × Machine
after_arrival capacity machine now x seen =
    let outcome = judged capacity machine.notes (wanted x seen) seen now in (
      verdict_of outcome.0,
      record machine {
        notes = outcome.1;
        counters = counted_with machine.counters outcome.0 true;
        moment = now;
        accepted = machine.accepted + 1;
      },
    )

abbrev pub arrive_or_spent : ℕ → Machine → ℕ → QuadPort → List ℕ → Bool → Result QuadVerdict Spent × Machine
arrive_or_spent capacity machine now x octets true = (Err (record {}), machine)
arrive_or_spent capacity machine now x octets false = let after = after_arrival capacity machine now x (classified octets) in (Ok after.0, after.1)

-- Spent only where 2^62 arrivals were accepted
unfoldable pub arrive_step : ℕ → Machine → ℕ → QuadPort → List ℕ → Result QuadVerdict Spent × Machine
arrive_step capacity machine at x octets = arrive_or_spent capacity machine (now_at machine at) x octets (machine.accepted == step_limit)

-- ---- ageing, which isn't counted as a step

abbrev pub age_step : Machine → ℕ → Machine
age_step machine at = record machine { notes = aged machine.notes (now_at machine at); moment = now_at machine at }
