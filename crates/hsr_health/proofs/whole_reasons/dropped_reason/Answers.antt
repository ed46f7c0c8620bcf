use Rattle.std.proofs.Common.{ℕ, ◌∙◌, Some, ap, arith, length, refl, sym}
use Rattle.std.specs.List.{range_with_len}
use Rattle.std.specs.Prelude.{option_map}
use Rattle.hsr_health.specs.Told.{lost_at}
use Rattle.hsr_health.specs.declared.reason.What.TheVariants as the_what
use Rattle.hsr_health.proofs.Finding.{no_sum, some_sum}
use Rattle.hsr_health.proofs.whole_reasons.dropped_reason.Goals as goal

pub returns-in-None : goal.returns-in-None
returns-in-None c =
    let nothing = no_sum (lost_at c.args.losses.now c.args.is_asked.now) (range_with_len 0 (length c.args.losses.now)) (sym c.first_lost.ensures ∙ c.in-None.is) in
    omega (arith, nothing)

pub returns-in-Some : goal.returns-in-Some
returns-in-Some c =
    let lost = lost_at c.args.losses.now c.args.is_asked.now in
    let here = sym c.first_lost.ensures ∙ c.in-Some.is in
    let some = some_sum lost (range_with_len 0 (length c.args.losses.now)) c.in-Some.interface here in (
      refl,
      c.lost_among.ensures,
      omega (arith, some),
      refl,
      ap (λ n. Some (the_what.Packets c.in-Some.interface n)) c.lost_at.ensures ∙ ap (option_map (λ (i : ℕ). the_what.Packets i (lost i))) (sym here),
    )
