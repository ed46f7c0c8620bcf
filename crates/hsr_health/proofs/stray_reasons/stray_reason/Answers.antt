use Rattle.std.proofs.Common.{◌∙◌, Some, ap, refl, sym}
use Rattle.std.specs.Prelude.{option_map}
use Rattle.hsr_health.specs.Told.{stray_spot}
use Rattle.hsr_health.specs.What.{stray_what}
use Rattle.hsr_health.proofs.Finding.{none_found, some_found}
use Rattle.hsr_health.proofs.stray_reasons.stray_reason.Goals as goal

pub returns-in-None : goal.returns-in-None
returns-in-None c = λ is_such strays count first. none_found is_such strays (sym first ∙ c.in-None.is)

pub returns-in-Some : goal.returns-in-Some
returns-in-Some c = λ is_such strays count first.
    let here = sym first ∙ c.in-Some.is in
    (refl, count, some_found is_such strays c.in-Some.first here, ap stray_spot (sym here), ap Some c.stray_what.ensures ∙ ap (option_map stray_what) (sym here))
