-- A scenario that is played, and why one isn't.
use Rattle.std.proofs.Common.{◌≡◌, ◌≢◌, ℕ, inl, inr, List, Result, Ok, Err, IfErr, IsOk, OnOk, sym, subst, ap, ◌∙◌}
use Rattle.std.specs.Str.{IsUtf8}
use Rattle.hsr_scenario.specs.Fallible.{FailsAt}
use Rattle.hsr_scenario.specs.Meaning.{Meant, meaning}
use Rattle.hsr_scenario.specs.declared.fault.ScenarioFault.{ScenarioFault}
use Rattle.hsr_scenario.specs.declared.fault.What.{What}
use Rattle.hsr_scenario.specs.declared.fault.What.TheVariants.{NoMemory}
use Rattle.hsr_plan_scenario.specs.Refusals.{IsNoScenario, IsUnplayed, IsUnplayedIf, IsWrong}
use Rattle.hsr_plan_scenario.specs.Says.{IsPlayed, IsScenario}
use Rattle.hsr_plan_scenario.specs.declared.judging.Wrong.{Wrong}
use Rattle.hsr_plan_scenario.proofs.Troubles.{scenario_fault}

-- what is read as a scenario that isn't played is no scenario
pub unplayed_so : (text : List ℕ) (m : Meant) → meaning text ≡ Ok m → IsUnplayed m → IsNoScenario text
unplayed_so text m means why = inr (subst IsUnplayedIf (sym means) why)

-- what isn't read is none either
pub unread_so : (text : List ℕ) (fault : ScenarioFault) (what : What) → what ≢ NoMemory → FailsAt fault what (meaning text) → IsNoScenario text
unread_so text fault what known is = inr (subst IsUnplayedIf (sym (scenario_fault fault what (meaning text) known is)) tt)

-- what holds of a text holds of the octets that it is
pub played_so : {E : Type 0} (r : Result (Unit {0}) E) (text octets : List ℕ) (m : Meant) → text ≡ octets → IsUtf8 octets → meaning text ≡ Ok m → OnOk r (IsPlayed m)
    → OnOk r (IsScenario octets)
played_so (Ok done) text octets m same is means played = (is, (m, ap meaning (sym same) ∙ means, played))
played_so (Err e) text octets m same is means played = tt

pub wrong_so : (r : Result (Unit {0}) Wrong) (text octets : List ℕ) → text ≡ octets → IfErr r (IsWrong text) → IfErr r (IsWrong octets)
wrong_so r text octets same h = subst (λ t. IfErr r (IsWrong t)) same h
