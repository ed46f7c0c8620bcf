-- What nodes and sends of a plan's run are called.
use Rattle.std.proofs.Common.{◌≡◌, ℕ, List, map, refl, subst}
use Rattle.hsr_run_laws.specs.Run.{Run}
use Rattle.hsr_naming.specs.declared.names.Names.{Names}
use Rattle.hsr_naming.specs.declared.naming.Naming.TheVariants as naming
use Rattle.hsr_run_names.specs.Naming.{AreNamesOf}
use Rattle.hsr_plan_schedule.specs.Meaning.{Meaning}
use Rattle.hsr_plan_scenario.specs.Says.{streams_meant}
use Rattle.hsr_plan_report.specs.Own.{IsCalled}

-- by the names and the streams that are meant, a run is called as is meant
pub called_so : (run : Run) (m : Meaning) (nodes : List (List ℕ)) (streams : List (List (List ℕ))) (names : Names) → AreNamesOf run nodes streams names
    → nodes ≡ map (λ node. node.name) m.nodes → streams ≡ streams_meant m → IsCalled m run (naming.Names names)
called_so run m nodes streams names are is_nodes is_streams =
    let P : List (List ℕ) → Type 0 = λ ns. AreNamesOf run ns streams names in
    let Q : List (List (List ℕ)) → Type 0 = λ ss. AreNamesOf run (map (λ node. node.name) m.nodes) ss names in
    (names, subst Q is_streams (subst P is_nodes are), refl)
