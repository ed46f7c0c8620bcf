-- What is shown of the finished run of what is meant is what is shown of its scenario; and why a plan has no run.
use Rattle.std.proofs.Common.{◌≡◌, ℕ, List, map, true, Option, Result, Ok, Err, IfErr, IsOk, inr, refl, subst}
use Rattle.hsr_options.specs.declared.chosen.Showing.{Showing}
use Rattle.hsr_finished_run.specs.Finished.{Finished}
use Rattle.hsr_run_laws.specs.Run.{Run}
use Rattle.hsr_naming.specs.declared.names.Names.{Names}
use Rattle.hsr_naming.specs.declared.naming.Naming.TheVariants as naming
use Rattle.hsr_run_names.specs.Naming.{AreNamesOf}
use Rattle.hsr_ring.specs.Finishing.{IsFinishedBy}
use Rattle.hsr_commands.specs.Naming.{IsNaming}
use Rattle.hsr_commands.specs.ScenarioRun.{IsReported}
use Rattle.hsr_commands.specs.Shown.{IsShownOf}
use Rattle.hsr_commands.specs.declared.shown.ShownRun.{ShownRun}
use Rattle.hsr_plan_schedule.specs.Meaning.{Meaning}
use Rattle.hsr_plan_text.specs.Plan.{Plan}
use Rattle.hsr_plan_hops.specs.Moving.{MeansMoved}
use Rattle.hsr_plan_scenario.specs.Says.{names_meant_by, scenario_meant, streams_meant}
use Rattle.hsr_plan_scenario.specs.Runs.{HasNoRun, IsUnrunOf}

-- by the names and the streams that are meant, a run is called as is meant
pub called_so : (run : Run) (m : Meaning) (nodes : List (List ℕ)) (streams : List (List (List ℕ))) (names : Names) → AreNamesOf run nodes streams names
    → nodes ≡ map (λ node. node.name) m.nodes → streams ≡ streams_meant m → IsNaming true (Ok (names_meant_by m)) run (naming.Names names)
called_so run m nodes streams names are is_nodes is_streams =
    let P : List (List ℕ) → Type 0 = λ ns. AreNamesOf run ns streams names in
    let Q : List (List (List ℕ)) → Type 0 = λ ss. AreNamesOf run (map (λ node. node.name) m.nodes) ss names in
    (names, subst Q is_streams (subst P is_nodes are), refl)

pub reported_so : (capacity : ℕ) (showing : Showing) (folder : Option (List ℕ)) (m : Meaning) (f : Finished) (shown : ShownRun) → IsFinishedBy capacity m.topology m.capacity m.orders f
    → IsShownOf showing (Ok (names_meant_by m)) folder f shown → IsReported capacity showing folder (Ok (scenario_meant m)) (Ok (names_meant_by m)) shown
reported_so capacity showing folder m f shown finished is =
    let P : Finished → Type 0 = λ run. IsShownOf showing (Ok (names_meant_by m)) folder run shown in
    record {
      world = finished.world;
      played = record { meant = scenario_meant m; means = refl; plays = finished.plays };
      ended = finished.ended;
      is_shown = subst P finished.is is;
    }

-- what is meant has no run, and so its plan has none
pub unplayed_so : {X Y Z : Type 0} (r : Result X (Result Y Z)) (capacity : ℕ) (plan : Plan) (m : Meaning) → MeansMoved capacity plan m → IfErr r (λ line. IsOk line → HasNoRun capacity m)
    → IfErr r (λ line. IsOk line → IsUnrunOf capacity plan)
unplayed_so (Ok x) capacity plan m means none = tt
unplayed_so (Err line) capacity plan m means none = λ told. inr (inr (m, means, none told))
