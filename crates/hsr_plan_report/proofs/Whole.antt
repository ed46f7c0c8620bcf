-- A plan that is read whole, or up to a front that is too long, and what is told where nothing shows how far it is.
use Rattle.std.proofs.Common.{◌≡◌, ◌⊎◌, ℕ, Bool, ◌^◌, true, false, ◌∙◌, List, length, Option, Some, None, Result, Ok, Err, IfErr, IfOk, IfSome, IsOk, inl, inr, refl, sym, ap, subst}
use Rattle.std.specs.Io.KnownBytes.{Appends, Keeps}
use Rattle.hsr_text.specs.Whole.{IsWhole}
use Rattle.hsr_plan_text.specs.Meaning.{plan_of}
use Rattle.hsr_plan_text.specs.Plan.{Plan}
use Rattle.hsr_plan_text.specs.declared.fault.PlanFault.{PlanFault}
use Rattle.hsr_plan_scenario.specs.Ends.{TellsFault, TellsInput, TellsWhy}
use Rattle.hsr_plan_scenario.specs.declared.planning.Ending.{Ending}
use Rattle.hsr_plan_scenario.specs.declared.planning.Ending.TheVariants.{Planned, Doubted, Refused, Failed, Unwritten}
use Rattle.hsr_plan_scenario.proofs.Whole.{longer, no_plan}
use Rattle.hsr_plan_sweep.specs.Swept.{IsNamingOf, IsPlayedPlan}
use Rattle.hsr_plan_sweep.specs.Variants.{bared, bared_if, plan_in}
use Rattle.hsr_plan_sweep.specs.declared.asked.Asked.{Asked as SweepAsked}
use Rattle.hsr_plan_sweep.specs.declared.sweeping.SweptPlan.{SweptPlan}
use Rattle.hsr_plan_report.specs.Cases.{AreCaseRows}
use Rattle.hsr_plan_report.specs.Gathered.{IsSweep, IsSweepOf, IsUnreportedBare}
use Rattle.hsr_plan_report.specs.Report.{IsReport, IsUnreportable, IsUnreported, IsUnreportedIf, ReportEnds, WritesReport}
use Rattle.hsr_plan_sweep.specs.Swept.{IfHidden, ending_of}
use Rattle.hsr_plan_report.specs.declared.asked.Asked.{Asked}
use Rattle.hsr_plan_report.specs.declared.gathered.Swept.{Swept}

-- what was played of a plan is its sweep, with its rows
pub swept_so : (plan : Plan) (asked : SweepAsked) (played : SweptPlan) (swept : Swept) → IsPlayedPlan plan asked played.meaning played.plays.items → IsSweep played swept → IsSweepOf plan asked swept
swept_so plan asked played swept is sweep =
    let P : SweptPlan → Type 0 = λ p. IsPlayedPlan plan asked p.meaning p.plays.items in
    let N : SweptPlan → Type 0 = λ p. IsNamingOf p.meaning.nodes sweep.naming in
    let Q : SweptPlan → Type 0 = λ p. AreCaseRows sweep.naming p.plays.items (length p.plays.items) swept.rows.items in
    record { played = subst P (sym sweep.same) is; naming = sweep.naming; is_naming = subst N (sym sweep.same) sweep.is_naming; rows = subst Q (sym sweep.same) sweep.rows }

-- a plan that is read without its events is the plan without them
bare_said : (said : Result Plan PlanFault) (plan bare : Plan) → bared_if false said ≡ Ok plan → bared_if true said ≡ Ok bare → bared true plan ≡ bare
bare_said (Ok p) plan bare is alone =
    let one : p ≡ plan = cc in
    let other : bared true p ≡ bare = cc in
    ap (bared true) (sym one) ∙ other
bare_said (Err fault) plan bare is alone = absurd cc

pub bare_so : (text : List ℕ) (plan bare : Plan) (without : Bool) → without ≡ true → plan_in false text ≡ Ok plan → plan_in without text ≡ Ok bare → bared true plan ≡ bare
bare_so text plan bare without so is alone = bare_said (plan_of text) plan bare is (subst (λ b. plan_in b text ≡ Ok bare) so alone)

-- what isn't reported of a plan without its events isn't reported of the plan
pub bare_unreported : {X Y Z : Type 0} (r : Result X (Result Y Z)) (plan : Plan) (asked : Asked) → IfErr r (λ line. IsOk line → IsUnreportedBare (bared true plan) asked)
    → IfErr r (λ line. IsOk line → IsUnreported plan asked)
bare_unreported (Ok x) plan asked none = tt
bare_unreported (Err line) plan asked none = λ told. inr (inr (none told))

-- a text over 16 MiB is no plan
none_said : (said : Result Plan PlanFault) (fault : PlanFault) (plan : Plan) → said ≡ Err fault → said ≡ Ok plan → ⊥
none_said said fault plan e is = absurd cc

module _ (all front : List ℕ) (asked : Asked) (shown : Bool) (held holds told tells : Option (List ℕ)) where
  written_whole : (ending : Ending) → IsWhole (2 ^ 24) all front → WritesReport front asked shown held holds told tells ending → WritesReport all asked shown held holds told tells ending
  written_whole ending (inl same) (page, report, written, hidden) = (page, subst (λ t. IsReport t asked page ending) (sym same) report, written, hidden)
  written_whole ending (inr long) (page, report, written, hidden) =
      absurd (none_said (plan_in false front) _ report.1.0 (ap (bared_if false) (no_plan front long.0)) report.1.1)

  -- what is told of what was read is told of all
  reported_whole : (ending : Ending) → IsWhole (2 ^ 24) all front → ReportEnds front asked shown held holds told tells ending → ReportEnds all asked shown held holds told tells ending
  reported_whole Planned whole ends = written_whole Planned whole ends
  reported_whole Doubted whole ends = written_whole Doubted whole ends
  reported_whole Refused (inl same) (none, kept, hidden) = (subst (λ t. IsUnreportable t asked) (sym same) none, kept, hidden)
  reported_whole Refused (inr long) (none, kept, hidden) =
      let P : Result Plan PlanFault → Type 0 = λ r. IsUnreportedIf r asked in
      (inr (subst P (sym (ap (bared_if false) (no_plan all (longer front long.1.0 all long.0 long.1.1)))) tt), kept, hidden)
  reported_whole Failed whole ends = ends
  reported_whole Unwritten whole ends = ends

module _ (octets : List ℕ) (asked : Asked) (shown : Bool) (held holds : Option (List ℕ)) where
  -- what wasn't touched is kept
  kept_if_hidden : (told tells : Option (List ℕ)) → (shown ≡ false → tells ≡ told) → IfHidden shown (Keeps told tells)
  kept_if_hidden told tells same hidden = subst (Keeps told) (sym (same hidden)) (keeps told)
    where
      keeps : (held : Option (List ℕ)) → Keeps held held
      keeps None = tt
      keeps (Some held) = refl

  -- a page was written, and the end is one that tells of a doubt or of none
  written_so : (told tells : Option (List ℕ)) (page : List ℕ) (doubtful : Bool) → IsReport octets asked page (ending_of doubtful) → (shown ≡ false → tells ≡ told)
      → Appends held holds page → ReportEnds octets asked shown held holds told tells (ending_of doubtful)
  written_so told tells page true report same written = (page, report, written, kept_if_hidden told tells same)
  written_so told tells page false report same written = (page, report, written, kept_if_hidden told tells same)

  -- and what was told since is all that was told
  pub why_if_hidden : (told middle tells : Option (List ℕ)) (why : Type 0) (ending : Ending) → (why → IsUnreportable octets asked)
      → Keeps held holds → (shown ≡ false → middle ≡ told) → TellsWhy why middle tells ending → ReportEnds octets asked shown held holds told tells ending
  why_if_hidden told middle tells why Planned so kept same none = absurd none
  why_if_hidden told middle tells why Doubted so kept same none = absurd none
  why_if_hidden told middle tells why Refused so kept same (this, fault) = (so this, kept, λ hidden. subst (λ t. TellsFault t tells) (same hidden) fault)
  why_if_hidden told middle tells why Failed so kept same fault = (kept, λ hidden. subst (λ t. TellsInput t tells) (same hidden) fault)
  why_if_hidden told middle tells why Unwritten so kept same none = absurd none

  pub given_if_hidden : (told tells : Option (List ℕ)) (page : List ℕ) (given ending : Ending) → IsReport octets asked page given → (shown ≡ false → tells ≡ told)
      → (ending ≡ Unwritten) ⊎ ((ending ≡ given) × Appends held holds page) → ReportEnds octets asked shown held holds told tells ending
  given_if_hidden told tells page given ending report same (inl unwritten) = subst (ReportEnds octets asked shown held holds told tells) (sym unwritten) (kept_if_hidden told tells same)
  given_if_hidden told tells page given ending report same (inr (is, written)) =
      let ends = report.1.2.ends in
      let S : Ending → Type 0 = λ e. IsReport octets asked page e in
      let E : Ending → Type 0 = λ e. ReportEnds octets asked shown held holds told tells e in
      subst E (sym (is ∙ ends)) (written_so told tells page _ (subst S ends report) same written)

-- octets whose plan has no page have none
pub unreported_so : {X Y Z : Type 0} (r : Result X (Result Y Z)) (octets text : List ℕ) (plan : Plan) (asked : Asked) → plan_in false text ≡ Ok plan → text ≡ octets
    → IfErr r (λ line. IsOk line → IsUnreported plan asked) → IfErr r (λ line. IsOk line → IsUnreportable octets asked)
unreported_so (Ok x) octets text plan asked is same none = tt
unreported_so (Err line) octets text plan asked is same none = λ told.
    let P : Result Plan PlanFault → Type 0 = λ said. IsUnreportedIf said asked in
    inr (subst (λ t. IsUnreportedIf (plan_in false t) asked) same (subst P (sym is) (none told)))

-- so it is with what a reader gives, where that is known
pub run_whole : {E : Type 0} (remaining : Option (List ℕ)) (front text : List ℕ) (asked : Asked) (shown : Bool) (held holds told tells : Option (List ℕ)) (r : Result Ending E)
    → IfSome remaining (λ all. IsWhole (2 ^ 24) all front) → text ≡ front → IfOk r (ReportEnds text asked shown held holds told tells)
    → IfOk r (λ ending. IfSome remaining (λ octets. ReportEnds octets asked shown held holds told tells ending))
run_whole None front text asked shown held holds told tells (Ok ending) whole same ends = tt
run_whole (Some all) front text asked shown held holds told tells (Ok ending) whole same ends =
    let P : List ℕ → Type 0 = λ t. ReportEnds t asked shown held holds told tells ending in
    reported_whole all front asked shown held holds told tells ending whole (subst P same ends)
run_whole None front text asked shown held holds told tells (Err e) whole same ends = tt
run_whole (Some all) front text asked shown held holds told tells (Err e) whole same ends = tt
