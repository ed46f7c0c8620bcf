-- A plan that is read whole, or up to a front that is too long, and what is written of its run.
use Rattle.std.proofs.Common.{◌≡◌, ◌⊎◌, ◌++◌, ◌<◌, ℕ, ◌^◌, Bool, length, List, Option, Some, None, Result, Ok, Err, IfErr, IfOk, IfSome, IsOk, inl, inr, ⊎_elim, refl, sym, subst}
use Rattle.hsr_text.specs.Whole.{IsWhole}
use Rattle.hsr_options.specs.declared.chosen.Showing.{Showing}
use Rattle.hsr_commands.specs.Ending.{IsHalfWritten, IsCutOff, IsWritten}
use Rattle.hsr_commands.specs.Shown.{IsDelivered, KeepsAll, Outputs, text_if}
use Rattle.hsr_commands.specs.declared.fault.Fault.{Fault}
use Rattle.hsr_commands.specs.declared.fault.Fault.TheVariants.{Line, Scenario, Step, Fine, Transcript, Check, Names, Tables, Read, Write, Memory, Thread, Gate}
use Rattle.hsr_commands.specs.declared.fault.Status.{Status}
use Rattle.hsr_commands.specs.declared.fault.Status.TheVariants.{Certified, Fault as Stopped, Doubt, Open}
use Rattle.hsr_commands.specs.declared.shown.ShownRun.{ShownRun}
use Rattle.hsr_plan_text.specs.Meaning.{plan_of}
use Rattle.hsr_plan_text.specs.Plan.{Plan}
use Rattle.hsr_plan_text.specs.declared.fault.PlanFault.{PlanFault}
use Rattle.hsr_plan_scenario.proofs.Whole.{longer, no_plan}
use Rattle.hsr_plan_scenario.specs.Ends.{TellsWhy}
use Rattle.hsr_plan_scenario.specs.declared.planning.Ending.{Ending}
use Rattle.hsr_plan_scenario.specs.declared.planning.Ending.TheVariants.{Planned, Doubted, Refused, Failed, Unwritten}
use Rattle.hsr_plan_scenario.specs.Runs.{IsUnrunOf}
use Rattle.hsr_plan_run.specs.Runs.{IsRunIn, IsUnrun, IsUnrunIf}
use Rattle.hsr_plan_run.specs.Ends.{RunEnds, TellsEnd}
use Rattle.hsr_plan_run.specs.declared.question.Question.{Question}

-- a plan that has no run is one in its octets
pub unrun_so : {X Y Z : Type 0} (r : Result X (Result Y Z)) (capacity : ℕ) (octets text : List ℕ) (plan : Plan) → plan_of text ≡ Ok plan → text ≡ octets
    → IfErr r (λ line. IsOk line → IsUnrunOf capacity plan) → IfErr r (λ line. IsOk line → IsUnrun capacity octets)
unrun_so (Ok x) capacity octets text plan is same none = tt
unrun_so (Err line) capacity octets text plan is same none = λ told.
    let P : Result Plan PlanFault → Type 0 = IsUnrunIf capacity in
    inr (subst (λ t. IsUnrunIf capacity (plan_of t)) same (subst P (sym is) (none told)))

-- so it is where this is the line
pub unrun_line : {X Y Z : Type 0} (r : Result X (Result Y Z)) (line : Result Y Z) (capacity : ℕ) (octets text : List ℕ) (plan : Plan) → plan_of text ≡ Ok plan → text ≡ octets
    → r ≡ Err line → IfErr r (λ line. IsOk line → IsUnrunOf capacity plan) → IsOk line → IsUnrun capacity octets
unrun_line {X} {Y} {Z} r line capacity octets text plan is same this none =
    let P : Result X (Result Y Z) → Type 0 = λ x. IfErr x (λ l. IsOk l → IsUnrun capacity octets) in
    subst P this (unrun_so r capacity octets text plan is same none)

-- ---- what is written

-- a fault that was told, or that memory ran out
pub fault_told : (why : Type 0) (explains : Bool) (told tells : Option (List ℕ)) (ending : Ending) → TellsWhy why told tells ending
    → TellsEnd explains (Stopped Tables) told tells ending
fault_told why explains told tells Planned none = absurd none
fault_told why explains told tells Doubted none = absurd none
fault_told why explains told tells Refused (this, fault) = inl (refl, fault)
fault_told why explains told tells Failed fault = inr (refl, fault)
fault_told why explains told tells Unwritten none = absurd none

module _ (capacity : ℕ) (question : Question) (octets : List ℕ) (before after : Outputs) (told tells : Option (List ℕ)) where
  -- what was delivered of a run ends so
  pub shown_ends : (shown : ShownRun) (status : Status) (ending : Ending) → IsRunIn capacity question.showing (text_if question.folder) octets shown
      → IsDelivered (text_if question.folder) before after shown status → TellsEnd question.explains status told tells ending
      → RunEnds capacity question octets before after told tells ending
  shown_ends shown Certified ending run d (is, more) =
      let P : Ending → Type 0 = RunEnds capacity question octets before after told tells in
      subst P (sym is) (record { shown = shown; is_shown = run; tells = d.0; whole = d.1 }, more)
  shown_ends shown Doubt ending run d (is, more) =
      let P : Ending → Type 0 = RunEnds capacity question octets before after told tells in
      subst P (sym is) (record { shown = shown; is_shown = run; tells = d.0; whole = d.1 }, more)
  shown_ends shown Open ending run d tells_it = absurd d
  shown_ends shown (Stopped (Line n)) ending run d tells_it = absurd d
  shown_ends shown (Stopped (Scenario f)) ending run d tells_it = absurd d
  shown_ends shown (Stopped (Step n f)) ending run d tells_it = absurd d
  shown_ends shown (Stopped (Fine n)) ending run d tells_it = absurd d
  shown_ends shown (Stopped (Transcript f)) ending run d tells_it = absurd d
  shown_ends shown (Stopped (Check f)) ending run d tells_it = absurd d
  shown_ends shown (Stopped (Names f)) ending run d tells_it = absurd d
  shown_ends shown (Stopped Tables) ending run d (inl (is, fault)) =
      let P : Ending → Type 0 = RunEnds capacity question octets before after told tells in
      subst P (sym is) (inr (record { shown = shown; is_shown = run; half = d }), fault)
  shown_ends shown (Stopped Tables) ending run d (inr (is, fault)) =
      let P : Ending → Type 0 = RunEnds capacity question octets before after told tells in
      subst P (sym is) (inr (record { shown = shown; is_shown = run; half = d }), fault)
  shown_ends shown (Stopped Read) ending run d tells_it = absurd d
  shown_ends shown (Stopped Write) ending run d (is, kept) =
      let P : Ending → Type 0 = RunEnds capacity question octets before after told tells in
      subst P (sym is) (record { shown = shown; is_shown = run; put = d }, kept)
  shown_ends shown (Stopped Memory) ending run d (is, fault) =
      let P : Ending → Type 0 = RunEnds capacity question octets before after told tells in
      subst P (sym is) (inr (record { shown = shown; is_shown = run; half = d }), fault)
  shown_ends shown (Stopped Thread) ending run d tells_it = absurd d
  shown_ends shown (Stopped Gate) ending run d tells_it = absurd d

  -- there is no run, or no memory to say so
  pub unrun_ends : (why : Type 0) (ending : Ending) → (why → IsUnrun capacity octets) → KeepsAll before after → TellsWhy why told tells ending
      → RunEnds capacity question octets before after told tells ending
  unrun_ends why Planned so kept none = absurd none
  unrun_ends why Doubted so kept none = absurd none
  unrun_ends why Refused so kept (this, fault) = (inl (so this, kept), fault)
  unrun_ends why Failed so kept fault = (inl kept, fault)
  unrun_ends why Unwritten so kept none = absurd none

-- ---- what is read

-- a text over 16 MiB is no plan
none_said : (said : Result Plan PlanFault) (fault : PlanFault) (plan : Plan) → said ≡ Err fault → said ≡ Ok plan → ⊥
none_said said fault plan e is = absurd cc

unrunnable : (capacity : ℕ) (front rest all : List ℕ) → 2 ^ 24 < length front → all ≡ front ++ rest → IsUnrun capacity all
unrunnable capacity front rest all h is =
    let P : Result Plan PlanFault → Type 0 = IsUnrunIf capacity in
    inr (subst P (sym (no_plan all (longer front rest all h is))) tt)

run_all : (capacity : ℕ) (showing : Showing) (folder : Option (List ℕ)) (all front : List ℕ) (shown : ShownRun) → IsWhole (2 ^ 24) all front
    → IsRunIn capacity showing folder front shown → IsRunIn capacity showing folder all shown
run_all capacity showing folder all front shown (inl same) run = subst (λ t. IsRunIn capacity showing folder t shown) (sym same) run
run_all capacity showing folder all front shown (inr long) run = absurd (none_said (plan_of front) _ run.1.0 (no_plan front long.0) run.1.1)

-- how a run ends over what was read, it ends over all
module _ (capacity : ℕ) (question : Question) (all front : List ℕ) (before after : Outputs) (told tells : Option (List ℕ)) (whole : IsWhole (2 ^ 24) all front) where
  abbrev Shows : List ℕ → ShownRun → Type 0
  Shows octets shown = IsRunIn capacity question.showing (text_if question.folder) octets shown

  written_all : (status : Status) → IsWritten (Shows front) (text_if question.folder) before after status → IsWritten (Shows all) (text_if question.folder) before after status
  written_all status w = record {
    shown = w.shown;
    is_shown = run_all capacity question.showing (text_if question.folder) all front w.shown whole w.is_shown;
    tells = w.tells;
    whole = w.whole;
  }

  half_all : IsHalfWritten (Shows front) (text_if question.folder) before after → IsHalfWritten (Shows all) (text_if question.folder) before after
  half_all w = record { shown = w.shown; is_shown = run_all capacity question.showing (text_if question.folder) all front w.shown whole w.is_shown; half = w.half }

  cut_all : IsCutOff (Shows front) (text_if question.folder) before after → IsCutOff (Shows all) (text_if question.folder) before after
  cut_all w = record { shown = w.shown; is_shown = run_all capacity question.showing (text_if question.folder) all front w.shown whole w.is_shown; put = w.put }

  unrun_all : IsUnrun capacity front → IsUnrun capacity all
  unrun_all none = ⊎_elim (λ same. subst (IsUnrun capacity) (sym same) none) (λ long. unrunnable capacity front long.1.0 all long.0 long.1.1) whole

  ends_all : (ending : Ending) → RunEnds capacity question front before after told tells ending → RunEnds capacity question all before after told tells ending
  ends_all Planned (written, more) = (written_all Certified written, more)
  ends_all Doubted (written, more) = (written_all Doubt written, more)
  ends_all Refused (inl (none, kept), fault) = (inl (unrun_all none, kept), fault)
  ends_all Refused (inr half, fault) = (inr (half_all half), fault)
  ends_all Failed (inl kept, fault) = (inl kept, fault)
  ends_all Failed (inr half, fault) = (inr (half_all half), fault)
  ends_all Unwritten (cut, kept) = (cut_all cut, kept)

-- so it is told of the text that was read, if the reader told it
pub run_whole : {E : Type 0} (remaining : Option (List ℕ)) (front text : List ℕ) (capacity : ℕ) (question : Question) (before after : Outputs) (told tells : Option (List ℕ))
    (r : Result Ending E) → IfSome remaining (λ all. IsWhole (2 ^ 24) all front) → text ≡ front → IfOk r (RunEnds capacity question text before after told tells)
    → IfOk r (λ ending. IfSome remaining (λ octets. RunEnds capacity question octets before after told tells ending))
run_whole None front text capacity question before after told tells (Ok ending) whole same ends = tt
run_whole (Some all) front text capacity question before after told tells (Ok ending) whole same ends =
    let P : List ℕ → Type 0 = λ t. RunEnds capacity question t before after told tells ending in
    ends_all capacity question all front before after told tells whole ending (subst P same ends)
run_whole None front text capacity question before after told tells (Err e) whole same ends = tt
run_whole (Some all) front text capacity question before after told tells (Err e) whole same ends = tt
