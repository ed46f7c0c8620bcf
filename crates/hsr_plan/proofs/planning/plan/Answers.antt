use Rattle.std.proofs.Common.{ℕ, ◌<◌, Bool, List, length, Option, Some, None, Result, Ok, Err, IfOk, IfErr, IfSome, inl, inr, rules}
use Rattle.clap.specs.Words.{Text}
use Rattle.hsr_cli.specs.Choices.{IsRefused, Says}
use Rattle.hsr_cli.specs.Refusal.{IfUsage}
use Rattle.hsr_cli.specs.declared.task.Task.{Task}
use Rattle.hsr_cli.specs.declared.fault.OptionFault.{OptionFault}
use Rattle.hsr_commands.specs.Shown.{Outputs}
use Rattle.hsr_plan.specs.Planning.{Answers, Plans}
use Rattle.hsr_plan.proofs.planning.plan.Goals as goal

-- what is answered of what the arguments choose, is what the program does
plans : (chosen : Result Task OptionFault) (words : List Text) (text : List ℕ) (shown : Bool) (before after : Outputs) (told tells : Option (List ℕ)) (code : ℕ) →
    IfOk chosen (Says words) → IfErr chosen (λ f. IfUsage f (IsRefused words)) → IfErr chosen (λ f. IfUsage f (λ why. 0 < length why)) →
    Answers chosen text shown before after told tells code → Plans words text shown before after told tells code
plans (Ok task) words text shown before after told tells code says refused some done = inl (record { task = task; says = says; done = done })
plans (Err fault) words text shown before after told tells code says refused some done =
    inr (record { turned_away = record { fault = fault; refused = refused; some = some; turned_away = done.0; kept = done.1.kept }; none_put = done.1.none_put })

-- of a result's value, and of a text that is told, more holds
further : {A E T : Type 0} (P Q : A → T → Type 0) (r : Result A E) (told : Option T) → ((a : A) (t : T) → P a t → Q a t) → IfOk r (λ a. IfSome told (P a)) → IfOk r (λ a. IfSome told (Q a))
further P Q (Ok a) (Some t) so holds = so a t holds
further P Q (Ok a) None so holds = holds
further P Q (Err e) told so holds = holds

pub returns : goal.returns
returns g c = further _ _ c.answer.result _ (λ code text. plans c.task_by-chosen.result _ text _ _ _ _ _ code c.task_by-chosen.ensures.found c.task_by-chosen.ensures.refused c.task_by-chosen.ensures.some) c.answer.ensures
