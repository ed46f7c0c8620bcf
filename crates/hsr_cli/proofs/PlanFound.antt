-- What a parse found, by the walk of its command.
use Rattle.std.proofs.Common.{◌≡◌, List, Option, Some, None, IfNone, IfSome, refl, sym, ap, subst, ◌∙◌, codes, true}
use Rattle.clap.specs.Words.{App, Row, Text, first_of, first_value, found_of, is_simple, is_simple_and_free, matches_of, rows_of, subcommand_of, subcommand_rows_of}
use Rattle.clap.specs.declared.parser.matches.ArgMatches.{ArgMatches}
use Rattle.clap.proofs.WalkLemmas.{first_value-rows}
use Rattle.hsr_table_size.specs.Sizes.{table_of}
use Rattle.hsr_table_size.specs.declared.size.TableSize.{TableSize}
use Rattle.hsr_cli.specs.declared.task.Task.{Task}
use Rattle.hsr_cli.specs.declared.task.Task.TheVariants.{Plan, Check, Run, Sweep, Certify, Report}
use Rattle.hsr_cli.specs.Within.{IsWithin}
use Rattle.hsr_cli.specs.declared.task.ReportWords.{ReportWords}
use Rattle.hsr_cli.specs.declared.task.SweepWords.{SweepWords}
use Rattle.hsr_cli.specs.Choices.{Chooses, Chosen, ChosenAlone, ChosenBefore, IsCertify, IsFaults, IsPlanner, IsRun, IsTable, sub_values, values}
use Rattle.hsr_cli.specs.Playing.{IsTable as IsPlayed}
use Rattle.hsr_cli.specs.Sweeping.{IsLimit, IsMoment, IsPart, IsSweep}
use Rattle.hsr_cli.specs.Reporting.{IsReport}
use Rattle.hsr_cli.proofs.PlayingFound.{showing_same, table_same}

-- ---- a subcommand

-- equal values choose the same
run_same : (f g : Text → Option Text) (task : Task) → ((id : Text) → f id ≡ g id) → IsRun f task → IsRun g task
run_same f g (Plan size) e h = h
run_same f g Check e h = h
run_same f g (Run size showing folder explains) e h =
    (table_same f g size e h.0, showing_same f g showing e h.1, sym (e (codes "csv")) ∙ h.2, sym (e (codes "explain")) ∙ h.3)
run_same f g (Sweep asked) e h = h
run_same f g (Certify size within faults) e h = h
run_same f g (Report words) e h = h

sweep_same : (f g : Text → Option Text) (asked : SweepWords) → ((id : Text) → f id ≡ g id) → IsSweep f asked → IsSweep g asked
sweep_same f g asked e h = (
  subst (λ x. IsMoment x asked.at) (e (codes "at-us")) h.0,
  sym (e (codes "without-events")) ∙ h.1,
  sym (e (codes "pairs")) ∙ h.2,
  subst (λ x. IsPart x asked.part) (e (codes "part")) h.3,
  subst (λ x. IsLimit x asked.limit_load) (e (codes "limit-load")) h.4,
  subst (λ x. IsLimit x asked.limit_latency) (e (codes "limit-latency")) h.5,
)

report_same : (f g : Text → Option Text) (words : ReportWords) → ((id : Text) → f id ≡ g id) → IsReport f words → IsReport g words
report_same f g words e h = (
  sym (e (codes "date")) ∙ h.0,
  subst (λ x. IsMoment x words.at) (e (codes "at-us")) h.1,
  subst (λ x. IsWithin x words.within) (e (codes "within")) h.2,
  subst (λ x. IsLimit x words.limit_load) (e (codes "limit-load")) h.3,
  subst (λ x. IsLimit x words.limit_latency) (e (codes "limit-latency")) h.4,
)

certify_same : (f g : Text → Option Text) (task : Task) → ((id : Text) → f id ≡ g id) → IsCertify f task → IsCertify g task
certify_same f g (Plan size) e h = h
certify_same f g Check e h = h
certify_same f g (Run size showing folder explains) e h = h
certify_same f g (Sweep asked) e h = h
certify_same f g (Certify size within faults) e h = (
  subst (λ x. IsTable x size) (e (codes "table")) h.0,
  subst (λ x. IsWithin x within) (e (codes "within")) h.1,
  subst (λ x. IsFaults (g (codes "sweep")) x faults) (e (codes "pairs")) (subst (λ x. IsFaults x (f (codes "pairs")) faults) (e (codes "sweep")) h.2),
)
certify_same f g (Report words) e h = h

before_same : (check check' table table' : Option Text) (name : Text) (f g : Text → Option Text) (task : Task) → check ≡ check' → table ≡ table' → ((id : Text) → f id ≡ g id)
    → ChosenBefore check table name f task → ChosenBefore check' table' name g task
before_same check check' table table' name f g (Plan size) c t e h = h
before_same check check' table table' name f g Check c t e h = h
before_same check check' table table' name f g (Run size showing folder explains) c t e h =
    ((sym c ∙ h.0.0, sym t ∙ h.0.1), h.1, run_same f g (Run size showing folder explains) e h.2)
before_same check check' table table' name f g (Sweep asked) c t e h = ((sym c ∙ h.0.0, sym t ∙ h.0.1), h.1, sweep_same f g asked e h.2)
before_same check check' table table' name f g (Certify size within faults) c t e h =
    ((sym c ∙ h.0.0, sym t ∙ h.0.1), h.1, certify_same f g (Certify size within faults) e h.2)
before_same check check' table table' name f g (Report words) c t e h = ((sym c ∙ h.0.0, sym t ∙ h.0.1), h.1, report_same f g words e h.2)

alone_same : (check check' table table' : Option Text) (task : Task) → check ≡ check' → table ≡ table' → ChosenAlone check table task → ChosenAlone check' table' task
alone_same check check' table table' task c t h = subst (λ x. ChosenAlone check' x task) t (subst (λ x. ChosenAlone x table task) c h)

chosen_same : (f g : Text → Option Text) (sub : Option (Text × (Text → Option Text))) (task : Task) → ((id : Text) → f id ≡ g id) → Chosen f sub task → Chosen g sub task
chosen_same f g None task e h = alone_same _ _ _ _ task (e (codes "check")) (e (codes "table")) h
chosen_same f g (Some sub) task e h = before_same _ _ _ _ sub.0 sub.1 sub.1 task (e (codes "check")) (e (codes "table")) (λ id. refl) h

pub chosen_from : (found : Text → Option Text) (sub : Option (Text × List Row)) (check table : Option Text) (name : Text) (inner : Text → Option Text) (rows : List Row) (task : Task)
    → sub ≡ Some (name, rows) → check ≡ found (codes "check") → table ≡ found (codes "table") → ((id : Text) → inner id ≡ first_of id rows)
    → ChosenBefore check table name inner task → Chosen found (sub_values sub) task
chosen_from found sub check table name inner rows task s c t e h =
    subst (λ x. Chosen found (sub_values x) task) (sym s) (before_same _ _ _ _ name inner (values rows) task c t e h)

pub chosen_to : (found : Text → Option Text) (sub : Option (Text × List Row)) (check table : Option Text) (name : Text) (inner : Text → Option Text) (rows : List Row) (task : Task)
    → sub ≡ Some (name, rows) → check ≡ found (codes "check") → table ≡ found (codes "table") → ((id : Text) → inner id ≡ first_of id rows)
    → Chosen found (sub_values sub) task → ChosenBefore check table name inner task
chosen_to found sub check table name inner rows task s c t e h =
    before_same _ _ _ _ name (values rows) inner task (sym c) (sym t) (λ id. sym (e id)) (subst (λ x. Chosen found (sub_values x) task) s h)

-- ---- the words

pub is_simple_so : (app : App) → IsPlanner app → is_simple app ≡ true
is_simple_so app is = ap is_simple is.2

pub is_free : (app : App) → IsPlanner app → is_simple_and_free app ≡ true
is_free app is = ap is_simple_and_free is.2

-- a parse finds the values by which the words choose
same_values : (m : ArgMatches) (rows : List Row) → rows_of (found_of m) ≡ rows → (id : Text) → first_value (found_of m) id ≡ values rows id
same_values m rows e id = first_value-rows (found_of m) id ∙ ap (first_of id) e

pub chooses : (app : App) (words : List Text) (m : ArgMatches) (task : Task) → rows_of (found_of m) ≡ matches_of app words → subcommand_rows_of m ≡ subcommand_of app words
    → Chosen (first_value (found_of m)) (sub_values (subcommand_rows_of m)) task → Chooses app words task
chooses app words m task e s h =
    chosen_same _ _ _ task (same_values m (matches_of app words) e) (subst (λ x. Chosen (first_value (found_of m)) (sub_values x) task) s h)

pub chosen : (app : App) (words : List Text) (m : ArgMatches) (task : Task) → rows_of (found_of m) ≡ matches_of app words → subcommand_rows_of m ≡ subcommand_of app words
    → Chooses app words task → Chosen (first_value (found_of m)) (sub_values (subcommand_rows_of m)) task
chosen app words m task e s h =
    subst (λ x. Chosen (first_value (found_of m)) (sub_values x) task) (sym s) (chosen_same _ _ _ task (λ id. sym (same_values m (matches_of app words) e id)) h)

-- ---- a size of tables, by its word

pub table_found : (r : Option TableSize) (w : Text) → r ≡ table_of w → IfSome r (IsTable (Some w))
table_found None w e = tt
table_found (Some t) w e = sym e

pub table_unread : (r : Option TableSize) (w : Text) → r ≡ table_of w → IfNone r ((t : TableSize) → ¬ IsTable (Some w) t)
table_unread (Some t) w e = tt
table_unread None w e = λ t h.
    let none = e ∙ h in
    cc

-- ---- nothing is chosen

untabled : (found : Text → Option Text) → ((t : TableSize) → ¬ IsPlayed found t) → (task : Task) → ¬ IsRun found task
untabled found none (Plan size) h = h
untabled found none Check h = h
untabled found none (Run size showing folder explains) h = none size h.0
untabled found none (Sweep asked) h = h
untabled found none (Certify size within faults) h = h
untabled found none (Report words) h = h

-- without a table there is no run
pub no_run : (found : Text → Option Text) (o : Option Task) → ((t : TableSize) → ¬ IsPlayed found t) → IfNone o ((task : Task) → ¬ IsRun found task)
no_run found None none = untabled found none
no_run found (Some task) none = tt

not_run : (check table : Option Text) (name : Text) (found : Text → Option Text) → name ≡ codes "run" → ((task : Task) → ¬ IsRun found task) → (task : Task)
    → ¬ ChosenBefore check table name found task
not_run check table name found is none (Plan size) h = h
not_run check table name found is none Check h = h
not_run check table name found is none (Run size showing folder explains) h = none (Run size showing folder explains) h.2
not_run check table name found is none (Sweep asked) h = absurd (let e : codes "run" ≡ codes "sweep" = sym is ∙ h.1 in cc)
not_run check table name found is none (Certify size within faults) h = absurd (let e : codes "run" ≡ codes "certify" = sym is ∙ h.1 in cc)
not_run check table name found is none (Report words) h = absurd (let e : codes "run" ≡ codes "report" = sym is ∙ h.1 in cc)

-- where `run` is named, nothing is chosen if no run is
pub none_but_run : (check table : Option Text) (name : Text) (found : Text → Option Text) (o : Option Task) → name ≡ codes "run" → IfNone o ((task : Task) → ¬ IsRun found task)
    → IfNone o ((task : Task) → ¬ ChosenBefore check table name found task)
none_but_run check table name found None is none = not_run check table name found is none
none_but_run check table name found (Some task) is none = tt

not_certify : (check table : Option Text) (name : Text) (found : Text → Option Text) → name ≡ codes "certify" → ((task : Task) → ¬ IsCertify found task) → (task : Task)
    → ¬ ChosenBefore check table name found task
not_certify check table name found is none (Plan size) h = h
not_certify check table name found is none Check h = h
not_certify check table name found is none (Run size showing folder explains) h = absurd (let e : codes "certify" ≡ codes "run" = sym is ∙ h.1 in cc)
not_certify check table name found is none (Sweep asked) h = absurd (let e : codes "certify" ≡ codes "sweep" = sym is ∙ h.1 in cc)
not_certify check table name found is none (Certify size within faults) h = none (Certify size within faults) h.2
not_certify check table name found is none (Report words) h = absurd (let e : codes "certify" ≡ codes "report" = sym is ∙ h.1 in cc)

-- and so it is with `certify`
pub none_but_certify : (check table : Option Text) (name : Text) (found : Text → Option Text) (o : Option Task) → name ≡ codes "certify" → IfNone o ((task : Task) → ¬ IsCertify found task)
    → IfNone o ((task : Task) → ¬ ChosenBefore check table name found task)
none_but_certify check table name found None is none = not_certify check table name found is none
none_but_certify check table name found (Some task) is none = tt
