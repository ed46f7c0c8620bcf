-- What the arguments of hsr_plan choose: by the values that clap's walk of this command finds.
use Rattle.std.specs.Prelude.{◌≡◌, ◌≢◌, ◌⊎◌, true, [], List, Option, Some, None, codes}
use Rattle.clap.specs.Words.{App, Row, Rule, Text, new_app, new_rule, with_rule, with_subcommand, matches_of, subcommand_of, first_of, fault_of}
use Rattle.clap.specs.declared.builder.value_parser.ValueParser.TheVariants.{Names}
use Rattle.hsr_table_size.specs.Sizes.{table_of}
use Rattle.hsr_table_size.specs.declared.size.TableSize.{TableSize}
use Rattle.hsr_table_size.specs.declared.size.TableSize.TheVariants.{Large}
use Rattle.hsr_cli.specs.declared.plan_words.TheConstants.{TOGETHER}
use Rattle.hsr_cli.specs.declared.task.Task.{Task}
use Rattle.hsr_cli.specs.declared.task.Task.TheVariants.{Plan, Check, Run, Sweep, Certify, Report}
use Rattle.hsr_cli.specs.declared.task.Faults.{Faults}
use Rattle.hsr_cli.specs.declared.task.Faults.TheVariants.{None as NoFaults, One, Two}
use Rattle.hsr_cli.specs.Flags.{IsGiven, IsSet, Listed, flag_rule, word_rule}
use Rattle.hsr_cli.specs.Playing.{IsShowing, IsTable as IsPlayed, ListsTables, playing_app}
use Rattle.hsr_cli.specs.Sweeping.{IsSweep, sweep_app}
use Rattle.hsr_cli.specs.Reporting.{IsReport, report_app}
use Rattle.hsr_cli.specs.Within.{IsWithin}

-- ---- the command line

-- `--table`, one of some names
abbrev pub table_rule : Listed → Rule
table_rule tables = record (new_rule (codes "table")) { long = Some (codes "table"); parser = Some (Names tables) }

abbrev pub certify_app : Listed → App
certify_app tables =
    with_rule (with_rule (with_rule (with_rule (new_app (codes "certify")) (table_rule tables)) (word_rule (codes "within"))) (flag_rule (codes "sweep"))) (flag_rule (codes "pairs"))

abbrev pub top_app : App
top_app = record { top = record (new_app (codes "hsr_plan")).top { no_binary_name = true; has_version = true }; subs = [] }

abbrev pub alone_app : Listed → App
alone_app tables = with_rule (with_rule top_app (table_rule tables)) (flag_rule (codes "check"))

abbrev pub plan_app : Listed → App
plan_app tables =
    with_subcommand (with_subcommand (with_subcommand (with_subcommand (alone_app tables) (playing_app (codes "run") tables).top) sweep_app.top) (certify_app tables).top)
    report_app.top

-- ---- what is chosen

-- the size of tables that a word chooses, or without one the large
abbrev pub IsTable : Option Text → TableSize → Type 0
IsTable None table = table ≡ Large
IsTable (Some word) table = table_of word ≡ Some table

-- each fault of `--sweep` is one link or node, and of `--pairs` one or two; they exclude one another
abbrev pub IsFaults : Option Text → Option Text → Faults → Type 0
IsFaults sweep pairs NoFaults = (sweep ≡ Some (codes "false")) × (pairs ≡ Some (codes "false"))
IsFaults sweep pairs One = (sweep ≡ Some (codes "true")) × (pairs ≡ Some (codes "false"))
IsFaults sweep pairs Two = (sweep ≡ Some (codes "false")) × (pairs ≡ Some (codes "true"))

-- what `--check` and `--table` choose alone: a plan, with tables of some size, or a check, where no size is named
abbrev pub ChosenAlone : Option Text → Option Text → Task → Type 0
ChosenAlone check table (Plan size) = (check ≡ Some (codes "false")) × IsTable table size
ChosenAlone check table Check = (check ≡ Some (codes "true")) × (table ≡ None)
ChosenAlone check table (Run size showing folder explains) = ⊥
ChosenAlone check table (Sweep asked) = ⊥
ChosenAlone check table (Certify size within faults) = ⊥
ChosenAlone check table (Report words) = ⊥

-- the values of `run` choose this task
abbrev pub IsRun : (Text → Option Text) → Task → Type 0
IsRun found (Plan size) = ⊥
IsRun found Check = ⊥
IsRun found (Run size showing folder explains) =
    IsPlayed found size × IsShowing found showing × IsGiven found (codes "csv") folder × IsSet found (codes "explain") explains
IsRun found (Sweep asked) = ⊥
IsRun found (Certify size within faults) = ⊥
IsRun found (Report words) = ⊥

-- the values of `certify` choose this task
abbrev pub IsCertify : (Text → Option Text) → Task → Type 0
IsCertify found (Plan size) = ⊥
IsCertify found Check = ⊥
IsCertify found (Run size showing folder explains) = ⊥
IsCertify found (Sweep asked) = ⊥
IsCertify found (Certify size within faults) =
    IsTable (found (codes "table")) size × IsWithin (found (codes "within")) within × IsFaults (found (codes "sweep")) (found (codes "pairs")) faults
IsCertify found (Report words) = ⊥

-- neither a check is asked for nor a size is named
abbrev pub IsBare : Option Text → Option Text → Type 0
IsBare check table = (check ≡ Some (codes "false")) × (table ≡ None)

-- and before a subcommand of that name, with its values: a run, a sweep, a verdict or a page, where nothing is said before it
abbrev pub ChosenBefore : Option Text → Option Text → Text → (Text → Option Text) → Task → Type 0
ChosenBefore check table name found (Plan size) = ⊥
ChosenBefore check table name found Check = ⊥
ChosenBefore check table name found (Run size showing folder explains) = IsBare check table × (name ≡ codes "run") × IsRun found (Run size showing folder explains)
ChosenBefore check table name found (Sweep asked) = IsBare check table × (name ≡ codes "sweep") × IsSweep found asked
ChosenBefore check table name found (Certify size within faults) = IsBare check table × (name ≡ codes "certify") × IsCertify found (Certify size within faults)
ChosenBefore check table name found (Report words) = IsBare check table × (name ≡ codes "report") × IsReport found words

-- what is chosen by the values that stand before a subcommand, and by its name and its values, if there is one
abbrev pub Chosen : (Text → Option Text) → Option (Text × (Text → Option Text)) → Task → Type 0
Chosen found None task = ChosenAlone (found (codes "check")) (found (codes "table")) task
Chosen found (Some sub) task = ChosenBefore (found (codes "check")) (found (codes "table")) sub.0 sub.1 task

-- the values in rows
abbrev pub values : List Row → Text → Option Text
values rows id = first_of id rows

abbrev pub sub_values : Option (Text × List Row) → Option (Text × (Text → Option Text))
sub_values None = None
sub_values (Some found) = Some (found.0, values found.1)

-- arguments choose what is chosen by the values that the command finds in them
abbrev pub Chooses : App → List Text → Task → Type 0
Chooses app words task = Chosen (values (matches_of app words)) (sub_values (subcommand_of app words)) task

-- the planner's command, with the names that it takes for tables
abbrev pub IsPlanner : App → Type 0
IsPlanner app = (tables : Listed) × ListsTables tables × (app ≡ plan_app tables)

-- the command finds no fault in the arguments, and they choose this
abbrev pub Says : List Text → Task → Type 0
Says words task = (app : App) × IsPlanner app × (fault_of app words ≡ []) × Chooses app words task

-- ---- what is refused

-- arguments are refused by this text: the command finds a fault in them, or finds none, and they choose nothing
abbrev pub IsRefused : List Text → Text → Type 0
IsRefused words text = (app : App) × IsPlanner app × ((fault_of app words ≢ [])
    ⊎ ((fault_of app words ≡ []) × ((task : Task) → ¬ Chooses app words task) × (text ≡ TOGETHER.now)))
