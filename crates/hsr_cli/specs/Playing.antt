-- The options of a command that plays something, and what they choose to be shown of the run.
use Rattle.std.specs.Prelude.{◌≡◌, Bool, true, false, map, Option, Some, codes}
use Rattle.clap.specs.Words.{App, Rule, Text, new_app, with_rule}
use Rattle.hsr_table_size.specs.Sizes.{table_of, table_word, table_words}
use Rattle.hsr_table_size.specs.declared.size.TableSize.{TableSize}
use Rattle.hsr_table_size.specs.declared.size.TableSize.TheVariants.{Large}
use Rattle.hsr_options.specs.declared.chosen.Showing.{Showing}
use Rattle.hsr_options.specs.declared.chosen.Form.{Form}
use Rattle.hsr_options.specs.declared.chosen.Form.TheVariants.{Transcript, Report}
use Rattle.hsr_options.specs.declared.chosen.Scope.{Scope}
use Rattle.hsr_options.specs.declared.chosen.Scope.TheVariants.{Ring, Network}
use Rattle.hsr_options.specs.declared.chosen.Asked.{Asked}
use Rattle.hsr_cli.specs.Flags.{IsSet, Listed, choice_rule, flag_rule, word_rule}

-- ---- the command line

-- the words of the sizes of tables
abbrev pub ListsTables : Listed → Type 0
ListsTables tables = map (λ s. s.now) tables.now ≡ table_words

-- `--table`, one of some names, with its default
abbrev pub table_rule : Listed → Rule
table_rule tables = choice_rule (codes "table") tables (table_word Large)

-- with the flags for the parts of a report
abbrev pub with_asked : App → App
with_asked app =
    with_rule (with_rule (with_rule (with_rule (with_rule app (flag_rule (codes "load"))) (flag_rule (codes "latency"))) (flag_rule (codes "deliveries")))
    (flag_rule (codes "needed"))) (flag_rule (codes "budget"))

-- and those for the audit of its last line, and for more about how the run ended
abbrev pub with_told : App → App
with_told app = with_rule (with_rule (with_asked app) (flag_rule (codes "network"))) (flag_rule (codes "explain"))

-- with that for the folder of a run's tables
abbrev pub with_folder : App → App
with_folder app = with_rule app (word_rule (codes "csv"))

-- a command that plays a scenario, of which it knows the names
abbrev pub playing_app : Text → Listed → App
playing_app name tables =
    with_folder (with_rule (with_told (with_rule (with_rule (new_app name) (table_rule tables)) (flag_rule (codes "transcript")))) (flag_rule (codes "names")))

-- ---- what is chosen

-- the size of tables is the one that a word chooses
abbrev pub IsTable : (Text → Option Text) → TableSize → Type 0
IsTable found table = (w : Text) × (found (codes "table") ≡ Some w) × (table_of w ≡ Some table)

-- which parts of a report are asked for is told by flags
abbrev pub IsAsked : (Text → Option Text) → Asked → Type 0
IsAsked found asked = IsSet found (codes "load") asked.load × IsSet found (codes "latency") asked.latency × IsSet found (codes "deliveries") asked.deliveries
    × IsSet found (codes "needed") asked.needed × IsSet found (codes "budget") asked.budget

-- and which audit the last line is of
abbrev pub is_network : Scope → Bool
is_network Ring = false
is_network Network = true

abbrev pub IsScope : (Text → Option Text) → Scope → Type 0
IsScope found scope = IsSet found (codes "network") (is_network scope)

-- what is to be written, too; for a transcript the parts don't matter
abbrev pub IsForm : (Text → Option Text) → Form → Type 0
IsForm found Transcript = IsSet found (codes "transcript") true
IsForm found (Report asked) = IsSet found (codes "transcript") false × IsAsked found asked

abbrev pub IsShowing : (Text → Option Text) → Showing → Type 0
IsShowing found showing = IsScope found showing.scope × IsForm found showing.form × IsSet found (codes "names") showing.names
