-- What the arguments of hsr_bench say: the values that clap's walk of this command finds.
use Rattle.std.specs.Prelude.{◌≡◌, ◌≢◌, ◌⊎◌, ⊤, true, List, [], ◌∷◌, map, Option, Some, None, Ok, codes, if◌then◌else◌}
use Rattle.std.specs.Str.{bytes_eq}
use Rattle.clap.specs.Words.{App, Row, Rule, Text, new_app, with_rule, with_subcommand, subcommand_of, first_of, fault_of}
use Rattle.hsr_frame.specs.Address.{address_of}
use Rattle.hsr_frame.specs.Words.{mode_word}
use Rattle.hsr_frame.specs.declared.node.Mode.TheVariants.{H, N, U}
use Rattle.hsr_text.specs.Moments.{unit_word}
use Rattle.hsr_text.specs.declared.time_unit.TimeUnit.TheVariants.{Milliseconds, Microseconds}
use Rattle.hsr_table_size.specs.Sizes.{table_words}
use Rattle.hsr_table_size.specs.declared.size.TableSize.TheVariants.{Large}
use Rattle.hsr_options.specs.Roles.{node_role_word}
use Rattle.hsr_options.specs.declared.chosen.NodeOptions.{NodeOptions}
use Rattle.hsr_options.specs.declared.role.NodeRole.TheVariants.{Danh, RedBox, QuadBox}
use Rattle.hsr_options.specs.declared.chosen.TableChoice.{TableChoice}
use Rattle.hsr_options.specs.declared.chosen.TableChoice.TheVariants.{Given, Told}
use Rattle.hsr_options.specs.declared.chosen.Options.{Options}
use Rattle.hsr_options.specs.declared.chosen.Options.TheVariants.{Node, Run, Threads, Audit, Certify}
use Rattle.hsr_cli.specs.Flags.{IsGiven, IsSet, Listed, choice_rule, default_rule, flag_rule, word_rule}
use Rattle.hsr_cli.specs.Playing.{IsAsked, IsScope, IsShowing, IsTable, ListsTables, playing_app, table_rule, with_folder, with_told}
use Rattle.hsr_cli.specs.Within.{IsWithin}

-- ---- the command line

-- the words of the kinds of node, of the modes, of what an audit chooses of the sizes of tables, and of the units
abbrev pub ListsRoles : Listed → Type 0
ListsRoles roles = map (λ s. s.now) roles.now ≡ node_role_word Danh ∷ node_role_word RedBox ∷ node_role_word QuadBox ∷ []

abbrev pub ListsModes : Listed → Type 0
ListsModes modes = map (λ s. s.now) modes.now ≡ mode_word H ∷ mode_word N ∷ mode_word U ∷ []

abbrev pub ListsChoices : Listed → Type 0
ListsChoices choices = map (λ s. s.now) choices.now ≡ codes "auto" ∷ table_words

abbrev pub ListsUnits : Listed → Type 0
ListsUnits units = map (λ s. s.now) units.now ≡ unit_word Milliseconds ∷ unit_word Microseconds ∷ []

-- `--role`, one of some names, with its default
abbrev pub role_rule : Listed → Rule
role_rule roles = choice_rule (codes "role") roles (node_role_word Danh)

-- `--mac`, with its default
abbrev pub mac_rule : Rule
mac_rule = default_rule (codes "mac") (codes "02-00-00-00-00-01")

-- `--mode`, one of some names, with its default
abbrev pub mode_rule : Listed → Rule
mode_rule modes = choice_rule (codes "mode") modes (mode_word H)

-- `--unit`, one of some names, with its default
abbrev pub unit_rule : Listed → Rule
unit_rule units = choice_rule (codes "unit") units (unit_word Milliseconds)

abbrev pub node_app : Listed → Listed → Listed → Listed → App
node_app roles modes tables units =
    with_rule (with_rule (with_rule (with_rule (with_rule (new_app (codes "node")) (role_rule roles)) mac_rule) (mode_rule modes)) (table_rule tables)) (unit_rule units)

-- that by which a run may be shown that can't be closed
abbrev pub run_app : Listed → App
run_app tables = with_rule (playing_app (codes "run") tables) (flag_rule (codes "open"))

-- an audit takes names from a file, since a transcript has none
abbrev pub audit_app : Listed → App
audit_app choices = with_folder (with_rule (with_told (with_rule (new_app (codes "audit")) (table_rule choices))) (word_rule (codes "names")))

-- a verdict plays nothing
abbrev pub certify_app : Listed → App
certify_app tables = with_rule (with_rule (with_rule (new_app (codes "certify")) (table_rule tables)) (word_rule (codes "within"))) (flag_rule (codes "coarse"))

abbrev pub top_app : App
top_app = record { top = record (new_app (codes "hsr_bench")).top { no_binary_name = true; subcommand_required = true; has_version = true }; subs = [] }

abbrev pub bench_app : Listed → Listed → Listed → Listed → Listed → App
bench_app roles modes tables choices units =
    with_subcommand (with_subcommand (with_subcommand (with_subcommand (with_subcommand top_app (node_app roles modes tables units).top) (run_app tables).top)
    (playing_app (codes "threads") tables).top)
    (audit_app choices).top)
    (certify_app tables).top

-- ---- what is chosen

-- an audit takes the size that a word chooses, or the one of which its transcript tells
abbrev pub IsTableChoice : (Text → Option Text) → TableChoice → Type 0
IsTableChoice found (Given table) = IsTable found table
IsTableChoice found Told = found (codes "table") ≡ Some (codes "auto")

-- a node's options are the values that were found: the address that a text spells, and four names
abbrev pub IsNode : (Text → Option Text) → NodeOptions → Type 0
IsNode found node = (found (codes "role") ≡ Some (node_role_word node.role))
    × ((t : Text) × (found (codes "mac") ≡ Some t) × (address_of t ≡ Ok node.mac))
    × (found (codes "mode") ≡ Some (mode_word node.mode)) × IsTable found node.table
    × (found (codes "unit") ≡ Some (unit_word node.unit))

-- the options are the values of a subcommand, by its name and what it found
abbrev pub Chosen : Text → (Text → Option Text) → Options → Type 0
Chosen name found (Node node) = (name ≡ codes "node") × IsNode found node
Chosen name found (Run table showing folder opens explains) =
    (name ≡ codes "run") × IsTable found table × IsShowing found showing × IsGiven found (codes "csv") folder × IsSet found (codes "open") opens
    × IsSet found (codes "explain") explains
Chosen name found (Threads table showing folder explains) =
    (name ≡ codes "threads") × IsTable found table × IsShowing found showing × IsGiven found (codes "csv") folder × IsSet found (codes "explain") explains
Chosen name found (Audit table scope asked scenario folder explains) =
    (name ≡ codes "audit") × IsTableChoice found table × IsScope found scope × IsAsked found asked × IsGiven found (codes "names") scenario
    × IsGiven found (codes "csv") folder × IsSet found (codes "explain") explains
Chosen name found (Certify table within is_coarse) =
    (name ≡ codes "certify") × IsTable found table × IsWithin (found (codes "within")) within × IsSet found (codes "coarse") is_coarse

abbrev pub ChosenIn : Option (Text × List Row) → Options → Type 0
ChosenIn None o = ⊥
ChosenIn (Some found) o = Chosen found.0 (λ id. first_of id found.1) o

-- the bench's command, with the names that it takes for kinds of node, modes, tables, what an audit chooses of these, and units
abbrev pub IsBench : App → Type 0
IsBench app = (roles : Listed) × (modes : Listed) × (tables : Listed) × (choices : Listed) × (units : Listed)
    × ListsRoles roles × ListsModes modes × ListsTables tables × ListsChoices choices × ListsUnits units
    × (app ≡ bench_app roles modes tables choices units)

-- arguments say these options: none say `node` with its defaults, others what the command finds in them
abbrev pub Says : List Text → Options → Type 0
Says [] (Node node) = (node.role ≡ Danh) × (node.mac ≡ 2 ∷ 0 ∷ 0 ∷ 0 ∷ 0 ∷ 1 ∷ []) × (node.mode ≡ H) × (node.table ≡ Large) × (node.unit ≡ Milliseconds)
Says [] o = ⊥
Says (w ∷ ws) o = (app : App) × IsBench app × ChosenIn (subcommand_of app (w ∷ ws)) o

-- ---- what is refused

-- the command finds no fault in the arguments
abbrev pub IsTaken : List Text → Type 0
IsTaken [] = ⊤
IsTaken (w ∷ ws) = (app : App) × IsBench app × (fault_of app (w ∷ ws) ≡ [])

-- what was found is of no subcommand, or a value of it says nothing: a `--mac` that is no address or a group's, or a `--within` that is no number in its range
abbrev pub SaysNothing : Option (Text × List Row) → Type 0
SaysNothing found = (o : Options) → ¬ ChosenIn found o

-- the text by which a `--mac` is refused: the agreed line, and what it takes
abbrev pub mac_usage : Text
mac_usage = codes "usage: --mac\nexplain: --mac takes the address of one node: six pairs of hexadecimal digits with hyphens between, the first pair even (an odd one is a group's), as 02-00-00-00-00-01"

-- and by which a `--within` is
abbrev pub within_usage : Text
within_usage = codes "usage: --within\nexplain: --within takes how many microseconds after its send a copy may be under way: a number from 1 to 400000"

-- what says nothing is the `--within` of `certify`, or a `--mac`
abbrev pub silent_usage : Text → Text
silent_usage name = if bytes_eq name (codes "certify") then within_usage else mac_usage

abbrev pub silent_usage_in : Option (Text × List Row) → Text
silent_usage_in None = mac_usage
silent_usage_in (Some found) = silent_usage found.0

-- arguments are refused by this text: the command finds a fault in them, or finds none, and what it finds says nothing
abbrev pub IsRefused : List Text → Text → Type 0
IsRefused [] text = ⊥
IsRefused (w ∷ ws) text = (app : App) × IsBench app × ((fault_of app (w ∷ ws) ≢ [])
    ⊎ ((fault_of app (w ∷ ws) ≡ []) × SaysNothing (subcommand_of app (w ∷ ws)) × (text ≡ silent_usage_in (subcommand_of app (w ∷ ws)))))
