-- What a parse found, by the walk of its command.
use Rattle.std.proofs.Common.{◌≡◌, ◌≢◌, ◌<◌, inl, inr, List, [], ◌∷◌, length, Option, Some, None, IfNone, IfSome, refl, sym, ap, subst, ◌∙◌, codes, arith, true}
use Rattle.clap.specs.Words.{App, Row, Text, fault_of, first_of, is_simple, is_simple_and_free, subcommand_of}
use Rattle.hsr_cli.specs.Options.{Chosen, ChosenIn, IsBench, IsNode, IsRefused, IsTableChoice, IsTaken, Says, SaysNothing, silent_usage_in}
use Rattle.hsr_cli.specs.Playing.{IsTable}
use Rattle.hsr_cli.proofs.PlayingFound.{asked_same, showing_same, table_same}
use Rattle.hsr_cli.specs.Within.{IsWithin}
use Rattle.hsr_frame.specs.Words.{mode_of, mode_word}
use Rattle.hsr_frame.specs.declared.node.Mode.{Mode}
use Rattle.hsr_frame.specs.declared.node.Mode.TheVariants.{H, N, U}
use Rattle.hsr_text.proofs.Units.{unit_again}
use Rattle.hsr_text.specs.Moments.{unit_of, unit_word}
use Rattle.hsr_text.specs.declared.time_unit.TimeUnit.{TimeUnit}
use Rattle.hsr_options.proofs.Roles.{role_again}
use Rattle.hsr_options.specs.Roles.{node_role_of, node_role_word}
use Rattle.hsr_options.specs.declared.role.NodeRole.{NodeRole}
use Rattle.hsr_options.specs.declared.chosen.NodeOptions.{NodeOptions}
use Rattle.hsr_table_size.specs.declared.size.TableSize.{TableSize}
use Rattle.hsr_options.specs.declared.chosen.TableChoice.{TableChoice}
use Rattle.hsr_options.specs.declared.chosen.TableChoice.TheVariants.{Given, Told}
use Rattle.hsr_options.specs.declared.chosen.Options.{Options}
use Rattle.hsr_options.specs.declared.chosen.Options.TheVariants.{Node, Run, Threads, Audit, Certify}

-- equal look-ups choose the same
choice_same : (f g : Text → Option Text) (choice : TableChoice) → ((id : Text) → f id ≡ g id) → IsTableChoice f choice → IsTableChoice g choice
choice_same f g (Given table) e h = table_same f g table e h
choice_same f g Told e h = sym (e (codes "table")) ∙ h

pub chosen_same : (name : Text) (f g : Text → Option Text) (o : Options) → ((id : Text) → f id ≡ g id) → Chosen name f o → Chosen name g o
chosen_same name f g (Node node) e h =
    (h.0, (sym (e (codes "role")) ∙ h.1.0, (h.1.1.0, sym (e (codes "mac")) ∙ h.1.1.1, h.1.1.2), sym (e (codes "mode")) ∙ h.1.2, table_same f g node.table e h.1.3, sym (e (codes "unit")) ∙ h.1.4))
chosen_same name f g (Run table showing folder opens explains) e h =
    (h.0, table_same f g table e h.1, showing_same f g showing e h.2, sym (e (codes "csv")) ∙ h.3, sym (e (codes "open")) ∙ h.4, sym (e (codes "explain")) ∙ h.5)
chosen_same name f g (Threads table showing folder explains) e h =
    (h.0, table_same f g table e h.1, showing_same f g showing e h.2, sym (e (codes "csv")) ∙ h.3, sym (e (codes "explain")) ∙ h.4)
chosen_same name f g (Audit table scope asked scenario folder explains) e h = (
  h.0,
  choice_same f g table e h.1,
  sym (e (codes "network")) ∙ h.2,
  asked_same f g asked e h.3,
  sym (e (codes "names")) ∙ h.4,
  sym (e (codes "csv")) ∙ h.5,
  sym (e (codes "explain")) ∙ h.6,
)
chosen_same name f g (Certify table within is_coarse) e h =
    (h.0, table_same f g table e h.1, subst (λ word. IsWithin word within) (e (codes "within")) h.2, sym (e (codes "coarse")) ∙ h.3)

pub chosen_from : (found : Option (Text × List Row)) (name : Text) (rows : List Row) (o : Options) → found ≡ Some (name, rows)
    → Chosen name (λ id. first_of id rows) o → ChosenIn found o
chosen_from found name rows o e h = subst (λ f. ChosenIn f o) (sym e) h

pub chosen_to : (found : Option (Text × List Row)) (name : Text) (rows : List Row) (o : Options) → found ≡ Some (name, rows)
    → ChosenIn found o → Chosen name (λ id. first_of id rows) o
chosen_to found name rows o e h = subst (λ f. ChosenIn f o) e h

pub says : (words : List Text) (app : App) (o : Options) → 0 < length words → IsBench app → ChosenIn (subcommand_of app words) o → Says words o
says [] app o h is chosen = absurd (omega arith)
says (w ∷ ws) app o h is chosen = (app, is, chosen)

-- ---- what is refused

pub is_simple_so : (app : App) → IsBench app → is_simple app ≡ true
is_simple_so app is = ap is_simple is.10

pub is_free : (app : App) → IsBench app → is_simple_and_free app ≡ true
is_free app is = ap is_simple_and_free is.10

pub taken : (words : List Text) (app : App) → 0 < length words → IsBench app → fault_of app words ≡ [] → IsTaken words
taken [] app h is none = tt
taken (w ∷ ws) app h is none = (app, is, none)

pub faulty : (words : List Text) (app : App) (text : Text) → 0 < length words → IsBench app → fault_of app words ≢ [] → IsRefused words text
faulty [] app text h is some = absurd (omega arith)
faulty (w ∷ ws) app text h is some = (app, is, inl some)

pub silent : (words : List Text) (app : App) (text : Text) → 0 < length words → IsBench app → fault_of app words ≡ [] → SaysNothing (subcommand_of app words)
    → text ≡ silent_usage_in (subcommand_of app words) → IsRefused words text
silent [] app text h is none nothing said = absurd (omega arith)
silent (w ∷ ws) app text h is none nothing said = (app, is, inr (none, nothing, said))

-- ---- a kind of node, a mode, a size of tables and a unit, by their words

word_found : {A : Type 0} (word : A → Text) (r : Option A) (w : Text) (found : Option Text) → IfSome r (λ a. w ≡ word a) → found ≡ Some w → IfSome r (λ a. found ≡ Some (word a))
word_found word None w found h is = tt
word_found word (Some a) w found h is = is ∙ ap Some h

word_unread : {A : Type 0} (word : A → Text) (said : Text → Option A) → ((a : A) → said (word a) ≡ Some a) → (r : Option A) (w : Text) (found : Option Text) → r ≡ said w → found ≡ Some w
    → IfNone r ((a : A) → found ≢ Some (word a))
word_unread word said again (Some a) w found e is = tt
word_unread word said again None w found e is = λ a h.
    let same : w ≡ word a = cc in
    let none = e ∙ ap said same ∙ again a in
    cc

pub role_found : (r : Option NodeRole) (w : Text) (found : Option Text) → IfSome r (λ k. w ≡ node_role_word k) → found ≡ Some w → IfSome r (λ k. found ≡ Some (node_role_word k))
role_found = word_found node_role_word

pub role_unread : (r : Option NodeRole) (w : Text) (found : Option Text) → r ≡ node_role_of w → found ≡ Some w → IfNone r ((k : NodeRole) → found ≢ Some (node_role_word k))
role_unread = word_unread node_role_word node_role_of role_again

mode_again : (m : Mode) → mode_of (mode_word m) ≡ Some m
mode_again H = refl
mode_again N = refl
mode_again U = refl

pub mode_found : (r : Option Mode) (w : Text) (found : Option Text) → IfSome r (λ m. w ≡ mode_word m) → found ≡ Some w → IfSome r (λ m. found ≡ Some (mode_word m))
mode_found = word_found mode_word

pub mode_unread : (r : Option Mode) (w : Text) (found : Option Text) → r ≡ mode_of w → found ≡ Some w → IfNone r ((m : Mode) → found ≢ Some (mode_word m))
mode_unread = word_unread mode_word mode_of mode_again

pub none_so : {X : Type 0} (o : Option X) (P : Type 0) → P → IfNone o P
none_so None P h = h
none_so (Some x) P h = tt

-- where no size is chosen, no command that has one is
pub no_node : (found : Text → Option Text) → ((t : TableSize) → ¬ IsTable found t) → (node : NodeOptions) → ¬ IsNode found node
no_node found none node h = none node.table h.3

pub no_run : (name : Text) (found : Text → Option Text) → name ≡ codes "run" → ((t : TableSize) → ¬ IsTable found t) → (o : Options) → ¬ Chosen name found o
no_run name found is none (Node node) h = none node.table h.1.3
no_run name found is none (Run table showing folder opens explains) h = none table h.1
no_run name found is none (Threads table showing folder explains) h = none table h.1
no_run name found is none (Audit table scope asked scenario folder explains) h =
    let one : length name ≡ 3 = ap length is in
    let other : length name ≡ 5 = ap length h.0 in
    absurd (omega (arith, one, other))
no_run name found is none (Certify table within is_coarse) h = none table h.1

pub no_threads : (name : Text) (found : Text → Option Text) → name ≡ codes "threads" → ((t : TableSize) → ¬ IsTable found t) → (o : Options) → ¬ Chosen name found o
no_threads name found is none (Node node) h = none node.table h.1.3
no_threads name found is none (Run table showing folder opens explains) h = none table h.1
no_threads name found is none (Threads table showing folder explains) h = none table h.1
no_threads name found is none (Audit table scope asked scenario folder explains) h =
    let one : length name ≡ 7 = ap length is in
    let other : length name ≡ 5 = ap length h.0 in
    absurd (omega (arith, one, other))
no_threads name found is none (Certify table within is_coarse) h = none table h.1

pub no_certify : (name : Text) (found : Text → Option Text) → name ≡ codes "certify" → ((t : TableSize) → ¬ IsTable found t) → (o : Options) → ¬ Chosen name found o
no_certify name found is none (Node node) h = none node.table h.1.3
no_certify name found is none (Run table showing folder opens explains) h = none table h.1
no_certify name found is none (Threads table showing folder explains) h = none table h.1
no_certify name found is none (Audit table scope asked scenario folder explains) h =
    let one : length name ≡ 7 = ap length is in
    let other : length name ≡ 5 = ap length h.0 in
    absurd (omega (arith, one, other))
no_certify name found is none (Certify table within is_coarse) h = none table h.1

-- what chooses no size, and isn't the word for the transcript's, chooses nothing for an audit
pub no_choice : (found : Text → Option Text) → ((t : TableSize) → ¬ IsTable found t) → found (codes "table") ≢ Some (codes "auto") → (choice : TableChoice) → ¬ IsTableChoice found choice
no_choice found none told (Given table) h = none table h
no_choice found none told Told h = told h

pub unit_found : (r : Option TimeUnit) (w : Text) (found : Option Text) → IfSome r (λ u. w ≡ unit_word u) → found ≡ Some w → IfSome r (λ u. found ≡ Some (unit_word u))
unit_found = word_found unit_word

pub unit_unread : (r : Option TimeUnit) (w : Text) (found : Option Text) → r ≡ unit_of w → found ≡ Some w → IfNone r ((u : TimeUnit) → found ≢ Some (unit_word u))
unit_unread = word_unread unit_word unit_of unit_again
