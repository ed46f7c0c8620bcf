-- What a parse found of a run that is to be shown.
use Rattle.std.proofs.Common.{◌≡◌, ◌≢◌, Option, Some, None, IfNone, IfSome, sym, ap, ◌∙◌, codes, Bool, true, false}
use Rattle.clap.specs.Words.{Text}
use Rattle.hsr_cli.specs.Flags.{flag_text}
use Rattle.hsr_cli.specs.Playing.{IsAsked, IsForm, IsShowing, IsTable}
use Rattle.hsr_table_size.specs.Sizes.{table_of}
use Rattle.hsr_table_size.specs.declared.size.TableSize.{TableSize}
use Rattle.hsr_options.specs.declared.chosen.Showing.{Showing}
use Rattle.hsr_options.specs.declared.chosen.Form.{Form}
use Rattle.hsr_options.specs.declared.chosen.Form.TheVariants.{Transcript, Report}
use Rattle.hsr_options.specs.declared.chosen.Asked.{Asked}

-- equal look-ups choose the same
pub asked_same : (f g : Text → Option Text) (asked : Asked) → ((id : Text) → f id ≡ g id) → IsAsked f asked → IsAsked g asked
asked_same f g asked e h =
    (sym (e (codes "load")) ∙ h.0, sym (e (codes "latency")) ∙ h.1, sym (e (codes "deliveries")) ∙ h.2, sym (e (codes "needed")) ∙ h.3, sym (e (codes "budget")) ∙ h.4)

form_same : (f g : Text → Option Text) (form : Form) → ((id : Text) → f id ≡ g id) → IsForm f form → IsForm g form
form_same f g Transcript e h = sym (e (codes "transcript")) ∙ h
form_same f g (Report asked) e h = (sym (e (codes "transcript")) ∙ h.0, asked_same f g asked e h.1)

pub showing_same : (f g : Text → Option Text) (showing : Showing) → ((id : Text) → f id ≡ g id) → IsShowing f showing → IsShowing g showing
showing_same f g showing e h = (sym (e (codes "network")) ∙ h.0, form_same f g showing.form e h.1, sym (e (codes "names")) ∙ h.2)

pub table_same : (f g : Text → Option Text) (table : TableSize) → ((id : Text) → f id ≡ g id) → IsTable f table → IsTable g table
table_same f g table e h = (h.0, sym (e (codes "table")) ∙ h.1, h.2)

-- without a flag for the transcript nothing is to be written
pub no_form : (found : Text → Option Text) → ((b : Bool) → found (codes "transcript") ≢ Some (flag_text b)) → (form : Form) → ¬ IsForm found form
no_form found none Transcript h = none true h
no_form found none (Report asked) h = none false h.0

pub table_found : (r : Option TableSize) (w : Text) (found : Text → Option Text) → r ≡ table_of w → found (codes "table") ≡ Some w → IfSome r (IsTable found)
table_found None w found e is = tt
table_found (Some t) w found e is = (w, is, sym e)

pub table_unread : (r : Option TableSize) (w : Text) (found : Text → Option Text) → r ≡ table_of w → found (codes "table") ≡ Some w → IfNone r ((t : TableSize) → ¬ IsTable found t)
table_unread (Some t) w found e is = tt
table_unread None w found e is = λ t h.
    let there : found (codes "table") ≡ Some h.0 = h.1 in
    let same : w ≡ h.0 = cc in
    let none = e ∙ ap table_of same ∙ h.2 in
    cc

pub table_missing : (found : Text → Option Text) → None ≡ found (codes "table") → (t : TableSize) → ¬ IsTable found t
table_missing found e t h =
    let none = e ∙ h.1 in
    cc
