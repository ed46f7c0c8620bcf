-- Which steps are accepted: a clock always; a send, a supervision and an age of a node that is there, where the node answers; a cut and a
-- mend of a link that is there.
use Rattle.std.proofs.Common.{◌≡◌, ℕ, ◌+◌, ◌^◌, ◌<◌, ◌==◌, ◌||◌, nat_lt, not, max, Bool, true, false, cond, if◌then◌else◌, List, [], ◌∷◌, ◌++◌, length, Option, Some, None, Result, Ok, Err, refl, sym, ap, ◌∙◌, subst, arith, ne_eqb, lt-ltb}
use Rattle.std.specs.Prelude.{is_some, slice_index_or}
use Rattle.std.proofs.lemmas.Bool.{cond-false, cond-true, false≢true}
use Rattle.hsr_frame.specs.Cases.{first_of}
use Rattle.hsr_frame.specs.Layout.{ethertype_hsr, ethertype_vlan, max_payload}
use Rattle.hsr_frame.specs.Address.{is_same_address}
use Rattle.hsr_frame.specs.Send.{send_refusal}
use Rattle.hsr_frame.specs.declared.fault.SendFault.{SendFault}
use Rattle.hsr_frame.specs.declared.fault.SendFault.TheVariants as fault
use Rattle.hsr_frame.specs.declared.node.About.{About}
use Rattle.hsr_frame.specs.declared.node.About.TheVariants.{Own, Proxied}
use Rattle.hsr_frame.specs.declared.node.Mode.{Mode}
use Rattle.hsr_redbox.specs.declared.call.LifeFault.{LifeFault}
use Rattle.hsr_redbox.specs.declared.call.LifeFault.TheVariants as life
use Rattle.hsr_node.specs.Copies.{address_at}
use Rattle.hsr_node.specs.Record.{Owner, answer, knows, life_answer, lived_or_refused, next_number, now, send_answer, sending, sent_as, sent_or_refused, steps}
use Rattle.hsr_node.specs.declared.entry.Entry.{Entry}
use Rattle.hsr_node.specs.declared.event.Event.{Event}
use Rattle.hsr_node.specs.declared.event.Event.TheVariants as event
use Rattle.hsr_node.specs.declared.event.Outcome.{Outcome}
use Rattle.hsr_node.specs.declared.event.Outcome.TheVariants as outcome
use Rattle.hsr_node.specs.declared.event.StepFault.{StepFault}
use Rattle.hsr_node.specs.declared.event.StepFault.TheVariants as refused
use Rattle.hsr_node.specs.declared.place.Place.{Place}
use Rattle.hsr_node.specs.declared.place.Place.TheVariants.{Danh, RedBox, QuadBox, Station}
use Rattle.hsr_link.specs.declared.row.Dir.{Dir}
use Rattle.hsr_run_laws.specs.Run.{place_of}
use Rattle.hsr_scenario.specs.declared.steps.Order.{Order}
use Rattle.hsr_scenario.specs.declared.steps.Order.TheVariants as order
use Rattle.hsr_world_laws.specs.World.{World, and_added, by_main, entered, has_link, has_node, if_link, owner_at, planned, record_at, tried, with_span}
use Rattle.hsr_world_steps.specs.declared.step.Step.{Step}
use Rattle.hsr_world_steps.specs.declared.step.Step.TheVariants.{Clock, Send, Supervise, Age, Put, Take, Judge, Cut, Mend, Inject}
use Rattle.hsr_world_steps.specs.declared.step.WorldFault.{WorldFault}
use Rattle.hsr_world_steps.specs.declared.step.WorldFault.TheVariants.{NoSuchNode, NoSuchLink}
use Rattle.hsr_plays.specs.Conditions.{IsAcceptedStep, IsHeard, Speaks, is_fine, is_sent_from}
use Rattle.hsr_plays.specs.Setup.{Setup, net_of}

-- ---- what a node answers

abbrev Answers : Result Outcome StepFault → Type 0
Answers result = (out : Outcome) × (result ≡ Ok out)

not_spent : (past : List Entry) → steps past < 2 ^ 62 → (steps past == 2 ^ 62) ≡ false
not_spent past few = ne_eqb (steps past) (2 ^ 62) (λ e. omega (arith, few, e))

-- the first reason that applies
abbrev send_reasons : Bool → Bool → Bool → Bool → Option SendFault
send_reasons own reserved spent long =
    first_of ((own, Some fault.SelfAddressed) ∷ (reserved, Some fault.ReservedType) ∷ (spent, Some fault.Spent) ∷ (long, Some fault.TooLong) ∷ []) None

no_reason : (own reserved spent long : Bool) → not (is_some (send_reasons own reserved false long)) ≡ true → spent ≡ false → send_reasons own reserved spent long ≡ None
no_reason true reserved spent long fine is = absurd (false≢true fine)
no_reason false true spent long fine is = absurd (false≢true fine)
no_reason false false true long fine is = absurd (false≢true (sym is))
no_reason false false false true fine is = absurd (false≢true fine)
no_reason false false false false fine is = refl

-- a send that is accepted where nothing was sent is accepted where fewer were than are refused for their number
pub send_so : (capacity : ℕ) (owner : Owner) (past : List Entry) (at : ℕ) (address : Option (List ℕ)) (dst : List ℕ) (kind len : ℕ) → is_sent_from address dst kind len ≡ true → steps past < 2 ^ 62 →
    Answers (send_answer capacity owner past at address dst kind len)
send_so capacity owner past at None dst kind len fine few = absurd (false≢true fine)
send_so capacity owner past at (Some src) dst kind len fine few =
    let none : send_refusal src (steps past) dst kind len ≡ None =
    no_reason (is_same_address dst src) (kind == ethertype_hsr || kind == ethertype_vlan) (steps past == 2 ^ 62) (nat_lt max_payload len) fine (not_spent past few) in
    (_, ap (λ o. sent_or_refused o (sent_as (sending owner.place (knows owner.place past at event.Age) dst kind) (next_number past))) none)

abbrev life_reasons : Bool → Bool → Option LifeFault
life_reasons unknown spent = first_of ((unknown, Some life.NotProxied) ∷ (spent, Some life.Spent) ∷ []) None

-- a supervision of a node that speaks for itself, or for an address that it knows
pub life_so : (s : Setup) (i node : ℕ) (place : Place) (past : List Entry) (at : ℕ) (about : About) → Speaks s i node place about → steps past < 2 ^ 62 →
    ((mac : List ℕ) (mode : Mode) (station : List ℕ) → place ≡ RedBox mac mode → about ≡ Proxied station → IsHeard s i node station → knows (RedBox mac mode) past at event.Age station ≡ true) →
    Answers (life_answer place past at about)
life_so s i node (Danh mac mode) past at Own speaks few heard = (_, cond-false (steps past == 2 ^ 62) (Err refused.Spent) (lived_or_refused past None) (not_spent past few))
life_so s i node (Danh mac mode) past at (Proxied station) speaks few heard = absurd speaks
life_so s i node (RedBox mac mode) past at Own speaks few heard = (_, ap (λ b. lived_or_refused past (life_reasons false b)) (not_spent past few))
life_so s i node (RedBox mac mode) past at (Proxied station) speaks few heard =
    (_, ap (λ b. lived_or_refused past (life_reasons (not b) (steps past == 2 ^ 62))) (heard mac mode station refl refl speaks) ∙ ap (λ b. lived_or_refused past (life_reasons false b)) (not_spent past few))
life_so s i node QuadBox past at Own speaks few heard = absurd speaks
life_so s i node QuadBox past at (Proxied station) speaks few heard = absurd speaks
life_so s i node (Station macs) past at Own speaks few heard = absurd speaks
life_so s i node (Station macs) past at (Proxied station) speaks few heard = absurd speaks

-- ---- what a world makes of a step

abbrev pub Accepts : ℕ → World → Step → Type 0
Accepts capacity w step = (after : World) × (tried capacity w step ≡ Ok after)

main_so : (capacity : ℕ) (w : World) (n : ℕ) (event : Event) → n < length w.places → Answers (answer capacity (owner_at w n) (record_at w n) (max (now (record_at w n)) w.moment) event) →
    (after : World) × (by_main capacity w n event ≡ Ok after)
main_so capacity w n event below answers =
    (_, cond-true (has_node w n) (entered capacity (planned w n event) 0 n event) (Err NoSuchNode) (lt-ltb n (length w.places) below) ∙ ap (and_added (planned w n event) 0 n event) answers.1)

link_so : (w : World) (l : ℕ) (after : World) → l < length w.spans → if_link w l (Ok after) ≡ Ok after
link_so w l after below = cond-true (has_link w l) (Ok after) (Err NoSuchLink) (lt-ltb l (length w.spans) below)

-- a step of a scenario that is accepted
pub step_so : (s : Setup) (i : ℕ) (w : World) → (step : Step) → is_fine (order.Step step) ≡ false → IsAcceptedStep s i step → w.places ≡ s.places → length w.spans ≡ length s.links → ((k : ℕ) → steps (record_at w k) < 2 ^ 62) →
    ((node : ℕ) (station : List ℕ) (mac : List ℕ) (mode : Mode) → step ≡ Supervise node (Proxied station) → place_of (net_of s) node ≡ RedBox mac mode → IsHeard s i node station →
    knows (RedBox mac mode) (record_at w node) (max (now (record_at w node)) w.moment) event.Age station ≡ true) → Accepts s.capacity w step
unfolding tried
step_so s i w (Clock at) fine accepted places links few heard = (_, refl)
step_so s i w (Send node from dst vlan kind payload) fine accepted places links few heard =
    let below : node < length w.places = subst (λ (ps : List Place). node < length ps) (sym places) accepted.0 in
    let from_there : is_sent_from (address_at (owner_at w node).place from) dst kind (length payload) ≡ true =
    ap (λ (ps : List Place). is_sent_from (address_at (slice_index_or ps node QuadBox) from) dst kind (length payload)) places ∙ accepted.1 in
    main_so s.capacity w node (event.Send from dst vlan kind payload) below
    (send_so s.capacity (owner_at w node) (record_at w node) (max (now (record_at w node)) w.moment) (address_at (owner_at w node).place from) dst kind (length payload) from_there (few node))
step_so s i w (Supervise node about) fine accepted places links few heard =
    let below : node < length w.places = subst (λ (ps : List Place). node < length ps) (sym places) accepted.0 in
    let same : place_of (net_of s) node ≡ (owner_at w node).place = ap (λ (ps : List Place). slice_index_or ps node QuadBox) (sym places) in
    main_so s.capacity w node (event.Supervise about) below
    (life_so s i node (owner_at w node).place (record_at w node) (max (now (record_at w node)) w.moment) about (subst (λ (p : Place). Speaks s i node p about) same accepted.1) (few node)
    (λ mac mode station is spoken known. heard node station mac mode (ap (Supervise node) spoken) (same ∙ is) known))
step_so s i w (Age node) fine accepted places links few heard = main_so s.capacity w node event.Age (subst (λ (ps : List Place). node < length ps) (sym places) accepted) (outcome.Aged, refl)
step_so s i w (Put node port) fine accepted places links few heard = absurd (false≢true (sym fine))
step_so s i w (Take link dir) fine accepted places links few heard = absurd (false≢true (sym fine))
step_so s i w (Judge node port) fine accepted places links few heard = absurd (false≢true (sym fine))
step_so s i w (Cut link) fine accepted places links few heard = (_, link_so w link _ (omega (arith, accepted, links)))
step_so s i w (Mend link) fine accepted places links few heard = (_, link_so w link _ (omega (arith, accepted, links)))
step_so s i w (Inject link dir octets) fine accepted places links few heard = absurd (false≢true (sym fine))
