-- What a step makes of what was woven.
use Rattle.std.proofs.Common.{◌≡◌, ◌∙◌, ℕ, ◌<◌, ◌≤◌, ◌∷◌, ◌++◌, [], List, Option, Some, None, Err, true, false, ap, arith, length, length-append, subst, sym}
use Rattle.std.proofs.lemmas.Bool.{false≢true}
use Rattle.hsr_frame.specs.declared.node.About.TheVariants.{Proxied}
use Rattle.hsr_node.specs.declared.event.StepFault.TheVariants.{NotProxied}
use Rattle.hsr_topology.specs.declared.end.End.{End}
use Rattle.hsr_scenario.specs.declared.steps.Order.{Order}
use Rattle.hsr_scenario.specs.declared.steps.Order.TheVariants.{Step}
use Rattle.hsr_world_steps.specs.declared.step.Step.TheVariants.{Supervise}
use Rattle.hsr_world_steps.specs.declared.step.Step as steps
use Rattle.hsr_world_steps.specs.declared.step.WorldFault.{WorldFault}
use Rattle.hsr_world_steps.specs.declared.step.WorldFault.TheVariants.{Node}
use Rattle.hsr_plan_schedule.specs.Meaning.{Meaning}
use Rattle.hsr_plan_text.specs.declared.plan.Transfer.{Transfer}
use Rattle.hsr_world_laws.specs.World.{World, tried}
use Rattle.hsr_plan_hops.specs.Beginning.{Begins, IsNext, Stage, at_first, done, first_stage, left_out, telling}
use Rattle.hsr_plan_hops.specs.Moving.{world_of}
use Rattle.hsr_plan_hops.specs.Flights.{Channels, no_channels}
use Rattle.hsr_plan_hops.specs.declared.turns.Due.TheVariants.{Nothing}
use Rattle.hsr_plan_hops.specs.Refusing.{IsEndless, order_limit}
use Rattle.hsr_plan_hops.specs.Telling.{IsUnknownTo}
use Rattle.hsr_plan_hops.specs.Weaving.{GoesOn, GoesOnIf, IsBegun, IsObeyed, IsTried, Woven, is_unknown}

-- ---- a step that is done

longer : (capacity : ℕ) (transfer : Transfer) (told : Meaning) (orders : List Order) (s t : Stage) (step : steps.Step) (more : List Order) → Begins capacity transfer told orders s → IsNext capacity transfer told.topology.links s step more
    → IsTried capacity transfer told.topology.links s step more t None → Begins capacity transfer told (orders ++ Step step ∷ []) t
longer capacity transfer told orders s t step more begins next is =
    let P : Stage → Type 0 = Begins capacity transfer told (orders ++ Step step ∷ []) in
    subst P (sym is.1) (done orders s step more t.world begins next is.0)

pub goes_on : (capacity : ℕ) (transfer : Transfer) (told : Meaning) (v x : Woven) (step : steps.Step) (more : List Order) → IsBegun capacity transfer told v → IsNext capacity transfer told.topology.links v.stage step more
    → IsTried capacity transfer told.topology.links v.stage step more x.stage None → x.orders ≡ v.orders ++ Step step ∷ [] → length x.orders ≤ order_limit → GoesOn capacity transfer told v step more x
goes_on capacity transfer told v x step more begun next is same few =
    let P : List Order → Type 0 = λ os. Begins capacity transfer told os x.stage in
    record {
      begun = record { begins = subst P (sym same) (longer capacity transfer told v.orders v.stage x.stage step more begun.begins next is); few = few };
      stage = is.1;
      one = ap length same ∙ length-append v.orders (Step step ∷ []);
    }

pub endless : (capacity : ℕ) (transfer : Transfer) (told : Meaning) (v x : Woven) (step : steps.Step) (more : List Order) → IsBegun capacity transfer told v → IsNext capacity transfer told.topology.links v.stage step more
    → IsTried capacity transfer told.topology.links v.stage step more x.stage None → x.orders ≡ v.orders ++ Step step ∷ [] → order_limit < length x.orders → IsEndless capacity transfer told
endless capacity transfer told v x step more begun next is same over =
    let P : List Order → Type 0 = λ os. Begins capacity transfer told os x.stage in
    record {
      orders = x.orders;
      stage = x.stage;
      begins = subst P (sym same) (longer capacity transfer told v.orders v.stage x.stage step more begun.begins next is);
      over = over;
    }

-- ---- the same, of the parts of what was woven

abbrev pub made : Stage → List Order → Woven
made s orders = record { stage = s; orders = orders }

tried_at : (capacity : ℕ) (transfer : Transfer) (told : Meaning) (v : Woven) (links : List (List End)) (s t : Stage) (before : List Order) (step : steps.Step) (more : List Order) (o : Option WorldFault)
    → made s before ≡ v → links ≡ told.topology.links → o ≡ None → IsTried capacity transfer links s step more t o → IsTried capacity transfer told.topology.links v.stage step more t None
tried_at capacity transfer told v links s t before step more o is_made same none is =
    let T : Option WorldFault → Type 0 = λ r. IsTried capacity transfer links s step more t r in
    let L : List (List End) → Type 0 = λ ls. IsTried capacity transfer ls s step more t None in
    let V : Woven → Type 0 = λ w. IsTried capacity transfer told.topology.links w.stage step more t None in
    subst V is_made (subst L same (subst T none is))

added_at : (v : Woven) (s : Stage) (before orders : List Order) (order : Order) → made s before ≡ v → orders ≡ before ++ order ∷ [] → orders ≡ v.orders ++ order ∷ []
added_at v s before orders order is_made is = is ∙ ap (λ (w : Woven). w.orders ++ order ∷ []) is_made

pub goes_on_at : (capacity : ℕ) (transfer : Transfer) (told : Meaning) (v : Woven) (links : List (List End)) (s t : Stage) (before orders : List Order) (step : steps.Step) (more : List Order) (o : Option WorldFault)
    → made s before ≡ v → links ≡ told.topology.links → o ≡ None → IsBegun capacity transfer told v → IsNext capacity transfer told.topology.links v.stage step more → IsTried capacity transfer links s step more t o
    → orders ≡ before ++ Step step ∷ [] → length orders ≤ order_limit → GoesOn capacity transfer told v step more (made t orders)
goes_on_at capacity transfer told v links s t before orders step more o is_made same none begun next is longer few =
    goes_on capacity transfer told v (made t orders) step more begun next (tried_at capacity transfer told v links s t before step more o is_made same none is)
    (added_at v s before orders (Step step) is_made longer) few

pub endless_at : (capacity : ℕ) (transfer : Transfer) (told : Meaning) (v : Woven) (links : List (List End)) (s t : Stage) (before orders : List Order) (step : steps.Step) (more : List Order) (o : Option WorldFault)
    → made s before ≡ v → links ≡ told.topology.links → o ≡ None → IsBegun capacity transfer told v → IsNext capacity transfer told.topology.links v.stage step more → IsTried capacity transfer links s step more t o
    → orders ≡ before ++ Step step ∷ [] → order_limit < length orders → IsEndless capacity transfer told
endless_at capacity transfer told v links s t before orders step more o is_made same none begun next is longer over =
    endless capacity transfer told v (made t orders) step more begun next (tried_at capacity transfer told v links s t before step more o is_made same none is)
    (added_at v s before orders (Step step) is_made longer) over

-- nothing is done yet
pub begun_first : (capacity : ℕ) (transfer : Transfer) (told : Meaning) (os : List Order) (cs : Channels) (w : World) (orders : List Order) → os ≡ told.orders → cs ≡ no_channels told.topology.links → w ≡ world_of told → orders ≡ []
    → IsBegun capacity transfer told (made (record { told = os; due = Nothing; moment = 0; begun = false; turn = 0; channels = cs; world = w }) orders)
begun_first capacity transfer told os cs w orders is_told is_none is_first is_empty =
    let v : Woven = made (record { told = os; due = Nothing; moment = 0; begun = false; turn = 0; channels = cs; world = w }) orders in
    let same : made (first_stage told) [] ≡ v = cc in
    let P : Woven → Type 0 = IsBegun capacity transfer told in
    let none : length {A = Order} [] ≤ order_limit = omega arith in
    subst P same (record { begins = at_first; few = none })

-- ---- supervision that is left out

pub unknown_so : (capacity : ℕ) (w : World) (step : steps.Step) (fault : WorldFault) → is_unknown step fault ≡ true → tried capacity w step ≡ Err fault → IsUnknownTo capacity w step
unknown_so capacity w (Supervise n (Proxied mac)) (Node NotProxied) unknown is = is
unknown_so capacity w step fault unknown is = absurd (false≢true unknown)

pub leaves_out : (capacity : ℕ) (transfer : Transfer) (told : Meaning) (v x : Woven) (step : steps.Step) (more : List Order) → IsBegun capacity transfer told v → IsNext capacity transfer told.topology.links v.stage step more
    → IsUnknownTo capacity v.stage.world step → x.stage ≡ telling v.stage more → x.orders ≡ v.orders → IsObeyed capacity transfer told v more x
leaves_out capacity transfer told v x step more begun next unknown is same =
    let P : Stage → Type 0 = Begins capacity transfer told v.orders in
    let Q : List Order → Type 0 = λ os. Begins capacity transfer told os x.stage in
    let many : length x.orders ≡ length v.orders = ap length same in
    let room : length v.orders ≤ order_limit = begun.few in
    record {
      begun = record {
        begins = subst Q (sym same) (subst P (sym is) (left_out v.orders v.stage step more begun.begins next unknown));
        few = omega arith;
      };
      told_on = ap (λ (s : Stage). s.told) is;
      longer = omega arith;
    }

pub leaves_out_at : (capacity : ℕ) (transfer : Transfer) (told : Meaning) (v x : Woven) (s t : Stage) (before : List Order) (step : steps.Step) (more : List Order) (fault : WorldFault)
    → IsBegun capacity transfer told v → IsNext capacity transfer told.topology.links v.stage step more → is_unknown step fault ≡ true → tried capacity v.stage.world step ≡ Err fault → x ≡ v → made s before ≡ x
    → t ≡ telling s more → IsObeyed capacity transfer told v more (made t before)
leaves_out_at capacity transfer told v x s t before step more fault begun next unknown is same is_made is_telling =
    let e : made s before ≡ v = is_made ∙ same in
    leaves_out capacity transfer told v (made t before) step more begun next (unknown_so capacity v.stage.world step fault unknown is)
    (is_telling ∙ ap (λ (w : Woven). telling w.stage more) e) (ap (λ (w : Woven). w.orders) e)

pub left_out_at : (capacity : ℕ) (transfer : Transfer) (told : Meaning) (v x : Woven) (s t : Stage) (before : List Order) (step : steps.Step) (more : List Order) (o : Option WorldFault) (fault : WorldFault)
    → IsBegun capacity transfer told v → IsNext capacity transfer told.topology.links v.stage step more → GoesOnIf capacity transfer told v step more x o → o ≡ Some fault → is_unknown step fault ≡ true → made s before ≡ x
    → t ≡ telling s more → IsObeyed capacity transfer told v more (made t before)
left_out_at capacity transfer told v x s t before step more o fault begun next is some unknown is_made is_telling =
    let P : Option WorldFault → Type 0 = GoesOnIf capacity transfer told v step more x in
    let refusal = subst P some is in
    leaves_out_at capacity transfer told v x s t before step more fault begun next unknown refusal.1 refusal.0 is_made is_telling
