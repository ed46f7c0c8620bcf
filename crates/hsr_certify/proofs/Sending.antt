-- The nodes of sends that are accepted are there.
use Rattle.std.proofs.Common.{◌≡◌, ℕ, ◌+◌, ◌<◌, nat_lt, true, List, length, Option, Some, None, sym, ap, ◌∙◌, subst, ltb-true}
use Rattle.std.specs.Prelude.{slice_get}
use Rattle.std.proofs.lemmas.Bool.{and_parts}
use Rattle.hsr_run_laws.specs.Run.{Run}
use Rattle.hsr_scenario.specs.declared.steps.Order.{Order}
use Rattle.hsr_scenario.specs.declared.steps.Order.TheVariants as order
use Rattle.hsr_world_steps.specs.declared.step.Step.TheVariants.{Clock, Send, Supervise, Age, Put, Take, Judge, Cut, Mend, Inject}
use Rattle.hsr_plays.specs.Setup.{asked_by}
use Rattle.hsr_plays.specs.Spans.{spans_from}
use Rattle.hsr_plays.specs.declared.span.Asked.{Asked}
use Rattle.hsr_plays.specs.declared.span.SendSpan.{SendSpan}
use Rattle.hsr_plays.proofs.Asking.{asked_at}
use Rattle.hsr_certify.specs.Firsts.{first_step}
use Rattle.hsr_certify.specs.Served.{AreSentIn}
use Rattle.hsr_certify.specs.Tests.{is_accepted}
use Rattle.hsr_certify.proofs.Firsts.{steps_pass}

node_there : (net : Run) (orders : List Order) (spans : List SendSpan) (i : ℕ) (o : Order) (asked : Asked) → is_accepted net orders spans i o ≡ true → asked_by o ≡ Some asked →
    asked.node < length net.places
node_there net orders spans i (order.Step (Send node from dst vlan ethertype payload)) asked ok is =
    let made : Asked = record { node = node; from = from; dst = dst; kind = ethertype } in
    let same : made ≡ asked = let e : Some made ≡ Some asked = is in cc in
    let below = ltb-true node (length net.places) (and_parts (nat_lt node (length net.places)) _ ok).0 in
    subst (λ (a : Asked). a.node < length net.places) same below
node_there net orders spans i (order.Step (Supervise node about)) asked ok is =
    let same : node ≡ asked.node = ap node_of is in
    let below = ltb-true node (length net.places) (and_parts (nat_lt node (length net.places)) _ ok).0 in
    subst (λ n. n < length net.places) same below
  where
    node_of : Option Asked → ℕ
    node_of None = 0
    node_of (Some a) = a.node
node_there net orders spans i (order.Step (Clock at)) asked ok is = absurd cc
node_there net orders spans i (order.Step (Age node)) asked ok is = absurd cc
node_there net orders spans i (order.Step (Put node port)) asked ok is = absurd cc
node_there net orders spans i (order.Step (Take link dir)) asked ok is = absurd cc
node_there net orders spans i (order.Step (Judge node port)) asked ok is = absurd cc
node_there net orders spans i (order.Step (Cut link)) asked ok is = absurd cc
node_there net orders spans i (order.Step (Mend link)) asked ok is = absurd cc
node_there net orders spans i (order.Step (Inject link dir octets)) asked ok is = absurd cc
node_there net orders spans i order.Drain asked ok is = absurd cc

pub are_sent_in : (net : Run) (within : Option ℕ) (orders : List Order) (spans : List SendSpan) → spans ≡ spans_from within 0 0 orders →
    first_step (is_accepted net orders spans) 0 orders ≡ None → AreSentIn net.places spans
are_sent_in net within orders spans are none i span listed =
    let there = asked_at within 0 0 orders i span (ap (λ xs. slice_get xs i) (sym are) ∙ listed) in
    node_there net orders spans (0 + there.at) there.order span.asked (steps_pass (is_accepted net orders spans) 0 orders none there.at there.order there.listed) there.asked
