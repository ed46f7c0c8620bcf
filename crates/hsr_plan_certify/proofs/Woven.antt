-- What orders send that do what is told is what is told.
--     woven_sends   something holds of it that holds of what is told
use Rattle.std.proofs.Common.{ℕ, ◌≡◌, inl, inr, List, [], ◌∷◌, slice_get, IfSome, sym, subst}
use Rattle.hsr_frame.specs.declared.node.About.TheVariants.{Own, Proxied}
use Rattle.hsr_scenario.specs.declared.steps.Order.{Order}
use Rattle.hsr_scenario.specs.declared.steps.Order.TheVariants as order
use Rattle.hsr_topology.specs.declared.end.End.{End}
use Rattle.hsr_world_steps.specs.declared.step.Step as steps
use Rattle.hsr_world_steps.specs.declared.step.Step.TheVariants.{Clock, Send, Supervise, Age, Put, Take, Judge, Cut, Mend, Inject}
use Rattle.hsr_world_laws.specs.World.{World}
use Rattle.hsr_plays.specs.Spans.{moment_after}
use Rattle.hsr_plan_hops.specs.Telling.{Does, IsMoment, IsUnknown, LeavesOut, Tells}
use Rattle.hsr_plan_hops.specs.Turns.{due_behind}
use Rattle.hsr_plan_certify.specs.Origins.{origin_by}
use Rattle.hsr_plan_certify.specs.declared.origin.Origin.{Origin}
use Rattle.hsr_plan_certify.proofs.Sent.{OfSends, streams_behind}

module _ (P : Origin → Type 0) where
  -- only supervision is left out
  unknown_sends : (capacity at : ℕ) (w : World) (streams : List ℕ) (o : Order) (told : List Order) → IsUnknown capacity w o → OfSends P at streams (o ∷ told) → OfSends P at streams told
  unknown_sends capacity at w streams (order.Step (Supervise n (Proxied mac))) told unknown (first, rest) = rest
  unknown_sends capacity at w streams (order.Step (Supervise n Own)) told unknown all = absurd unknown
  unknown_sends capacity at w streams (order.Step (Clock now)) told unknown all = absurd unknown
  unknown_sends capacity at w streams (order.Step (Send node from dst vlan ethertype payload)) told unknown all = absurd unknown
  unknown_sends capacity at w streams (order.Step (Age node)) told unknown all = absurd unknown
  unknown_sends capacity at w streams (order.Step (Put node port)) told unknown all = absurd unknown
  unknown_sends capacity at w streams (order.Step (Take link dir)) told unknown all = absurd unknown
  unknown_sends capacity at w streams (order.Step (Judge node port)) told unknown all = absurd unknown
  unknown_sends capacity at w streams (order.Step (Cut link)) told unknown all = absurd unknown
  unknown_sends capacity at w streams (order.Step (Mend link)) told unknown all = absurd unknown
  unknown_sends capacity at w streams (order.Step (Inject link dir octets)) told unknown all = absurd unknown
  unknown_sends capacity at w streams order.Drain told unknown all = absurd unknown

  left_sends : (capacity at : ℕ) (w : World) (streams : List ℕ) (told left : List Order) → LeavesOut capacity w told left → OfSends P at streams told → OfSends P at streams left
  left_sends capacity at w streams [] left leaves all = let Q : List Order → Type 0 = OfSends P at streams in subst Q (sym leaves) all
  left_sends capacity at w streams (o ∷ told) left (inl same) all = let Q : List Order → Type 0 = OfSends P at streams in subst Q (sym same) all
  left_sends capacity at w streams (o ∷ told) left (inr (unknown, leaves)) all =
      left_sends capacity at w streams told left leaves (unknown_sends capacity at w streams o told unknown all)

  -- a moment is told, or comes before the one that is told next
  moment_sends : (at now : ℕ) (streams : List ℕ) (left more : List Order) → IsMoment at left more → OfSends P now streams left → OfSends P at streams more
  moment_sends at now streams [] more is all = let Q : List Order → Type 0 = OfSends P at streams in subst Q (sym is) tt
  moment_sends at now streams (order.Step (Clock next) ∷ told) more (inl (same, is)) (first, rest) =
      let Q : List Order → Type 0 = OfSends P at streams in
      let R : ℕ → Type 0 = λ n. OfSends P n streams told in
      subst Q (sym is) (subst R same rest)
  moment_sends at now streams (order.Step (Clock next) ∷ told) more (inr (before, is)) (first, rest) =
      let Q : List Order → Type 0 = OfSends P at streams in subst Q (sym is) (first, rest)
  moment_sends at now streams (order.Step (Send node from dst vlan ethertype payload) ∷ told) more is all = absurd is
  moment_sends at now streams (order.Step (Supervise node about) ∷ told) more is all = absurd is
  moment_sends at now streams (order.Step (Age node) ∷ told) more is all = absurd is
  moment_sends at now streams (order.Step (Put node port) ∷ told) more is all = absurd is
  moment_sends at now streams (order.Step (Take link dir) ∷ told) more is all = absurd is
  moment_sends at now streams (order.Step (Judge node port) ∷ told) more is all = absurd is
  moment_sends at now streams (order.Step (Cut link) ∷ told) more is all = absurd is
  moment_sends at now streams (order.Step (Mend link) ∷ told) more is all = absurd is
  moment_sends at now streams (order.Step (Inject link dir octets) ∷ told) more is all = absurd is
  moment_sends at now streams (order.Drain ∷ told) more is all = absurd is

  -- what is next is told
  next_sends : (at : ℕ) (streams : List ℕ) (left : List Order) (o : Order) (more : List Order) → left ≡ o ∷ more → OfSends P at streams left → OfSends P at streams (o ∷ more)
  next_sends at streams left o more is all = let Q : List Order → Type 0 = OfSends P at streams in subst Q is all

  -- a step sends what is told, and leaves what is told behind it
  step_sends : (at : ℕ) (streams : List ℕ) (left : List Order) (step : steps.Step) (more : List Order) → Does step left more → OfSends P at streams left →
      IfSome (origin_by at (order.Step step) (slice_get streams 0)) P × OfSends P (moment_after at (order.Step step)) (streams_behind (order.Step step) streams) more
  step_sends at streams left (Clock now) more does all = (tt, moment_sends now at streams left more does all)
  step_sends at streams left (Put node port) more does all = (tt, (let Q : List Order → Type 0 = OfSends P at streams in subst Q (sym does) all))
  step_sends at streams left (Take link dir) more does all = (tt, (let Q : List Order → Type 0 = OfSends P at streams in subst Q (sym does) all))
  step_sends at streams left (Judge node port) more does all = (tt, (let Q : List Order → Type 0 = OfSends P at streams in subst Q (sym does) all))
  step_sends at streams left (Send node from dst vlan ethertype payload) more does all = next_sends at streams left (order.Step (Send node from dst vlan ethertype payload)) more does all
  step_sends at streams left (Supervise node about) more does all = next_sends at streams left (order.Step (Supervise node about)) more does all
  step_sends at streams left (Age node) more does all = next_sends at streams left (order.Step (Age node)) more does all
  step_sends at streams left (Cut link) more does all = next_sends at streams left (order.Step (Cut link)) more does all
  step_sends at streams left (Mend link) more does all = next_sends at streams left (order.Step (Mend link)) more does all
  step_sends at streams left (Inject link dir octets) more does all = next_sends at streams left (order.Step (Inject link dir octets)) more does all

  pub woven_sends : (capacity at : ℕ) (links : List (List End)) (streams : List ℕ) (told : List Order) (due : _) (w : World) (orders : List Order) (after : World) →
      Tells capacity links told due w orders after → OfSends P at streams told → OfSends P at streams orders
  woven_sends capacity at links streams told due w [] after tells all = tt
  woven_sends capacity at links streams told due w (order.Drain ∷ orders) after tells all = absurd tells
  woven_sends capacity at links streams told due w (order.Step step ∷ orders) after (more, between, done, tells) all =
      let here = step_sends at streams done.left step more done.does (left_sends capacity at w streams told done.left done.left_out all) in
      (here.0, woven_sends capacity (moment_after at (order.Step step)) links (streams_behind (order.Step step) streams) more (due_behind links step) between orders after tells here.1)
