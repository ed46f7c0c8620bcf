-- Each order of a plan that sends comes from an occasion of the plan.
use Rattle.std.proofs.Common.{ℕ, ◌≡◌, not, List, [], ◌∷◌, ◌++◌, filter, get_or, Some, Result, Ok, Err, sym, subst}
use Rattle.std.specs.List.{All}
use Rattle.std.proofs.lemmas.List.Sorted.{All-permutation}
use Rattle.std.proofs.lemmas.Option.{slice_get-get_or}
use Rattle.hsr_scenario.specs.declared.steps.Order.{Order}
use Rattle.hsr_scenario.specs.declared.steps.Order.TheVariants.{Drain}
use Rattle.hsr_plays.specs.Conditions.{is_fine}
use Rattle.hsr_certify_text.specs.Coarse.{coarse}
use Rattle.hsr_plan_text.specs.Plan.{Plan}
use Rattle.hsr_plan_text.specs.declared.fault.PlanFault.{PlanFault}
use Rattle.hsr_plan_text.specs.declared.plan.Moves.{Moves}
use Rattle.hsr_plan_text.specs.declared.plan.Moves.TheVariants.{EachSendDrains, EachMomentDrains, Timed}
use Rattle.hsr_plan_schedule.specs.Meaning.{IfListed, Listed, Meaning, Orders, Tells, listed, setting}
use Rattle.hsr_plan_schedule.specs.Orders.{told_of}
use Rattle.hsr_plan_schedule.specs.declared.occasion.Occasion.{Occasion}
use Rattle.hsr_plan_hops.specs.Moving.{Moved}
use Rattle.hsr_plan_certify.specs.Occasions.{IsListed, OrdersComeFromOccasions}
use Rattle.hsr_plan_certify.specs.Origins.{origin_of}
use Rattle.hsr_plan_certify.specs.Verdicts.{coarsened}
use Rattle.hsr_plan_certify.specs.declared.origin.Origin.{Origin}
use Rattle.hsr_plan_certify.proofs.Sent.{OfSends, of_sends_at, of_sends_coarse}
use Rattle.hsr_plan_certify.proofs.Told.{Covers, told_led}
use Rattle.hsr_plan_certify.proofs.Woven.{woven_sends}

-- each of these occasions is one of them
each_listed : (os : List Occasion) → All (Covers (IsListed os)) os
each_listed os k d below = λ origin at about. record { index = k; occasion = get_or os k d; listed = slice_get-get_or os k d below; at = at; about = about }

-- what is told of occasions in another order comes from these
told_sends : (plan : Plan) (all : Listed) (orders : List Order) (streams : List ℕ) → Orders plan all orders streams → OfSends (IsListed all.occasions) 0 streams orders
told_sends plan all orders streams (os, in_order, first, second) =
    let P : Origin → Type 0 = IsListed all.occasions in
    let led = told_led P (setting plan all.wired all.publications) os (All-permutation (Covers P) all.occasions os in_order.same (each_listed all.occasions)) in
    let Q : List Order → Type 0 = λ v. OfSends P 0 (told_of (setting plan all.wired all.publications) os).sends v in
    let R : List ℕ → Type 0 = λ v. OfSends P 0 v orders in
    subst R (sym second) (subst Q (sym first) led.1.each)

-- and so it is once copies move
moved_sends : (P : Origin → Type 0) (capacity : ℕ) (moves : Moves) (told m : Meaning) → Moved capacity moves told m → OfSends P 0 told.sends told.orders → OfSends P 0 m.sends m.orders
moved_sends P capacity EachSendDrains told m same sends = let Q : Meaning → Type 0 = λ v. OfSends P 0 v.sends v.orders in subst Q (sym same) sends
moved_sends P capacity EachMomentDrains told m same sends = let Q : Meaning → Type 0 = λ v. OfSends P 0 v.sends v.orders in subst Q (sym same) sends
moved_sends P capacity (Timed transfer) told m (orders, at_transfer, same) sends =
    let Q : Meaning → Type 0 = λ v. OfSends P 0 v.sends v.orders in
    subst Q (sym same) (woven_sends P capacity 0 told.topology.links told.sends told.orders _ _ orders _ at_transfer.run.tells sends)

-- a drain behind all sends nothing
drained_sends : (P : Origin → Type 0) (at : ℕ) (streams : List ℕ) (orders : List Order) → OfSends P at streams orders → OfSends P at streams (orders ++ Drain ∷ [])
drained_sends P at streams [] all = (tt, tt)
drained_sends P at streams (o ∷ orders) (first, rest) = (first, drained_sends P _ _ orders rest)

comes_if : (said : Result Listed PlanFault) (plan : Plan) (capacity : ℕ) (told m : Meaning) (i : ℕ) (origin : Origin) → IfListed said (λ all. Tells plan all told) →
    Moved capacity plan.outline.moves told m → origin_of (coarsened m) i ≡ Some origin → IfListed said (λ all. IsListed all.occasions origin)
comes_if (Err fault) plan capacity told m i origin tells moved is = tells
comes_if (Ok all) plan capacity told m i origin tells moved is =
    let P : Origin → Type 0 = IsListed all.occasions in
    let sends = moved_sends P capacity plan.outline.moves told m moved (told_sends plan all told.orders told.sends tells.orders) in
    of_sends_at P 0 m.sends (coarse m.orders) i origin (drained_sends P 0 m.sends (filter (λ o. not (is_fine o)) m.orders) (of_sends_coarse P 0 m.sends m.orders sends)) is

pub orders_come_from_occasions : OrdersComeFromOccasions
orders_come_from_occasions capacity plan m i origin means is = comes_if (listed plan) plan capacity means.told m i origin means.means means.moved is
