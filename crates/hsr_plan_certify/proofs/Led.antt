-- Orders that lead to a moment, and send as many frames as there are streams.
--     IsLed   something holds of what such orders send
use Rattle.std.proofs.Common.{ℕ, ◌≡◌, List, [], ◌∷◌, ◌++◌, length, count_by, slice_get, Option, None, IfSome, cond, refl, sym, ap, subst, ◌∙◌, arith, length-append}
use Rattle.std.proofs.lemmas.List.Sums.{sum_by-append}
use Rattle.hsr_frame.specs.declared.node.About.{About}
use Rattle.hsr_scenario.specs.declared.steps.Order.{Order}
use Rattle.hsr_scenario.specs.declared.steps.Order.TheVariants as order
use Rattle.hsr_world_steps.specs.declared.step.Step.TheVariants.{Clock, Send, Supervise, Cut, Mend}
use Rattle.hsr_plays.specs.Spans.{moment_after, moment_behind}
use Rattle.hsr_plan_certify.specs.Origins.{is_frame, origin_by}
use Rattle.hsr_plan_certify.specs.declared.origin.Cause.TheVariants.{Stream, Life}
use Rattle.hsr_plan_certify.specs.declared.origin.Origin.{Origin}
use Rattle.hsr_plan_certify.proofs.Sent.{OfSends, of_sends_append}

pub record IsLed (P : Origin → Type 0) (now : ℕ) (streams : List ℕ) (orders : List Order) : Type 0 where
  pub moment : moment_behind 0 orders ≡ now
  pub frames : count_by is_frame orders ≡ length streams
  pub each : OfSends P 0 streams orders

moment_append : (at : ℕ) (orders others : List Order) → moment_behind at (orders ++ others) ≡ moment_behind (moment_behind at orders) others
moment_append at [] others = refl
moment_append at (o ∷ orders) others = moment_append (moment_after at o) orders others

append_none : (streams : List ℕ) → streams ++ [] ≡ streams
append_none [] = refl
append_none (s ∷ ss) = ap (λ rest. s ∷ rest) (append_none ss)

module _ (P : Origin → Type 0) where
  -- one more order, which sends as many frames as there are more streams
  led_more : (now : ℕ) (streams more : List ℕ) (orders : List Order) (o : Order) → IsLed P now streams orders → count_by is_frame (o ∷ []) ≡ length more →
      IfSome (origin_by now o (slice_get more 0)) P → IsLed P (moment_after now o) (streams ++ more) (orders ++ o ∷ [])
  led_more now streams more orders o led count holds = record {
    moment = moment_append 0 orders (o ∷ []) ∙ ap (λ at. moment_after at o) led.moment;
    frames = omega (arith, sum_by-append (λ x. cond (is_frame x) 1 0) orders (o ∷ []), length-append streams more, led.frames, count);
    each = of_sends_append P 0 streams more orders (o ∷ []) led.frames led.each
        (let Q : ℕ → Type 0 = λ at. OfSends P at more (o ∷ []) in subst Q (sym led.moment) (holds, tt));
  }

  -- one that sends nothing of a stream
  led_other : (now : ℕ) (streams : List ℕ) (orders : List Order) (o : Order) → IsLed P now streams orders → count_by is_frame (o ∷ []) ≡ 0 →
      IfSome (origin_by now o None) P → IsLed P (moment_after now o) streams (orders ++ o ∷ [])
  led_other now streams orders o led count holds =
      let Q : List ℕ → Type 0 = λ ss. IsLed P (moment_after now o) ss (orders ++ o ∷ []) in
      subst Q (append_none streams) (led_more now streams [] orders o led count holds)

  pub led_drain : (now : ℕ) (streams : List ℕ) (orders : List Order) → IsLed P now streams orders → IsLed P now streams (orders ++ order.Drain ∷ [])
  led_drain now streams orders led = led_other now streams orders order.Drain led refl tt

  pub led_clock : (now at : ℕ) (streams : List ℕ) (orders : List Order) → IsLed P now streams orders → IsLed P at streams (orders ++ order.Step (Clock at) ∷ [])
  led_clock now at streams orders led = led_other now streams orders (order.Step (Clock at)) led refl tt

  pub led_cut : (now link : ℕ) (streams : List ℕ) (orders : List Order) → IsLed P now streams orders → IsLed P now streams (orders ++ order.Step (Cut link) ∷ [])
  led_cut now link streams orders led = led_other now streams orders (order.Step (Cut link)) led refl tt

  pub led_mend : (now link : ℕ) (streams : List ℕ) (orders : List Order) → IsLed P now streams orders → IsLed P now streams (orders ++ order.Step (Mend link) ∷ [])
  led_mend now link streams orders led = led_other now streams orders (order.Step (Mend link)) led refl tt

  pub led_life : (now node : ℕ) (about : About) (streams : List ℕ) (orders : List Order) → P (record { node = node; at = now; cause = Life }) →
      IsLed P now streams orders → IsLed P now streams (orders ++ order.Step (Supervise node about) ∷ [])
  led_life now node about streams orders holds led = led_other now streams orders (order.Step (Supervise node about)) led refl holds

  pub led_frame : (now node from i : ℕ) (dst : List ℕ) (vlan : Option ℕ) (ethertype : ℕ) (payload : List ℕ) (streams : List ℕ) (orders : List Order) →
      P (record { node = node; at = now; cause = Stream i }) → IsLed P now streams orders →
      IsLed P now (streams ++ i ∷ []) (orders ++ order.Step (Send node from dst vlan ethertype payload) ∷ [])
  led_frame now node from i dst vlan ethertype payload streams orders holds led =
      led_more now streams (i ∷ []) orders (order.Step (Send node from dst vlan ethertype payload)) led refl holds
