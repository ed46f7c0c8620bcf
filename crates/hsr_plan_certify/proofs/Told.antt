-- What is told of occasions comes from them.
--     told_led   so it is with all that orders send that tell occasions
use Rattle.std.proofs.Common.{ℕ, zero, suc, ◌≡◌, ◌+◌, ◌==◌, Bool, true, false, List, [], ◌∷◌, ◌++◌, slice_get, slice_set, Option, Some, None, refl, sym, ap, subst, append_assoc, arith, if◌then◌else◌}
use Rattle.std.specs.List.{All}
use Rattle.std.proofs.lemmas.Bool.Decides.{nat_tests}
use Rattle.hsr_frame.specs.declared.node.About.{About}
use Rattle.hsr_frame.specs.declared.node.About.TheVariants.{Own, Proxied}
use Rattle.hsr_scenario.specs.declared.steps.Order.{Order}
use Rattle.hsr_scenario.specs.declared.steps.Order.TheVariants.{Step}
use Rattle.hsr_topology.specs.declared.end.End.{End}
use Rattle.hsr_world_steps.specs.declared.step.Step.TheVariants.{Supervise}
use Rattle.hsr_plan_text.specs.Plan.{Stream}
use Rattle.hsr_plan_text.specs.declared.plan.Moves.{Moves}
use Rattle.hsr_plan_text.specs.declared.plan.Moves.TheVariants.{EachSendDrains, EachMomentDrains, Timed}
use Rattle.hsr_plan_schedule.specs.Hearing.{Heard, heard_on, interlink_to, knows, macs_behind}
use Rattle.hsr_plan_schedule.specs.Orders.{Told, change, changed, changes, clocked, comes, downs, drain, drained, flag, from_stream, happens, hear, hear_by, hear_on, is_to_speak, live, named_send, send_if, sending, set, speak, speak_of, start, tell_all, tell_occasion, told_of, type_of}
use Rattle.hsr_plan_schedule.specs.Setting.{Setting}
use Rattle.hsr_plan_schedule.specs.declared.occasion.Happening.{Happening}
use Rattle.hsr_plan_schedule.specs.declared.occasion.Happening.TheVariants as happening
use Rattle.hsr_plan_schedule.specs.declared.occasion.Occasion.{Occasion}
use Rattle.hsr_plan_schedule.specs.declared.occasion.Sender.{Sender}
use Rattle.hsr_plan_schedule.specs.declared.occasion.Sent.{Sent}
use Rattle.hsr_plan_certify.specs.Occasions.{IsAbout}
use Rattle.hsr_plan_certify.specs.declared.origin.Cause.TheVariants as cause
use Rattle.hsr_plan_certify.specs.declared.origin.Origin.{Origin}
use Rattle.hsr_plan_certify.proofs.Led.{IsLed, led_clock, led_cut, led_drain, led_frame, led_life, led_mend}

same_if : (a b : ℕ) → (a == b) ≡ true → a ≡ b
same_if a b is = grind (arith, nat_tests, is)

append_nothing : (orders : List Order) → orders ++ [] ≡ orders
append_nothing [] = refl
append_nothing (o ∷ orders) = ap (λ rest. o ∷ rest) (append_nothing orders)

-- P of where an order comes from that tells an occasion
abbrev pub Covers : (Origin → Type 0) → Occasion → Type 0
Covers P o = (origin : Origin) → o.at ≡ origin.at → IsAbout o.what origin.node origin.cause → P origin

module _ (P : Origin → Type 0) where
  -- what is told leads to a moment
  abbrev Led : ℕ → Told → Type 0
  Led at told = IsLed P at told.sends told.orders × (told.now ≡ at)

  -- ---- drains and moments

  drained_if : (at : ℕ) (is : Bool) (told : Told) → Led at told → Led at (if is then drain told else told)
  drained_if at true told (led, now) = (led_drain P at told.sends told.orders led, now)
  drained_if at false told led = led

  led_drained : (at : ℕ) (told : Told) → Led at told → Led at (drained told)
  led_drained at told led = drained_if at told.sent told led

  led_set : (at now : ℕ) (told : Told) → Led now told → Led at (set at told)
  led_set at now told led = (led_clock P now at told.sends told.orders led.0, refl)

  clocked_if : (at now : ℕ) (same : Bool) (told : Told) → (same ≡ true → told.now ≡ at) → Led now told → Led at (if same then told else set at (drained told))
  clocked_if at now true told so (led, is) =
      let e : told.now ≡ at = so refl in
      let Q : ℕ → Type 0 = λ n. IsLed P n told.sends told.orders in
      (subst Q e (subst Q (sym is) led), e)
  clocked_if at now false told so led = led_set at now (drained told) (led_drained now told led)

  led_clocked : (at now : ℕ) (told : Told) → Led now told → Led at (clocked at told)
  led_clocked at now told led = clocked_if at now (told.now == at) told (same_if told.now at) led

  -- ---- sends

  led_sending : (at : ℕ) (moves : Moves) (order : Order) (told : Told) → Led at (record told { orders = told.orders ++ order ∷ [] }) → Led at (sending moves order told)
  led_sending at EachSendDrains order told (led, now) = (led_drain P at told.sends (told.orders ++ order ∷ []) led, now)
  led_sending at EachMomentDrains order told led = led
  led_sending at (Timed transfer) order told led = led

  heard_if : (at : ℕ) (is : Bool) (heard : Heard) (told : Told) → Led at told → Led at (if is then record told { heard = heard } else told)
  heard_if at true heard told led = led
  heard_if at false heard told led = led

  led_hear_on : (at : ℕ) (g : Setting) (l : ℕ) (sender : Sender) (ends : Option (List End)) (told : Told) → Led at told → Led at (hear_on g l sender ends told)
  led_hear_on at g l sender None told led = led
  led_hear_on at g l sender (Some ends) told led = heard_if at (comes g l sender ends told) (heard_on g.nodes told.now ends sender.mac told.heard) told led

  led_hear_by : (at : ℕ) (g : Setting) (l : Option ℕ) (sender : Sender) (told : Told) → Led at told → Led at (hear_by g l sender told)
  led_hear_by at g None sender told led = led
  led_hear_by at g (Some l) sender told led = led_hear_on at g l sender (slice_get g.links l) told led

  led_hear : (at : ℕ) (g : Setting) (sender : Sender) (told : Told) → Led at told → Led at (hear g sender told)
  led_hear at g sender told led = led_hear_by at g (interlink_to g.links sender.node) sender told led

  -- supervision of a node
  led_life_of : (at : ℕ) (g : Setting) (k : ℕ) (about : About) (told : Told) → P (record { node = k; at = at; cause = cause.Life }) → Led at told →
      Led at (sending g.moves (Step (Supervise k about)) told)
  led_life_of at g k about told holds (led, now) =
      led_sending at g.moves (Step (Supervise k about)) told (led_life P at k about told.sends told.orders holds led, now)

  speak_if : (at : ℕ) (is : Bool) (g : Setting) (k : ℕ) (mac : List ℕ) (told : Told) → P (record { node = k; at = at; cause = cause.Life }) → Led at told →
      Led at (if is then sending g.moves (Step (Supervise k (Proxied mac))) told else told)
  speak_if at true g k mac told holds led = led_life_of at g k (Proxied mac) told holds led
  speak_if at false g k mac told holds led = led

  led_speak_of : (at : ℕ) (g : Setting) (k : ℕ) (macs : List (List ℕ)) (told : Told) → P (record { node = k; at = at; cause = cause.Life }) → Led at told → Led at (speak_of g k macs told)
  led_speak_of at g k [] told holds led = led
  led_speak_of at g k (mac ∷ macs) told holds led =
      led_speak_of at g k macs (speak g k mac told) holds (speak_if at (is_to_speak g.moves (knows told.now k mac told.heard)) g k mac told holds led)

  led_live : (at : ℕ) (g : Setting) (k : ℕ) (told : Told) → P (record { node = k; at = at; cause = cause.Life }) → Led at told → Led at (live g k told)
  led_live at g k told holds led =
      led_speak_of at g k (macs_behind g.nodes g.links k) (sending g.moves (Step (Supervise k Own)) told) holds (led_life_of at g k Own told holds led)

  -- a frame of a stream
  led_send : (at : ℕ) (g : Setting) (stream : Option Stream) (sent : Sent) (told : Told) →
      P (record { node = sent.sender.node; at = at; cause = cause.Stream sent.stream }) → Led at told → Led at (send_if g stream sent told)
  led_send at g None sent told holds led = led
  led_send at g (Some stream) sent told holds led =
      let heard : Told = hear g sent.sender told in
      let before : Led at heard = led_hear at g sent.sender told led in
      led_sending at g.moves (named_send g stream sent) (from_stream sent.stream heard)
      (led_frame P at sent.sender.node sent.sender.from sent.stream sent.dst stream.framing.tag (type_of stream.framing.kind) _ heard.sends heard.orders holds before.0, before.1)

  -- ---- links

  led_change : (at : ℕ) (streams : List ℕ) (orders : List Order) (before after : Bool) (l : ℕ) → IsLed P at streams orders → IsLed P at streams (orders ++ change before after l)
  led_change at streams orders true true l led = let Q : List Order → Type 0 = IsLed P at streams in subst Q (sym (append_nothing orders)) led
  led_change at streams orders false false l led = let Q : List Order → Type 0 = IsLed P at streams in subst Q (sym (append_nothing orders)) led
  led_change at streams orders false true l led = led_cut P at l streams orders led
  led_change at streams orders true false l led = led_mend P at l streams orders led

  led_changes : (at : ℕ) (streams : List ℕ) (orders : List Order) (after : List Bool) (l : ℕ) (before : List Bool) → IsLed P at streams orders →
      IsLed P at streams (orders ++ changes after l before)
  led_changes at streams orders after l [] led = let Q : List Order → Type 0 = IsLed P at streams in subst Q (sym (append_nothing orders)) led
  led_changes at streams orders after l (was ∷ more) led =
      let Q : List Order → Type 0 = IsLed P at streams in
      subst Q (append_assoc orders (change was (flag after l) l) (changes after (l + 1) more))
      (led_changes at streams (orders ++ change was (flag after l) l) after (l + 1) more (led_change at streams orders was (flag after l) l led))

  led_changed : (at : ℕ) (links : List (List End)) (off cut : List Bool) (told : Told) → Led at told → Led at (changed links off cut told)
  led_changed at links off cut told (led, now) = (led_changes at told.sends told.orders (downs off cut 0 links) 0 (downs told.off told.cut 0 links) led, now)

  -- ---- occasions

  live_if : (at : ℕ) (off : Bool) (g : Setting) (k : ℕ) (told : Told) → P (record { node = k; at = at; cause = cause.Life }) → Led at told → Led at (if off then told else live g k told)
  live_if at true g k told holds led = led
  live_if at false g k told holds led = led_live at g k told holds led

  sent_if : (at : ℕ) (off : Bool) (g : Setting) (stream : Option Stream) (sent : Sent) (told : Told) →
      P (record { node = sent.sender.node; at = at; cause = cause.Stream sent.stream }) → Led at told → Led at (if off then told else send_if g stream sent told)
  sent_if at true g stream sent told holds led = led
  sent_if at false g stream sent told holds led = led_send at g stream sent told holds led

  led_happens : (at : ℕ) (g : Setting) (what : Happening) (told : Told) → Covers P (record { at = at; what = what }) → Led at told → Led at (happens g what told)
  led_happens at g (happening.Cut l) told covers led = led_changed at g.links told.off (slice_set told.cut l true) told led
  led_happens at g (happening.Mend l) told covers led = led_changed at g.links told.off (slice_set told.cut l false) told led
  led_happens at g (happening.Off k) told covers led = led_changed at g.links (slice_set told.off k true) told.cut told led
  led_happens at g (happening.On k) told covers led = led_changed at g.links (slice_set told.off k false) told.cut told led
  led_happens at g (happening.Life k) told covers led =
      live_if at (flag told.off k) g k told (covers (record { node = k; at = at; cause = cause.Life }) refl (refl, refl)) led
  led_happens at g (happening.Send sent) told covers led =
      sent_if at (flag told.off sent.sender.node) g (slice_get g.streams sent.stream) sent told
      (covers (record { node = sent.sender.node; at = at; cause = cause.Stream sent.stream }) refl (refl, refl)) led

  led_all : (g : Setting) (now : ℕ) (told : Told) (os : List Occasion) → All (Covers P) os → Led now told → (at : ℕ) × Led at (tell_all g told os)
  led_all g now told [] covers led = (now, led)
  led_all g now told (o ∷ os) covers led =
      led_all g o.at (tell_occasion g o told) os (λ k d below. covers (suc k) d (omega (arith, below)))
      (led_happens o.at g o.what (clocked o.at told) (covers zero o (omega arith)) (led_clocked o.at now told led))

  pub told_led : (g : Setting) (os : List Occasion) → All (Covers P) os → (at : ℕ) × IsLed P at (told_of g os).sends (told_of g os).orders
  told_led g os covers =
      let all = led_all g 0 (start g) os covers (record { moment = refl; frames = refl; each = tt }, refl) in
      (all.0, (led_drained all.0 (tell_all g (start g) os) all.1).0)
