-- What the tests find are the doubts, and where all are passed the conditions hold.
use Rattle.std.proofs.Common.{◌≡◌, ℕ, ◌+◌, ◌<◌, ◌≤◌, not, Bool, true, false, List, [], ◌∷◌, length, Option, Some, None, refl, sym, ap, ◌∙◌, subst, arith, suc, zero, ltb-true, lt-ltb, leb-true, le-leb}
use Rattle.std.specs.Prelude.{slice_get}
use Rattle.std.specs.List.{list_any}
use Rattle.std.proofs.lemmas.Bool.{false≢true, not-true}
use Rattle.std.proofs.lemmas.Option.{slice_get_within}
use Rattle.hsr_frame.specs.Address.{supervision_address}
use Rattle.hsr_frame.specs.Layout.{ethertype_supervision}
use Rattle.hsr_duptable.specs.Notes.{entry_forget}
use Rattle.hsr_topology.specs.Wired.{IsWired}
use Rattle.hsr_scenario.specs.declared.steps.Order.{Order}
use Rattle.hsr_scenario.specs.declared.steps.Order.TheVariants as order
use Rattle.hsr_world_steps.specs.declared.step.Step.TheVariants.{Clock, Send, Supervise, Age, Put, Take, Judge, Cut, Mend, Inject}
use Rattle.hsr_plays.specs.Law.{is_send}
use Rattle.hsr_plays.specs.Conditions.{HasRoom, IsAccepted, IsBrief, IsClear, IsCovered, IsEnded, IsFine, IsNotBack, IsServed, IsUncrowded, IsUnwrapped, OfSends, OfSteps, is_covered_send, is_fine}
use Rattle.hsr_plays.specs.Setup.{Setup, net_of}
use Rattle.hsr_plays.specs.Spans.{end_from, moment_after, moment_at, spans, spans_from}
use Rattle.hsr_plays.specs.declared.span.SendSpan.{SendSpan}
use Rattle.hsr_certify.specs.Doubts.{AsksForSend, IsCutOff, IsFirstSend, IsFirstStep, IsPremised}
use Rattle.hsr_certify.specs.Firsts.{first_send, first_step}
use Rattle.hsr_certify.specs.Served.{IsCutAt, ServedBelow}
use Rattle.hsr_certify.specs.Tested.{IsPassed, subject_of}
use Rattle.hsr_certify.specs.Tests.{first_back, has_room, is_accepted, is_brief, is_coarse, is_ended, is_uncrowded, is_unwrapped}
use Rattle.hsr_plays.proofs.Asking.{is_placed}
use Rattle.hsr_certify.proofs.Brief.{inside_rises, rises_inside}
use Rattle.hsr_certify.proofs.Heard.{accepted_so, so_accepted}
use Rattle.hsr_certify.proofs.Firsts.{send_fails, sends_pass, step_fails, steps_pass}
use Rattle.hsr_certify.proofs.Turning.{goes_back, never_back}

-- ---- spans

some_span : (within : Option ℕ) (moment index : ℕ) (orders : List Order) → list_any is_send orders ≡ true → (span : SendSpan) × (slice_get (spans_from within moment index orders) 0 ≡ Some span)
some_span within moment index [] any = absurd (false≢true any)
some_span within moment index (o ∷ later) any = by_order o any (some_span within (moment_after moment o) (index + 1) later)
  where
    by_order : (o : Order) → list_any is_send (o ∷ later) ≡ true → (list_any is_send later ≡ true → (span : SendSpan) × (slice_get (spans_from within (moment_after moment o) (index + 1) later) 0 ≡ Some span)) →
        (span : SendSpan) × (slice_get (spans_from within moment index (o ∷ later)) 0 ≡ Some span)
    by_order order.Drain any rest = rest any
    by_order (order.Step (Clock at)) any rest = rest any
    by_order (order.Step (Send node from dst vlan kind payload)) any rest =
        (record { asked = record { node = node; from = from; dst = dst; kind = kind }; index = index; moment = moment; end = end_from within moment (index + 1) later }, refl)
    by_order (order.Step (Supervise node about)) any rest =
        (record { asked = record { node = node; from = 0; dst = supervision_address; kind = ethertype_supervision }; index = index; moment = moment; end = end_from within moment (index + 1) later }, refl)
    by_order (order.Step (Age node)) any rest = rest any
    by_order (order.Step (Put node port)) any rest = rest any
    by_order (order.Step (Take link dir)) any rest = rest any
    by_order (order.Step (Judge node port)) any rest = rest any
    by_order (order.Step (Cut link)) any rest = rest any
    by_order (order.Step (Mend link)) any rest = rest any
    by_order (order.Step (Inject link dir octets)) any rest = rest any

no_spans : (within : Option ℕ) (moment index : ℕ) (orders : List Order) → list_any is_send orders ≡ false → spans_from within moment index orders ≡ []
no_spans within moment index [] none = refl
no_spans within moment index (o ∷ later) none = by_order o none (no_spans within (moment_after moment o) (index + 1) later)
  where
    by_order : (o : Order) → list_any is_send (o ∷ later) ≡ false → (list_any is_send later ≡ false → spans_from within (moment_after moment o) (index + 1) later ≡ []) → spans_from within moment index (o ∷ later) ≡ []
    by_order order.Drain none rest = rest none
    by_order (order.Step (Clock at)) none rest = rest none
    by_order (order.Step (Send node from dst vlan kind payload)) none rest = absurd (false≢true (sym none))
    by_order (order.Step (Supervise node about)) none rest = absurd (false≢true (sym none))
    by_order (order.Step (Age node)) none rest = rest none
    by_order (order.Step (Put node port)) none rest = rest none
    by_order (order.Step (Take link dir)) none rest = rest none
    by_order (order.Step (Judge node port)) none rest = rest none
    by_order (order.Step (Cut link)) none rest = rest none
    by_order (order.Step (Mend link)) none rest = rest none
    by_order (order.Step (Inject link dir octets)) none rest = rest none

module _ (s : Setup) where
  -- a test of sends decides a condition
  pub record Decides (P : Setup → SendSpan → Type 0) (passes : SendSpan → Bool) : Type 0 where
    pub so : (j : ℕ) (span : SendSpan) → slice_get (spans s) j ≡ Some span → passes span ≡ true → P s span
    pub back : (j : ℕ) (span : SendSpan) → slice_get (spans s) j ≡ Some span → P s span → passes span ≡ true

  pub sends_hold : (P : Setup → SendSpan → Type 0) (passes : SendSpan → Bool) → Decides P passes → first_send passes (spans s) ≡ None → OfSends P s
  sends_hold P passes d none j span listed = d.so j span listed (sends_pass passes (spans s) none j span listed)

  pub send_doubt : (P : Setup → SendSpan → Type 0) (passes : SendSpan → Bool) → Decides P passes → (n : ℕ) → first_send passes (spans s) ≡ Some n → IsFirstSend P s n
  send_doubt P passes d n some =
      let f = send_fails passes (spans s) n some in
      record {
        at = f.at;
        span = f.span;
        listed = f.listed;
        index = f.index;
        fails = λ p. false≢true (sym f.fails ∙ d.back f.at f.span f.listed p);
        before = λ j other low listed. d.so j other listed (f.before j other low listed);
      }

  -- ---- something is sent

  pub some_sent : list_any is_send s.orders ≡ true → AsksForSend s
  some_sent any = let first = some_span s.within 0 0 s.orders any in record { at = 0; span = first.0; listed = first.1 }

  pub empty_doubt : list_any is_send s.orders ≡ false → AsksForSend s → ⊥
  empty_doubt none sends = let none_there : slice_get [] sends.at ≡ Some sends.span = ap (λ (xs : List SendSpan). slice_get xs sends.at) (sym (no_spans s.within 0 0 s.orders none)) ∙ sends.listed in absurd cc

  -- ---- each condition of sends

  pub ended : Decides IsEnded (is_ended (length s.orders))
  ended = record { so = λ j span listed h. ltb-true span.end (length s.orders) h; back = λ j span listed h. lt-ltb span.end (length s.orders) h }

  pub brief : Decides IsBrief (is_brief s.orders)
  brief = record {
    so = λ j span listed h. let p = is_placed s.within s.orders j span listed in let some : 0 < 400000 = omega arith in rises_inside s.orders span p.inside p.above p.moment entry_forget some h;
    back = λ j span listed h. let p = is_placed s.within s.orders j span listed in let some : 0 < 400000 = omega arith in inside_rises s.orders span p.inside p.above p.moment entry_forget some h;
  }

  pub uncrowded : Decides IsUncrowded (is_uncrowded s.capacity (spans s))
  uncrowded = record { so = λ j span listed h. leb-true _ s.capacity h; back = λ j span listed h. le-leb _ s.capacity h }

  pub unwrapped : Decides IsUnwrapped (is_unwrapped (net_of s) (spans s))
  unwrapped = record { so = λ j span listed h. leb-true _ _ h; back = λ j span listed h. le-leb _ _ h }

  pub covered : Decides IsCovered (is_covered_send (net_of s))
  covered = record { so = λ j span listed h. h; back = λ j span listed h. h }

  pub room : Decides HasRoom (has_room s.room (spans s))
  room = record { so = λ j span listed h. leb-true _ s.room h; back = λ j span listed h. le-leb _ s.room h }

  -- ---- conditions of steps

  pub fine_holds : first_step is_coarse 0 s.orders ≡ None → OfSteps IsFine s
  fine_holds none i o listed = not-true (is_fine o) (steps_pass is_coarse 0 s.orders none i o listed)

  pub fine_doubt : (n : ℕ) → first_step is_coarse 0 s.orders ≡ Some n → IsFirstStep IsFine s n
  fine_doubt n some =
      let f = step_fails is_coarse 0 s.orders n some in
      let is = f.is in
      let at : f.at ≡ n = omega (arith, is) in
      record {
        order = f.order;
        listed = subst (λ i. slice_get s.orders i ≡ Some f.order) at f.listed;
        fails = λ fine. false≢true (sym f.fails ∙ ap not fine);
        before = λ j other low listed. not-true (is_fine other) (f.before j other (omega (arith, low, at)) listed);
      }

  pub accepted_holds : IsWired s.places s.links → first_step (is_accepted (net_of s) s.orders (spans s)) 0 s.orders ≡ None → OfSteps IsAccepted s
  accepted_holds wired none i o listed =
      let below = slice_get_within s.orders i o listed in
      let here : 0 + i ≡ i = omega arith in
      accepted_so s wired i (omega (arith, below)) o (ap (λ m. is_accepted (net_of s) s.orders (spans s) m o) (sym here) ∙ steps_pass (is_accepted (net_of s) s.orders (spans s)) 0 s.orders none i o listed)

  pub accepted_doubt : IsWired s.places s.links → (n : ℕ) → first_step (is_accepted (net_of s) s.orders (spans s)) 0 s.orders ≡ Some n → IsFirstStep IsAccepted s n
  accepted_doubt wired n some =
      let f = step_fails (is_accepted (net_of s) s.orders (spans s)) 0 s.orders n some in
      let is = f.is in
      let at : f.at ≡ n = omega (arith, is) in
      let listed : slice_get s.orders n ≡ Some f.order = subst (λ i. slice_get s.orders i ≡ Some f.order) at f.listed in
      let below = slice_get_within s.orders n f.order listed in
      record {
        order = f.order;
        listed = listed;
        fails = λ ok. false≢true (sym f.fails ∙ so_accepted s wired n (omega (arith, below)) f.order ok);
        before = λ j other low there. let here : 0 + j ≡ j = omega arith in accepted_so s wired j (omega (arith, low, below)) other (ap (λ m. is_accepted (net_of s) s.orders (spans s) m other) (sym here) ∙ f.before j other (omega (arith, low, at)) there);
      }

  pub not_back_holds : first_back 0 0 s.orders ≡ None → OfSteps IsNotBack s
  not_back_holds none i o listed =
      let below = slice_get_within s.orders i o listed in
      let next : suc i ≡ i + 1 = omega arith in
      subst (λ n. moment_at s.orders i ≤ moment_at s.orders n) next (never_back 0 0 s.orders none i below)

  pub back_doubt : (n : ℕ) → first_back 0 0 s.orders ≡ Some n → IsFirstStep IsNotBack s n
  back_doubt n some =
      let g = goes_back 0 0 s.orders n some in
      let is = g.is in
      let low = g.below in
      let at : g.at ≡ n = omega (arith, is) in
      let below : n < length s.orders = omega (arith, at, low) in
      let o = some_there s.orders n below in
      let next : suc n ≡ n + 1 = omega arith in
      record {
        order = o.0;
        listed = o.1;
        fails = λ fine. g.back (subst (λ m. moment_at s.orders m ≤ moment_at s.orders (suc m)) (sym at) (subst (λ m. moment_at s.orders n ≤ moment_at s.orders m) (sym next) fine));
        before = λ j other lower listed. let more : suc j ≡ j + 1 = omega arith in subst (λ m. moment_at s.orders j ≤ moment_at s.orders m) more (g.before j (omega (arith, lower, at)));
      }
    where
      some_there : (orders : List Order) (n : ℕ) → n < length orders → (o : Order) × (slice_get orders n ≡ Some o)
      some_there [] n below = absurd (omega (arith, below))
      some_there (o ∷ later) zero below = (o, refl)
      some_there (o ∷ later) (suc n) below = some_there later n (omega (arith, below))

  -- ---- routes

  pub served_holds : ServedBelow (net_of s) s.orders (spans s) (length (spans s)) → OfSends IsServed s
  served_holds all j span listed = all j span (slice_get_within (spans s) j span listed) listed

  pub cut_doubt : (i k : ℕ) → IsCutAt (net_of s) s.orders (spans s) (record { step = i; node = k }) → IsFirstSend IsServed s i × IsCutOff s i k
  cut_doubt i k cut = (
    record { at = cut.at; span = cut.span; listed = cut.listed; index = cut.index; fails = λ all. cut.unled.unled (all k cut.unled.below cut.unled.due); before = λ j other low listed. cut.before j other low listed },
    record {
      at = cut.at;
      span = cut.span;
      listed = cut.listed;
      index = cut.index;
      node = cut.unled.below;
      due = cut.unled.due;
      unled = cut.unled.unled;
      before = λ m low due. cut.unled.before m low due;
    },
  )

  -- ---- all

  pub clear_of : IsWired s.places s.links → IsPassed (subject_of s) → IsClear s
  clear_of wired passed = record {
    fine = fine_holds passed.1.0;
    ended = sends_hold IsEnded (is_ended (length s.orders)) ended passed.1.1.0;
    network = passed.1.1.1.1.1.0;
    accepted = accepted_holds wired passed.1.1.1.1.1.1.0;
    not_back = not_back_holds passed.1.1.1.1.1.1.1.0;
    brief = sends_hold IsBrief (is_brief s.orders) brief passed.1.1.1.1.1.1.1.1.0;
    uncrowded = sends_hold IsUncrowded (is_uncrowded s.capacity (spans s)) uncrowded passed.1.1.1.1.1.1.1.1.1.0;
    unwrapped = sends_hold IsUnwrapped (is_unwrapped (net_of s) (spans s)) unwrapped passed.1.1.1.1.1.1.1.1.1.1.0;
    covered = sends_hold IsCovered (is_covered_send (net_of s)) covered passed.1.1.1.1.1.1.1.1.1.1.1.0;
    room = sends_hold HasRoom (has_room s.room (spans s)) room passed.1.1.1.1.1.1.1.1.1.1.1.1.0;
    served = served_holds passed.1.1.1.1.1.1.1.1.1.1.1.1.1.0;
  }

  pub premised_of : IsWired s.places s.links → IsPassed (subject_of s) → IsPremised s
  premised_of wired passed = record { sends = some_sent passed.0; clear = clear_of wired passed }
