-- One send has one span, and one span is of one send.
use Rattle.std.proofs.Common.{◌≡◌, ◌⊎◌, ℕ, ◌+◌, ◌<◌, ◌≤◌, ◌==◌, ◌&&◌, Bool, true, false, List, [], ◌∷◌, length, take, drop, count_by, Option, Some, None, refl, sym, ap, ◌∙◌, subst, arith, ⊎_elim, zero, suc, eq-eqb, eqb-true}
use Rattle.std.specs.Prelude.{slice_get}
use Rattle.std.specs.List.{AllByRecursion, list_any}
use Rattle.std.proofs.lemmas.Bool.{and_from, and_parts, cases_order, false≢true, or_left, or_right}
use Rattle.hsr_frame.specs.Address.{supervision_address}
use Rattle.hsr_frame.specs.Layout.{ethertype_supervision}
use Rattle.hsr_node.specs.declared.event.Probe.{Probe}
use Rattle.hsr_run_laws.specs.Run.{is_of}
use Rattle.hsr_run_laws.proofs.Lists.{any_with, count_more, count_positive, one_if}
use Rattle.hsr_run_laws.proofs.Pigeon.{Apart}
use Rattle.hsr_run_laws.proofs.Same.{is_of_itself, probes_same}
use Rattle.hsr_scenario.specs.declared.steps.Order.{Order}
use Rattle.hsr_scenario.specs.declared.steps.Order.TheVariants as order
use Rattle.hsr_world_laws.specs.World.{World, record_at}
use Rattle.hsr_world_steps.specs.declared.step.Step.TheVariants.{Clock, Send, Supervise, Age, Put, Take, Judge, Cut, Mend, Inject}
use Rattle.hsr_plays.specs.Law.{IsSpanOf, is_planned_for, mains_below}
use Rattle.hsr_plays.specs.Setup.{Setup, asked_by}
use Rattle.hsr_plays.specs.Spans.{end_from, moment_behind, spans}
use Rattle.hsr_plays.specs.declared.span.Asked.{Asked}
use Rattle.hsr_plays.specs.declared.span.SendSpan.{SendSpan}
use Rattle.hsr_plays.proofs.Asking.{IsAskedAt, asked_at}
use Rattle.hsr_play_laws.specs.Told.{is_main_at}
use Rattle.hsr_play_laws.proofs.Mains.{count_later, main_below, mains_more}

-- ---- one send

-- a step that asks for a send is its node's
pub asked_planned : (o : Order) (asked : Asked) → asked_by o ≡ Some asked → is_planned_for asked.node o ≡ true
asked_planned (order.Step (Clock at)) asked is = absurd cc
asked_planned (order.Step (Send node from dst vlan ethertype payload)) asked is =
    let made : Asked = record { node = node; from = from; dst = dst; kind = ethertype } in
    let same : made ≡ asked = let e : Some made ≡ Some asked = is in cc in
    eq-eqb node asked.node (ap (λ (a : Asked). a.node) same)
asked_planned (order.Step (Supervise node about)) asked is =
    let made : Asked = record { node = node; from = 0; dst = supervision_address; kind = ethertype_supervision } in
    let same : made ≡ asked = let e : Some made ≡ Some asked = is in cc in
    eq-eqb node asked.node (ap (λ (a : Asked). a.node) same)
asked_planned (order.Step (Age node)) asked is = absurd cc
asked_planned (order.Step (Put node port)) asked is = absurd cc
asked_planned (order.Step (Take link dir)) asked is = absurd cc
asked_planned (order.Step (Judge node port)) asked is = absurd cc
asked_planned (order.Step (Cut link)) asked is = absurd cc
asked_planned (order.Step (Mend link)) asked is = absurd cc
asked_planned (order.Step (Inject link dir octets)) asked is = absurd cc
asked_planned order.Drain asked is = absurd cc

-- spans of one step are one
same_step : (s : Setup) (a b : SendSpan) (p : IsAskedAt s.within 0 0 s.orders a) (q : IsAskedAt s.within 0 0 s.orders b) → p.at ≡ q.at → a ≡ b
same_step s a b p q same =
    let got : Some p.order ≡ Some q.order = sym p.listed ∙ (ap (slice_get s.orders) same ∙ q.listed) in
    let one : p.order ≡ q.order = cc in
    let both : Some a.asked ≡ Some b.asked = sym p.asked ∙ (ap asked_by one ∙ q.asked) in
    let asked : a.asked ≡ b.asked = cc in
    let i = p.index_is in
    let j = q.index_is in
    let index : a.index ≡ b.index = omega (arith, i, j, same) in
    let moment : a.moment ≡ b.moment =
    p.moment_is ∙ (ap (λ n. moment_behind 0 (take n s.orders)) same ∙ sym q.moment_is) in
    let end : a.end ≡ b.end =
    p.end_is ∙ (ap (λ m. end_from s.within m (a.index + 1) (drop (suc p.at) s.orders)) moment
    ∙ (ap (λ m. end_from s.within b.moment (m + 1) (drop (suc p.at) s.orders)) index
    ∙ (ap (λ m. end_from s.within b.moment (b.index + 1) (drop (suc m) s.orders)) same ∙ sym q.end_is))) in
    λ i. record { asked = asked i; index = index i; moment = moment i; end = end i }

pub one_span : (s : Setup) (w : World) (send : Probe) (a b : SendSpan) → IsSpanOf s w send a → IsSpanOf s w send b → a ≡ b
one_span s w send a b is_a is_b =
    ⊎_elim (λ same. same_step s a b p q same)
    (λ order. ⊎_elim
    (λ before.
    let more = count_later (is_planned_for send.node) p.at q.at s.orders p.order before p.listed (mine a is_a p) in
    absurd (omega (arith, steps, i, j, more)))
    (λ behind.
    let more = count_later (is_planned_for send.node) q.at p.at s.orders q.order behind q.listed (mine b is_b q) in
    absurd (omega (arith, steps, i, j, more)))
    order)
    (cases_order p.at q.at)
  where
    p : IsAskedAt s.within 0 0 s.orders a
    p = asked_at s.within 0 0 s.orders is_a.at a is_a.listed

    q : IsAskedAt s.within 0 0 s.orders b
    q = asked_at s.within 0 0 s.orders is_b.at b is_b.listed

    at_index : (x : SendSpan) (r : IsAskedAt s.within 0 0 s.orders x) → x.index ≡ r.at
    at_index x r = let is = r.index_is in omega (arith, is)

    i : count_by (is_planned_for send.node) (take a.index s.orders) ≡ count_by (is_planned_for send.node) (take p.at s.orders)
    i = ap (λ n. count_by (is_planned_for send.node) (take n s.orders)) (at_index a p)

    j : count_by (is_planned_for send.node) (take b.index s.orders) ≡ count_by (is_planned_for send.node) (take q.at s.orders)
    j = ap (λ n. count_by (is_planned_for send.node) (take n s.orders)) (at_index b q)

    steps : count_by (is_planned_for send.node) (take a.index s.orders) ≡ count_by (is_planned_for send.node) (take b.index s.orders)
    steps = sym is_a.step ∙ is_b.step

    mine : (x : SendSpan) (is : IsSpanOf s w send x) (r : IsAskedAt s.within 0 0 s.orders x) → is_planned_for send.node r.order ≡ true
    mine x is r = ap (λ k. is_planned_for k r.order) is.node ∙ asked_planned r.order x.asked r.asked

-- ---- one span

module _ (s : Setup) (w : World) where
  -- the span of a send, as a test
  abbrev pub is_span_of : Option Probe → SendSpan → Bool
  is_span_of None span = false
  is_span_of (Some send) span =
      (send.node == span.asked.node) && (mains_below send.place (record_at w send.node) == count_by (is_planned_for send.node) (take span.index s.orders))

  abbrev pub IsMain : Probe → Type 0
  IsMain send = is_main_at send.place (record_at w send.node) ≡ true

  pub tested : (send : Probe) (span : SendSpan) → IsSpanOf s w send span → is_span_of (Some send) span ≡ true
  tested send span is =
      and_from (send.node == span.asked.node) (mains_below send.place (record_at w send.node) == count_by (is_planned_for send.node) (take span.index s.orders))
      (eq-eqb send.node span.asked.node is.node) (eq-eqb _ _ is.step)

  pub one_send : (a b : Probe) (span : SendSpan) → IsMain a → IsMain b → is_span_of (Some a) span ≡ true → is_span_of (Some b) span ≡ true → a ≡ b
  one_send a b span main_a main_b is_a is_b =
      ⊎_elim (λ place. probes_same a b node place)
      (λ order. ⊎_elim
      (λ before.
      let more = mains_more a.place b.place (record_at w a.node) main_a before (omega (arith, low)) in
      absurd (omega (arith, both, more)))
      (λ behind.
      let high = main_below a.place (record_at w a.node) main_a in
      let more = mains_more b.place a.place (record_at w a.node) there behind (omega (arith, high)) in
      absurd (omega (arith, both, more)))
      order)
      (cases_order a.place b.place)
    where
      p : ((a.node == span.asked.node) ≡ true) × ((mains_below a.place (record_at w a.node) == count_by (is_planned_for a.node) (take span.index s.orders)) ≡ true)
      p = and_parts (a.node == span.asked.node) (mains_below a.place (record_at w a.node) == count_by (is_planned_for a.node) (take span.index s.orders)) is_a

      q : ((b.node == span.asked.node) ≡ true) × ((mains_below b.place (record_at w b.node) == count_by (is_planned_for b.node) (take span.index s.orders)) ≡ true)
      q = and_parts (b.node == span.asked.node) (mains_below b.place (record_at w b.node) == count_by (is_planned_for b.node) (take span.index s.orders)) is_b

      node : a.node ≡ b.node
      node = eqb-true a.node span.asked.node p.0 ∙ sym (eqb-true b.node span.asked.node q.0)

      there : is_main_at b.place (record_at w a.node) ≡ true
      there = ap (λ k. is_main_at b.place (record_at w k)) node ∙ main_b

      low : b.place < length (record_at w a.node)
      low = main_below b.place (record_at w a.node) there

      both : mains_below a.place (record_at w a.node) ≡ mains_below b.place (record_at w a.node)
      both =
          eqb-true _ _ p.1 ∙ (ap (λ k. count_by (is_planned_for k) (take span.index s.orders)) node
          ∙ (sym (eqb-true _ _ q.1) ∙ ap (λ k. mains_below b.place (record_at w k)) (sym node)))

  -- ---- what is of different sends has different spans

  pub record IsNamed (send : Option Probe) : Type 0 where
    pub of_send : Probe
    pub named : send ≡ Some of_send
    pub main : IsMain of_send

  pub all_apart : {X : Type 0} (probe : X → Option Probe) (xs : List X) → AllByRecursion (λ x. IsNamed (probe x)) xs → ((send : Probe) → count_by (λ x. is_of send (probe x)) xs ≤ 1) →
      Apart (λ x span. is_span_of (probe x) span) xs
  all_apart probe [] named once = tt
  all_apart probe (x ∷ xs) named once =
      let here = named.0 in (
        others xs named.1 (none here.of_send (mine here)),
        all_apart probe xs named.1 (λ send. let more = count_more (λ y. is_of send (probe y)) x xs in let most = once send in omega (arith, more, most)),
      )
    where
      mine : (here : IsNamed (probe x)) → is_of here.of_send (probe x) ≡ true
      mine here = ap (is_of here.of_send) here.named ∙ is_of_itself here.of_send

      none : (send : Probe) → is_of send (probe x) ≡ true → list_any (λ y. is_of send (probe y)) xs ≡ true → ⊥
      none send is some =
          let more = count_more (λ y. is_of send (probe y)) x xs in
          let one = one_if (is_of send (probe x)) is in
          let rest = count_positive (λ y. is_of send (probe y)) xs some in
          let most = once send in
          omega (arith, more, one, rest, most)

      same_send : (z : _) (here : IsNamed (probe x)) (there : IsNamed (probe z)) (y : SendSpan) → is_span_of (probe z) y ≡ true → is_span_of (probe x) y ≡ true → is_of here.of_send (probe z) ≡ true
      same_send z here there y of_z of_x =
          let a : is_span_of (Some there.of_send) y ≡ true = ap (λ o. is_span_of o y) (sym there.named) ∙ of_z in
          let b : is_span_of (Some here.of_send) y ≡ true = ap (λ o. is_span_of o y) (sym here.named) ∙ of_x in
          let same = one_send here.of_send there.of_send y here.main there.main b a in
          ap (λ o. is_of here.of_send o) (there.named ∙ ap (λ q. Some q) (sym same)) ∙ is_of_itself here.of_send

      others : (zs : List _) → AllByRecursion (λ z. IsNamed (probe z)) zs → (list_any (λ z. is_of named.0.of_send (probe z)) zs ≡ true → ⊥) →
          AllByRecursion (λ z. (y : SendSpan) → is_span_of (probe z) y ≡ true → is_span_of (probe x) y ≡ true → ⊥) zs
      others [] all never = tt
      others (z ∷ zs) all never = (
        λ y of_z of_x. never (or_left (is_of named.0.of_send (probe z)) _ (same_send z named.0 all.0 y of_z of_x)),
        others zs all.1 (λ later. never (or_right (is_of named.0.of_send (probe z)) _ later)),
      )

-- a span that is listed, as a test
pub listed_any : (p : SendSpan → Bool) (xs : List SendSpan) (i : ℕ) (span : SendSpan) → slice_get xs i ≡ Some span → p span ≡ true → list_any p xs ≡ true
listed_any p [] i span got is = absurd cc
listed_any p (x ∷ xs) zero span got is = let same : x ≡ span = let e : Some x ≡ Some span = got in cc in or_left (p x) (list_any p xs) (ap p same ∙ is)
listed_any p (x ∷ xs) (suc i) span got is = or_right (p x) (list_any p xs) (listed_any p xs i span got is)
