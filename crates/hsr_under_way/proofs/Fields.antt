-- What a step that is done does to the moment, to records and to cuts.
use Rattle.std.proofs.Common.{◌≡◌, ◌⊎◌, inl, inr, ℕ, ◌<◌, ◌==◌, ◌||◌, Bool, true, false, if◌then◌else◌, List, [], ◌∷◌, length, set, get_or, refl, sym, ap, ◌∙◌, subst, arith, ⊎_elim, eq-eqb, eqb-true, ne_eqb}
use Rattle.std.proofs.lemmas.Bool.{cases_eq, false≢true}
use Rattle.std.proofs.lemmas.List.{get_or-set_same, get_or-set_other}
use Rattle.hsr_link.specs.declared.row.Dir.{Dir}
use Rattle.hsr_link.specs.declared.row.Dir.TheVariants.{Forth, Back}
use Rattle.hsr_node.specs.declared.entry.Entry.{Entry}
use Rattle.hsr_node.specs.declared.event.Event.{Event}
use Rattle.hsr_node.specs.declared.event.Event.TheVariants as event
use Rattle.hsr_topology.specs.declared.end.End.{End}
use Rattle.hsr_scenario.specs.declared.steps.Order.TheVariants as order
use Rattle.hsr_world_laws.specs.Law.{IsSound}
use Rattle.hsr_world_laws.specs.Spans.{Span, on_lanes, with_link}
use Rattle.hsr_world_laws.specs.World.{World, record_at, span_at}
use Rattle.hsr_world_steps.specs.declared.step.Step.{Step}
use Rattle.hsr_world_steps.specs.declared.step.Step.TheVariants.{Clock, Send, Supervise, Age, Put, Take, Judge, Cut, Mend, Inject}
use Rattle.hsr_plays.specs.Law.{is_planned_for}
use Rattle.hsr_plays.specs.Spans.{moment_after}
use Rattle.hsr_under_way.specs.StepsOn.{HasEntered, IsEventOf}
use Rattle.hsr_under_way.proofs.Shapes.{Asks, Brings, Shape, brings, cuts, judges, mends, puts, takes, ticks}

-- ---- the moment

-- what is asked of a node turns no clock
asks_keeps : (step : Step) (k : ℕ) (e : Event) → Asks step k e → (m : ℕ) → moment_after m (order.Step step) ≡ m
asks_keeps (Clock at) k e asks m = absurd asks
asks_keeps (Send n from dst vlan ethertype payload) k e asks m = refl
asks_keeps (Supervise n about) k e asks m = refl
asks_keeps (Age n) k e asks m = refl
asks_keeps (Put n port) k e asks m = absurd asks
asks_keeps (Take l dir) k e asks m = absurd asks
asks_keeps (Judge n port) k e asks m = absurd asks
asks_keeps (Cut l) k e asks m = absurd asks
asks_keeps (Mend l) k e asks m = absurd asks
asks_keeps (Inject l dir octets) k e asks m = absurd asks

pub moment_step : (capacity : ℕ) (w : World) (step : Step) (after : World) → Shape capacity w step after → after.moment ≡ moment_after w.moment (order.Step step)
moment_step capacity w step after (ticks t) = ap (λ (v : World). v.moment) t.is ∙ ap (λ q. moment_after w.moment (order.Step q)) (sym t.step_is)
moment_step capacity w step after (brings b) = ap (λ (v : World). v.moment) b.is ∙ sym (asks_keeps step b.node b.event b.asks w.moment)
moment_step capacity w step after (judges j) = ap (λ (v : World). v.moment) j.is ∙ ap (λ q. moment_after w.moment (order.Step q)) (sym j.step_is)
moment_step capacity w step after (puts p) = ap (λ (v : World). v.moment) p.is ∙ ap (λ q. moment_after w.moment (order.Step q)) (sym p.step_is)
moment_step capacity w step after (takes t) = ap (λ (v : World). v.moment) t.is ∙ ap (λ q. moment_after w.moment (order.Step q)) (sym t.step_is)
moment_step capacity w step after (cuts c) = ap (λ (v : World). v.moment) c.is ∙ ap (λ q. moment_after w.moment (order.Step q)) (sym c.step_is)
moment_step capacity w step after (mends m) = ap (λ (v : World). v.moment) m.is ∙ ap (λ q. moment_after w.moment (order.Step q)) (sym m.step_is)

-- ---- records

asks_event : (w : World) (step : Step) (k : ℕ) (x : Entry) → Asks step k x.event → x.worker ≡ 0 → IsEventOf w step k x
asks_event w (Clock at) k x asks main = absurd asks
asks_event w (Send n from dst vlan ethertype payload) k x asks main = (asks.0, (main, asks.1))
asks_event w (Supervise n about) k x asks main = (asks.0, (main, asks.1))
asks_event w (Age n) k x asks main = (asks.0, (main, asks.1))
asks_event w (Put n port) k x asks main = absurd asks
asks_event w (Take l dir) k x asks main = absurd asks
asks_event w (Judge n port) k x asks main = absurd asks
asks_event w (Cut l) k x asks main = absurd asks
asks_event w (Mend l) k x asks main = absurd asks
asks_event w (Inject l dir octets) k x asks main = absurd asks

-- one record has one entry more
one_more : (w : World) (step : Step) (after : World) (n : ℕ) (x : Entry) → n < length w.records → after.records ≡ set w.records n (x ∷ record_at w n) → x.at ≡ w.moment → IsEventOf w step n x →
    (k : ℕ) → (record_at after k ≡ record_at w k) ⊎ HasEntered w step after k
one_more w step after n x below are at by k =
    ⊎_elim
    (λ same.
    let here : record_at after n ≡ x ∷ record_at w n = ap (λ rs. get_or rs n []) are ∙ get_or-set_same w.records n (x ∷ record_at w n) [] below in
    let entered : HasEntered w step after n = record { entry = x; is = here; at = at; by = by } in
    inr (subst (λ m. HasEntered w step after m) (sym same) entered))
    (λ other. inl (ap (λ rs. get_or rs k []) are ∙ get_or-set_other w.records n k (x ∷ record_at w n) [] other))
    (cases_eq k n)

pub records_step : (capacity : ℕ) (w : World) (step : Step) (after : World) → IsSound capacity w → Shape capacity w step after → (k : ℕ) → (record_at after k ≡ record_at w k) ⊎ HasEntered w step after k
records_step capacity w step after sound (ticks t) k = inl (ap (λ (v : World). record_at v k) t.is)
records_step capacity w step after sound (brings b) k =
    let counted = sound.counted in
    let low = b.below in
    let x : Entry = record { worker = 0; at = w.moment; event = b.event; outcome = b.outcome } in
    one_more w step after b.node x (omega (arith, counted, low)) (ap (λ (v : World). v.records) b.is) refl (asks_event w step b.node x b.asks refl) k
records_step capacity w step after sound (judges j) k =
    let counted = sound.counted in
    let low = j.below in
    let x : Entry = record { worker = Rattle.hsr_topology.specs.Workers.port_worker j.end; at = w.moment; event = event.Arrive j.end.port j.copy; outcome = j.outcome } in
    let by : IsEventOf w (Judge j.end.node j.end.port) j.end.node x = (refl, (refl, (j.copy, refl, j.held))) in
    one_more w step after j.end.node x (omega (arith, counted, low)) (ap (λ (v : World). v.records) j.is) refl (subst (λ q. IsEventOf w q j.end.node x) (sym j.step_is) by) k
records_step capacity w step after sound (puts p) k = inl (ap (λ (v : World). record_at v k) p.is)
records_step capacity w step after sound (takes t) k = inl (ap (λ (v : World). record_at v k) t.is)
records_step capacity w step after sound (cuts c) k = inl (ap (λ (v : World). record_at v k) c.is)
records_step capacity w step after sound (mends m) k = inl (ap (λ (v : World). record_at v k) m.is)

-- ---- what is asked of a node

asks_planned : (step : Step) (k n : ℕ) (e : Event) → Asks step k e → is_planned_for n (order.Step step) ≡ true → n ≡ k
asks_planned (Clock at) k n e asks h = absurd asks
asks_planned (Send m from dst vlan ethertype payload) k n e asks h = sym (asks.0 ∙ eqb-true m n h)
asks_planned (Supervise m about) k n e asks h = sym (asks.0 ∙ eqb-true m n h)
asks_planned (Age m) k n e asks h = sym (asks.0 ∙ eqb-true m n h)
asks_planned (Put m port) k n e asks h = absurd asks
asks_planned (Take l dir) k n e asks h = absurd asks
asks_planned (Judge m port) k n e asks h = absurd asks
asks_planned (Cut l) k n e asks h = absurd asks
asks_planned (Mend l) k n e asks h = absurd asks
asks_planned (Inject l dir octets) k n e asks h = absurd asks

none_planned : (step other : Step) (n : ℕ) → step ≡ other → is_planned_for n (order.Step other) ≡ false → is_planned_for n (order.Step step) ≡ true → ⊥
none_planned step other n same none h = false≢true (sym none ∙ (ap (λ q. is_planned_for n (order.Step q)) (sym same) ∙ h))

pub asked_step : (capacity : ℕ) (w : World) (step : Step) (after : World) → IsSound capacity w → Shape capacity w step after → (k : ℕ) → is_planned_for k (order.Step step) ≡ true → HasEntered w step after k
asked_step capacity w step after sound (ticks t) k h = absurd (none_planned step (Clock t.at) k t.step_is refl h)
asked_step capacity w step after sound (brings b) k h =
    let counted = sound.counted in
    let low = b.below in
    let x : Entry = record { worker = 0; at = w.moment; event = b.event; outcome = b.outcome } in
    let by = asks_event w step b.node x b.asks refl in
    let here : record_at after b.node ≡ x ∷ record_at w b.node =
    ap (λ (v : World). get_or v.records b.node []) b.is ∙ get_or-set_same w.records b.node (x ∷ record_at w b.node) [] (omega (arith, counted, low)) in
    let entered : HasEntered w step after b.node = record { entry = x; is = here; at = refl; by = by } in
    subst (λ m. HasEntered w step after m) (sym (asks_planned step b.node k b.event b.asks h)) entered
asked_step capacity w step after sound (judges j) k h = absurd (none_planned step (Judge j.end.node j.end.port) k j.step_is refl h)
asked_step capacity w step after sound (puts p) k h = absurd (none_planned step (Put p.end.node p.end.port) k p.step_is refl h)
asked_step capacity w step after sound (takes t) k h = absurd (none_planned step (Take t.link t.dir) k t.step_is refl h)
asked_step capacity w step after sound (cuts c) k h = absurd (none_planned step (Cut c.link) k c.step_is refl h)
asked_step capacity w step after sound (mends m) k h = absurd (none_planned step (Mend m.link) k m.step_is refl h)
