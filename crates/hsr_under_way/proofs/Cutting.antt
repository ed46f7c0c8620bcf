-- Which links are cut behind a step.
use Rattle.std.proofs.Common.{◌≡◌, ℕ, ◌<◌, ◌==◌, ◌||◌, Bool, true, false, if◌then◌else◌, List, length, map, set, get_or, refl, sym, ap, ◌∙◌, subst, ⊎_elim, eq-eqb, ne_eqb}
use Rattle.std.proofs.lemmas.Bool.{cases_eq}
use Rattle.std.proofs.lemmas.List.{get_or-set_other, get_or-set_same}
use Rattle.hsr_link.specs.Link.{Link}
use Rattle.hsr_node.specs.declared.event.Event.{Event}
use Rattle.hsr_node.specs.declared.event.Event.TheVariants as event
use Rattle.hsr_topology.specs.Workers.{port_worker}
use Rattle.hsr_scenario.specs.declared.steps.Order.TheVariants as order
use Rattle.hsr_world_laws.specs.Spans.{Lane, Span, emptied, on_lanes, spread}
use Rattle.hsr_world_laws.specs.World.{World, owner_at, record_at, span_at, span_in}
use Rattle.hsr_world_laws.proofs.Keeps.{entry_of}
use Rattle.hsr_world_steps.specs.declared.step.Step.{Step}
use Rattle.hsr_world_steps.specs.declared.step.Step.TheVariants.{Clock, Send, Supervise, Age, Put, Take, Judge, Cut, Mend, Inject}
use Rattle.hsr_plays.specs.Spans.{cut_after}
use Rattle.hsr_under_way.proofs.Places.{cut_span, mapped_link, mend_span, no_span, put_span, set_cases, take_span}
use Rattle.hsr_under_way.proofs.Shapes.{Asks, Shape, brings, cuts, judges, mends, puts, takes, ticks}

abbrev is_cut_in : List Span → ℕ → Bool
is_cut_in spans l = (span_in spans l).link.is_cut

-- one link is changed
set_cut : (spans : List Span) (k l : ℕ) (span : Span) → span.link.is_cut ≡ is_cut_in spans k → is_cut_in (set spans k span) l ≡ is_cut_in spans l
set_cut spans k l span same =
    ⊎_elim (λ e. ap (λ (s : Span). s.link.is_cut) e) (λ e. ap (λ (s : Span). s.link.is_cut) e.1 ∙ (same ∙ ap (is_cut_in spans) (sym e.0))) (set_cases spans k l span no_span)

-- what is asked of a node cuts nothing
asks_cut : (step : Step) (k : ℕ) (e : Event) → Asks step k e → (l : ℕ) (was : Bool) → cut_after l was (order.Step step) ≡ was
asks_cut (Clock at) k e asks l was = absurd asks
asks_cut (Send n from dst vlan ethertype payload) k e asks l was = refl
asks_cut (Supervise n about) k e asks l was = refl
asks_cut (Age n) k e asks l was = refl
asks_cut (Put n port) k e asks l was = absurd asks
asks_cut (Take m dir) k e asks l was = absurd asks
asks_cut (Judge n port) k e asks l was = absurd asks
asks_cut (Cut m) k e asks l was = absurd asks
asks_cut (Mend m) k e asks l was = absurd asks
asks_cut (Inject m dir octets) k e asks l was = absurd asks

pub cut_step : (capacity : ℕ) (w : World) (step : Step) (after : World) → Shape capacity w step after → (l : ℕ) → l < length w.spans →
    (span_at after l).link.is_cut ≡ cut_after l (span_at w l).link.is_cut (order.Step step)
cut_step capacity w step after (ticks t) l below =
    ap (λ (v : World). is_cut_in v.spans l) t.is ∙ ap (λ q. cut_after l (is_cut_in w.spans l) (order.Step q)) (sym t.step_is)
cut_step capacity w step after (brings b) l below =
    ap (λ (v : World). is_cut_in v.spans l) b.is ∙ (ap (λ (k : Link). k.is_cut) (mapped_link (spread (owner_at w b.node) (entry_of w 0 b.event b.outcome) (record_at w b.node)) w.spans l) ∙ sym (asks_cut step b.node b.event b.asks l (is_cut_in w.spans l)))
cut_step capacity w step after (judges j) l below =
    ap (λ (v : World). is_cut_in v.spans l) j.is
    ∙ (ap (λ (k : Link). k.is_cut) (mapped_link (spread (owner_at w j.end.node) (entry_of w (port_worker j.end) (event.Arrive j.end.port j.copy) j.outcome) (record_at w j.end.node)) (map (on_lanes (emptied j.end)) w.spans) l ∙ mapped_link (emptied j.end) w.spans l)
    ∙ ap (λ q. cut_after l (is_cut_in w.spans l) (order.Step q)) (sym j.step_is))
cut_step capacity w step after (puts p) l below =
    ap (λ (v : World). is_cut_in v.spans l) p.is
    ∙ (set_cut w.spans p.spot.link l (put_span p.spot.dir p.copy p.box (span_at w p.spot.link)) refl ∙ ap (λ q. cut_after l (is_cut_in w.spans l) (order.Step q)) (sym p.step_is))
cut_step capacity w step after (takes t) l below =
    ap (λ (v : World). is_cut_in v.spans l) t.is
    ∙ (set_cut w.spans t.link l (take_span t.dir t.copy (span_at w t.link)) refl ∙ ap (λ q. cut_after l (is_cut_in w.spans l) (order.Step q)) (sym t.step_is))
cut_step capacity w step after (cuts c) l below =
    ap (λ (v : World). is_cut_in v.spans l) c.is ∙ (here ∙ ap (λ q. cut_after l (is_cut_in w.spans l) (order.Step q)) (sym c.step_is))
  where
    made : Span
    made = cut_span (span_at w c.link)

    here : is_cut_in (set w.spans c.link made) l ≡ ((c.link == l) || is_cut_in w.spans l)
    here =
        ⊎_elim
        (λ e. ap (is_cut_in (set w.spans c.link made)) e ∙ (ap (λ (s : Span). s.link.is_cut) (get_or-set_same w.spans c.link made no_span c.below)
        ∙ ap (λ b. b || is_cut_in w.spans l) (sym (eq-eqb c.link l (sym e)))))
        (λ other. ap (λ (s : Span). s.link.is_cut) (get_or-set_other w.spans c.link l made no_span other) ∙ ap (λ b. b || is_cut_in w.spans l) (sym (ne_eqb c.link l (λ e. other (sym e)))))
        (cases_eq l c.link)
cut_step capacity w step after (mends m) l below =
    ap (λ (v : World). is_cut_in v.spans l) m.is ∙ (here ∙ ap (λ q. cut_after l (is_cut_in w.spans l) (order.Step q)) (sym m.step_is))
  where
    made : Span
    made = mend_span (span_at w m.link)

    here : is_cut_in (set w.spans m.link made) l ≡ (if m.link == l then false else is_cut_in w.spans l)
    here =
        ⊎_elim
        (λ e. ap (is_cut_in (set w.spans m.link made)) e ∙ (ap (λ (s : Span). s.link.is_cut) (get_or-set_same w.spans m.link made no_span m.below)
        ∙ ap (λ b. if b then false else is_cut_in w.spans l) (sym (eq-eqb m.link l (sym e)))))
        (λ other. ap (λ (s : Span). s.link.is_cut) (get_or-set_other w.spans m.link l made no_span other) ∙ ap (λ b. if b then false else is_cut_in w.spans l) (sym (ne_eqb m.link l (λ e. other (sym e)))))
        (cases_eq l m.link)
