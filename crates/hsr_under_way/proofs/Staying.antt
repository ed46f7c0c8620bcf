-- What a step leaves as it is: how many copies may wait on a link, and that nothing was injected.
use Rattle.std.proofs.Common.{◌≡◌, ◌⊎◌, inl, inr, ℕ, ◌||◌, Bool, true, false, List, [], ◌∷◌, ◌++◌, length, map, set, get_or, refl, sym, ap, ◌∙◌, ⊎_elim, zero, suc}
use Rattle.std.specs.List.{list_any}
use Rattle.std.proofs.lemmas.List.Folds.{list_any-append}
use Rattle.hsr_link.specs.Link.{Link, fate_of}
use Rattle.hsr_link.specs.declared.row.Fate.TheVariants.{Taken}
use Rattle.hsr_link.specs.declared.row.Row.{Row}
use Rattle.hsr_world_laws.specs.Origin.{has_injected, is_injected}
use Rattle.hsr_world_laws.specs.Spans.{Lane, Span, emptied, on_lanes, spread}
use Rattle.hsr_node.specs.declared.event.Event.TheVariants as event
use Rattle.hsr_topology.specs.Workers.{port_worker}
use Rattle.hsr_world_laws.specs.World.{World, owner_at, record_at, span_at, span_in}
use Rattle.hsr_world_laws.proofs.Keeps.{entry_of}
use Rattle.hsr_world_laws.proofs.Origin.{injected_lost, injected_mapped, injected_turned}
use Rattle.hsr_world_steps.specs.declared.step.Step.{Step}
use Rattle.hsr_under_way.proofs.Places.{cut_span, mapped_link, mend_span, no_span, put_span, set_cases, take_span}
use Rattle.hsr_under_way.proofs.Shapes.{Shape, brings, cuts, judges, mends, puts, takes, ticks}

-- ---- room

abbrev room_in : List Span → ℕ → ℕ
room_in spans l = (span_in spans l).link.capacity

set_room : (spans : List Span) (k l : ℕ) (span : Span) → span.link.capacity ≡ room_in spans k → room_in (set spans k span) l ≡ room_in spans l
set_room spans k l span same =
    ⊎_elim (λ e. ap (λ (s : Span). s.link.capacity) e) (λ e. ap (λ (s : Span). s.link.capacity) e.1 ∙ (same ∙ ap (room_in spans) (sym e.0))) (set_cases spans k l span no_span)

pub room_step : (capacity : ℕ) (w : World) (step : Step) (after : World) → Shape capacity w step after → (l : ℕ) → (span_at after l).link.capacity ≡ (span_at w l).link.capacity
room_step capacity w step after (ticks t) l = ap (λ (v : World). room_in v.spans l) t.is
room_step capacity w step after (brings b) l = ap (λ (v : World). room_in v.spans l) b.is ∙ ap (λ (k : Link). k.capacity) (mapped_link (spread (owner_at w b.node) (entry_of w 0 b.event b.outcome) (record_at w b.node)) w.spans l)
room_step capacity w step after (judges j) l =
    ap (λ (v : World). room_in v.spans l) j.is ∙ ap (λ (k : Link). k.capacity) (mapped_link (spread (owner_at w j.end.node) (entry_of w (port_worker j.end) (event.Arrive j.end.port j.copy) j.outcome) (record_at w j.end.node)) (map (on_lanes (emptied j.end)) w.spans) l ∙ mapped_link (emptied j.end) w.spans l)
room_step capacity w step after (puts p) l = ap (λ (v : World). room_in v.spans l) p.is ∙ set_room w.spans p.spot.link l (put_span p.spot.dir p.copy p.box (span_at w p.spot.link)) refl
room_step capacity w step after (takes t) l = ap (λ (v : World). room_in v.spans l) t.is ∙ set_room w.spans t.link l (take_span t.dir t.copy (span_at w t.link)) refl
room_step capacity w step after (cuts c) l = ap (λ (v : World). room_in v.spans l) c.is ∙ set_room w.spans c.link l (cut_span (span_at w c.link)) refl
room_step capacity w step after (mends m) l = ap (λ (v : World). room_in v.spans l) m.is ∙ set_room w.spans m.link l (mend_span (span_at w m.link)) refl

-- ---- what is injected

or_false : (b : Bool) → (b || (false || false)) ≡ b
or_false true = refl
or_false false = refl

set_injected : (spans : List Span) (l : ℕ) (d span : Span) → has_injected span ≡ has_injected (get_or spans l d) → is_injected (set spans l span) ≡ is_injected spans
set_injected [] l d span same = refl
set_injected (x ∷ xs) zero d span same = ap (λ b. b || is_injected xs) same
set_injected (x ∷ xs) (suc l) d span same = ap (λ b. has_injected x || b) (set_injected xs l d span same)

pub own_step : (capacity : ℕ) (w : World) (step : Step) (after : World) → Shape capacity w step after → is_injected after.spans ≡ is_injected w.spans
own_step capacity w step after (ticks t) = ap (λ (v : World). is_injected v.spans) t.is
own_step capacity w step after (brings b) = ap (λ (v : World). is_injected v.spans) b.is ∙ injected_mapped (spread (owner_at w b.node) (entry_of w 0 b.event b.outcome) (record_at w b.node)) w.spans
own_step capacity w step after (judges j) = ap (λ (v : World). is_injected v.spans) j.is ∙ (injected_mapped (spread (owner_at w j.end.node) (entry_of w (port_worker j.end) (event.Arrive j.end.port j.copy) j.outcome) (record_at w j.end.node)) (map (on_lanes (emptied j.end)) w.spans) ∙ injected_mapped (emptied j.end) w.spans)
own_step capacity w step after (puts p) =
    let rows = (span_at w p.spot.link).link.rows in
    ap (λ (v : World). is_injected v.spans) p.is
    ∙ set_injected w.spans p.spot.link no_span (put_span p.spot.dir p.copy p.box (span_at w p.spot.link)) (list_any-append (λ (row : Row). row.injected) rows (record { dir = p.spot.dir; carried = p.copy; injected = false; fate = fate_of (span_at w p.spot.link).link p.spot.dir } ∷ []) ∙ or_false (list_any (λ (row : Row). row.injected) rows))
own_step capacity w step after (takes t) =
    ap (λ (v : World). is_injected v.spans) t.is ∙ set_injected w.spans t.link no_span (take_span t.dir t.copy (span_at w t.link)) (injected_turned Taken t.dir (span_at w t.link).link.rows)
own_step capacity w step after (cuts c) =
    ap (λ (v : World). is_injected v.spans) c.is ∙ set_injected w.spans c.link no_span (cut_span (span_at w c.link)) (injected_lost (span_at w c.link).link.rows)
own_step capacity w step after (mends m) = ap (λ (v : World). is_injected v.spans) m.is ∙ set_injected w.spans m.link no_span (mend_span (span_at w m.link)) refl
