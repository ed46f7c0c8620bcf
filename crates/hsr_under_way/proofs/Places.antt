-- The links of a world behind a step, and what stands at a place of them.
use Rattle.std.proofs.Common.{◌≡◌, ◌⊎◌, inl, inr, ℕ, ◌<◌, List, [], ◌∷◌, length, map, set, get_or, Option, Some, refl, ap, arith, ⊎_elim, zero, suc}
use Rattle.hsr_link.specs.Link.{Link, cut_step, mended, new_link, put_step, take_step}
use Rattle.hsr_link.specs.declared.row.Dir.{Dir}
use Rattle.hsr_node.specs.declared.event.Carried.{Carried}
use Rattle.hsr_world_laws.specs.Spans.{Lane, Span, lane_of, on_lanes, with_lane, with_link}
use Rattle.hsr_world_laws.specs.World.{no_lane, span_in}

-- ---- one link

abbrev pub no_span : Span
no_span = record { link = new_link 0; forth = no_lane; back = no_lane }

-- the oldest of an outbox was put
abbrev pub put_span : Dir → Carried → List Carried → Span → Span
put_span dir copy box span = with_link (put_step span.link dir copy).1 (with_lane dir (record (lane_of dir span) { outbox = box }) span)

-- the oldest that waits was taken
abbrev pub take_span : Dir → Carried → Span → Span
take_span dir copy span = with_link (take_step span.link dir).1 (with_lane dir (record (lane_of dir span) { hand = Some copy }) span)

abbrev pub cut_span : Span → Span
cut_span span = with_link (cut_step span.link).1 span

abbrev pub mend_span : Span → Span
mend_span span = with_link (mended span.link) span

-- ---- at a place

-- what stands at a place behind a change at another, or at this one
pub set_cases : {X : Type 0} (xs : List X) (k l : ℕ) (x d : X) → (get_or (set xs k x) l d ≡ get_or xs l d) ⊎ ((l ≡ k) × (get_or (set xs k x) l d ≡ x))
set_cases [] k l x d = inl refl
set_cases (y ∷ ys) zero zero x d = inr (refl, refl)
set_cases (y ∷ ys) zero (suc l) x d = inl refl
set_cases (y ∷ ys) (suc k) zero x d = inl refl
set_cases (y ∷ ys) (suc k) (suc l) x d = ⊎_elim (λ e. inl e) (λ e. inr (ap suc e.0, e.1)) (set_cases ys k l x d)

-- lanes change no link
pub mapped_link : (f : Lane → Lane) (spans : List Span) (l : ℕ) → (span_in (map (on_lanes f) spans) l).link ≡ (span_in spans l).link
mapped_link f [] l = refl
mapped_link f (x ∷ xs) zero = refl
mapped_link f (x ∷ xs) (suc l) = mapped_link f xs l
