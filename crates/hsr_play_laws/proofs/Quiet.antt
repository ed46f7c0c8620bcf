-- In a quiet world nothing is under way.
use Rattle.std.proofs.Common.{◌≡◌, ℕ, ◌||◌, not, Bool, true, false, if◌then◌else◌, List, [], ◌∷◌, ◌++◌, filter_map, Option, Some, None, refl, sym, ap, ◌∙◌, subst, ⊎_elim}
use Rattle.std.specs.Prelude.{is_some, option_to_list}
use Rattle.std.specs.List.{cons_option, list_any}
use Rattle.std.proofs.lemmas.Bool.{false≢true, or_parts}
use Rattle.hsr_node.specs.declared.event.Carried.{Carried}
use Rattle.hsr_link.specs.Rows.{is_queued}
use Rattle.hsr_link.specs.declared.row.Row.{Row}
use Rattle.hsr_world_laws.specs.Closing.{is_busy, is_busy_lane}
use Rattle.hsr_world_laws.specs.Spans.{Lane, Span}
use Rattle.hsr_world_laws.specs.World.{is_empty}
use Rattle.hsr_plays.specs.Plays.{in_lane, in_span, in_spans, queued_copy}
use Rattle.hsr_under_way.proofs.Kept.{At, at, coming, either_any, going, on_link}

module _ (p : Carried → Bool) where
  none_waits : (rows : List Row) → list_any (λ (row : Row). is_queued row.fate) rows ≡ false → list_any p (filter_map queued_copy rows) ≡ true → ⊥
  none_waits [] idle h = false≢true h
  none_waits (row ∷ rows) idle h =
      let parts = or_parts (is_queued row.fate) (list_any (λ (r : Row). is_queued r.fate) rows) idle in
      none_waits rows parts.1 (subst (λ b. list_any p (cons_option (if b then Some row.carried else None) (filter_map queued_copy rows)) ≡ true) parts.0 h)

  none_in_lane : (lane : Lane) → is_busy_lane lane ≡ false → list_any p (in_lane lane) ≡ true → ⊥
  none_in_lane lane idle h =
      let parts = or_parts (not (is_empty lane.outbox)) (is_some lane.hand) idle in
      ⊎_elim (λ a. by_box lane.outbox parts.0 a) (λ b. by_hand lane.hand parts.1 b) (either_any p lane.outbox (option_to_list lane.hand) h)
    where
      by_box : (box : List Carried) → not (is_empty box) ≡ false → list_any p box ≡ true → ⊥
      by_box [] idle h = false≢true h
      by_box (c ∷ cs) idle h = false≢true (sym idle)

      by_hand : (hand : Option Carried) → is_some hand ≡ false → list_any p (option_to_list hand) ≡ true → ⊥
      by_hand None idle h = false≢true h
      by_hand (Some c) idle h = false≢true (sym idle)

  none_in : (span : Span) → is_busy span ≡ false → list_any p (in_span span) ≡ true → ⊥
  none_in span idle h =
      let rows = or_parts (list_any (λ (row : Row). is_queued row.fate) span.link.rows) (is_busy_lane span.forth || is_busy_lane span.back) (again (list_any (λ (row : Row). is_queued row.fate) span.link.rows) idle) in
      let lanes = or_parts (is_busy_lane span.forth) (is_busy_lane span.back) rows.1 in
      by_place rows.0 lanes.0 lanes.1 (at p span h)
    where
      again : (b : Bool) → (b || is_busy_lane span.forth || is_busy_lane span.back) ≡ false → (b || (is_busy_lane span.forth || is_busy_lane span.back)) ≡ false
      again true e = e
      again false e = e

      by_place : list_any (λ (row : Row). is_queued row.fate) span.link.rows ≡ false → is_busy_lane span.forth ≡ false → is_busy_lane span.back ≡ false → At p span.link.rows span.forth span.back → ⊥
      by_place rows forth back (on_link h) = none_waits span.link.rows rows h
      by_place rows forth back (going h) = none_in_lane span.forth forth h
      by_place rows forth back (coming h) = none_in_lane span.back back h

  pub quiet_none : (spans : List Span) → list_any is_busy spans ≡ false → list_any p (in_spans spans) ≡ true → ⊥
  quiet_none [] quiet h = false≢true h
  quiet_none (x ∷ xs) quiet h =
      let parts = or_parts (is_busy x) (list_any is_busy xs) quiet in
      ⊎_elim (λ here. none_in x parts.0 here) (λ later. quiet_none xs parts.1 later) (either_any p (in_span x) (in_spans xs) h)
