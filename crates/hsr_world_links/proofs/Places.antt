-- An index in the spans of the code, and of the list of what is seen of them.
use Rattle.std.proofs.Common.{◌≡◌, ◌⊎◌, inl, inr, ℕ, ◌<◌, List, [], ◌∷◌, map, set, get_or, length, Option, Some, None, Result, Ok, Err, refl, sym, ap, ◌∙◌, arith}
use Rattle.hsr_world_steps.specs.declared.step.WorldFault.TheVariants.{Nothing}
use Rattle.std.specs.Prelude.{is_some, false, OnOk, IfErr}
use Rattle.std.proofs.lemmas.List.{map-set, get_or-map}
use Rattle.hsr_link.specs.Link.{Link, take_step}
use Rattle.hsr_link.specs.Rows.{first_copy, turned}
use Rattle.hsr_link.specs.declared.row.Dir.{Dir}
use Rattle.hsr_link.specs.declared.row.Fate.{Fate}
use Rattle.hsr_link.specs.declared.row.Row.{Row}
use Rattle.hsr_node.specs.declared.event.Carried.{Carried}
use Rattle.std.proofs.lemmas.Grind.{common_steps}
use Rattle.hsr_world_laws.specs.Spans.{Lane, Span}
use Rattle.hsr_world_links.specs.Views.{take_in, taken_in, in_spans, span_view, on_span}
use Rattle.hsr_world_laws.specs.World.{span_in}
use Rattle.hsr_world_links.specs.declared.span.Span as code
use Rattle.hsr_world_steps.specs.declared.step.WorldFault.{WorldFault}

pub span_seen : (spans : List code.Span) (i : ℕ) (d : code.Span) → i < length spans → span_in (map span_view spans) i ≡ span_view (get_or spans i d)
span_seen spans i d below = get_or-map span_view spans i d _ below

-- one changed span, as it is seen
pub on_span_seen : (f : Span → Span) (spans : List code.Span) (i : ℕ) (y d : code.Span) → i < length spans → span_view y ≡ f (span_view (get_or spans i d)) →
    map span_view (set spans i y) ≡ on_span f i (map span_view spans)
on_span_seen f spans i y d below h =
    map-set span_view spans i y ∙ ap (λ z. set (map span_view spans) i z) (h ∙ ap f (sym (span_seen spans i d below)))

-- a change that may be refused
pub in_spans_ok : (g : Span → Result Span WorldFault) (spans : List code.Span) (i : ℕ) (y d : code.Span) → i < length spans → g (span_view (get_or spans i d)) ≡ Ok (span_view y) →
    in_spans i (map span_view spans) (g (span_in (map span_view spans) i)) ≡ Ok (map span_view (set spans i y))
in_spans_ok g spans i y d below h =
    ap (λ z. in_spans i (map span_view spans) (g z)) (span_seen spans i d below) ∙ ap (in_spans i (map span_view spans)) h ∙ ap Ok (sym (map-set span_view spans i y))

pub in_spans_err : (g : Span → Result Span WorldFault) (spans : List code.Span) (i : ℕ) (d : code.Span) (fault : WorldFault) → i < length spans → g (span_view (get_or spans i d)) ≡ Err fault →
    in_spans i (map span_view spans) (g (span_in (map span_view spans) i)) ≡ Err fault
in_spans_err g spans i d fault below h =
    ap (λ z. in_spans i (map span_view spans) (g z)) (span_seen spans i d below) ∙ ap (in_spans i (map span_view spans)) h

-- where no copy waits, none is turned
pub turned_none : (fate : Fate) (dir : Dir) (rows : List Row) → None ≡ first_copy dir rows → turned fate dir rows ≡ rows
turned_none fate dir [] none = refl
turned_none fate dir (x ∷ rows) none =
    let rest = turned_none fate dir rows in
    grind (arith, common_steps)

-- ---- results

pub ok_map : {X Y : Type 0} (r : Result X Y) {P Q : Type 0} → (P → Q) → OnOk r P → OnOk r Q
ok_map (Ok x) f h = f h
ok_map (Err y) f h = tt

pub err_map : {X Y : Type 0} (r : Result X Y) {P Q : Y → Type 0} → ((y : Y) → P y → Q y) → IfErr r P → IfErr r Q
err_map (Ok x) f h = tt
err_map (Err y) f h = f y h

pub or_map : {P Q R : Type 0} → (Q → R) → P ⊎ Q → P ⊎ R
or_map f (inl p) = inl p
or_map f (inr q) = inr (f q)

pub take_none : (dir : Dir) (link : Link) (lane : Lane) (hand : Option Carried) → false ≡ is_some hand → None ≡ first_copy dir link.rows → take_in dir link lane hand ≡ Err Nothing
take_none dir link lane None held none = ap (λ copy. taken_in lane (copy, (take_step link dir).1)) (sym none)
take_none dir link lane (Some copy) held none = absurd (cc)
