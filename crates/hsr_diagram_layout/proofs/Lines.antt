-- Lines of a text, one more.
use Rattle.std.proofs.Common.{◌≡◌, ℕ, ◌+◌, ◌<◌, List, [], ◌∷◌, ◌++◌, length, map, take, slice_index_or, ap, sym, ◌∙◌, append_assoc}
use Rattle.std.specs.Global.{Global}
use Rattle.std.specs.Prelude.{Vec}
use Rattle.std.proofs.lemmas.List.{map-append, take_more}
use Rattle.hsr_timeline.specs.Fronts.{items_of, lists_of}
use Rattle.hsr_svg.specs.Elements.{Shape}
use Rattle.hsr_diagram_layout.specs.Telling.{line_shape}

pub line_more : (xs : List (Vec ℕ Global)) (i : ℕ) (d : Vec ℕ Global) (start : List Shape) → i < length xs →
    (start ++ map line_shape (lists_of (take i xs))) ++ line_shape (items_of (slice_index_or xs i d)) ∷ [] ≡ start ++ map line_shape (lists_of (take (i + 1) xs))
line_more xs i d start below =
    let x = slice_index_or xs i d in
    append_assoc start (map line_shape (lists_of (take i xs))) (line_shape (items_of x) ∷ [])
    ∙ ap (λ (t : List Shape). start ++ t) (sym (map-append line_shape (lists_of (take i xs)) (items_of x ∷ []))
    ∙ (ap (map line_shape) (sym (map-append items_of (take i xs) (x ∷ [])))
    ∙ sym (ap (λ (ys : List (Vec ℕ Global)). map line_shape (lists_of ys)) (take_more xs i d below))))
