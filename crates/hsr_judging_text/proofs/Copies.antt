-- One more copy, by its index.
use Rattle.std.proofs.Common.{◌≡◌, ℕ, ◌+◌, ◌<◌, ◌∙◌, ◌++◌, append-nil, append_assoc, List, [], ◌∷◌, length, get_or, take, drop, Bor, ap, sym}
use Rattle.std.proofs.lemmas.List.{at_drop_more, take-map}
use Rattle.std.proofs.lemmas.Grind.{flat_map-append}
use Rattle.std.specs.List.{flat_map, range_with_len}
use Rattle.hsr_frame.proofs.OneMore.{numbers_more}
use Rattle.hsr_playback.specs.declared.passage.Passage.{Passage}
use Rattle.hsr_judging.specs.Matching.{views}
use Rattle.hsr_capture_reader.specs.Fields.{InterfaceFields}
use Rattle.hsr_tap_passages.specs.Shown.{ShownFields}
use Rattle.hsr_judging_text.specs.Report.{interface_by, interfaces_from}

-- the copies before one
pub earlier : (ps : List (Bor Passage)) (k : ℕ) → views (take k ps) ≡ take k (views ps)
earlier ps k = sym (take-map (λ (p : Bor Passage). p.now) k ps)

-- what those below a bound say, and one more
pub range_grown : {Y : Type 0} (f : ℕ → List Y) (k : ℕ) (start before after : List Y) → before ≡ start ++ flat_map f (range_with_len 0 k) → after ≡ before ++ f k
    → after ≡ start ++ flat_map f (range_with_len 0 (k + 1))
range_grown {Y} f k start before after so_far more =
    more ∙ ap (λ (t : List Y). t ++ f k) so_far ∙ append_assoc start (flat_map f (range_with_len 0 k)) (f k)
    ∙ ap (λ (t : List Y). start ++ (flat_map f (range_with_len 0 k) ++ t)) (sym (append-nil (f k)))
    ∙ ap (λ (t : List Y). start ++ t) (sym (flat_map-append f (range_with_len 0 k) (k ∷ [])))
    ∙ ap (λ (ns : List ℕ). start ++ flat_map f ns) (sym (numbers_more k))

-- one more interface
pub interfaces_step : (shown : ShownFields) (xs : List InterfaceFields) (i : ℕ) (d x : InterfaceFields) (old new all : List ℕ) → i < length xs → x ≡ get_or xs i d
    → old ++ interfaces_from shown i (drop i xs) ≡ all → new ≡ old ++ interface_by shown i x → new ++ interfaces_from shown (i + 1) (drop (i + 1) xs) ≡ all
interfaces_step shown xs i d x old new all h here so_far more =
    let left : List ℕ = interfaces_from shown (i + 1) (drop (i + 1) xs) in
    ap (λ z. z ++ left) more ∙ append_assoc old (interface_by shown i x) left
    ∙ ap (λ (y : InterfaceFields). old ++ (interface_by shown i y ++ left)) here
    ∙ ap (λ z. old ++ z) (sym (at_drop_more (interfaces_from shown i) xs i d h)) ∙ so_far
