-- Lines by number.
use Rattle.std.proofs.Common.{◌≡◌, ℕ, ◌+◌, List, [], ◌∷◌, ◌++◌, ap, sym, ◌∙◌, append_assoc, append-nil}
use Rattle.std.specs.List.{flat_map, range_with_len}
use Rattle.std.proofs.lemmas.Grind.{flat_map-append}
use Rattle.hsr_frame.proofs.OneMore.{numbers_more}

-- what each number below a bound says, in a row, and one more
pub numbered : {Y : Type 0} (text : ℕ → List Y) (n : ℕ) (start : List Y) →
    (start ++ flat_map text (range_with_len 0 n)) ++ text n ≡ start ++ flat_map text (range_with_len 0 (n + 1))
numbered text n start =
    append_assoc start (flat_map text (range_with_len 0 n)) (text n)
    ∙ ap (λ t. start ++ t) (ap (λ t. flat_map text (range_with_len 0 n) ++ t) (sym (append-nil (text n)))
    ∙ sym (flat_map-append text (range_with_len 0 n) (n ∷ [])) ∙ sym (ap (flat_map text) (numbers_more n)))
