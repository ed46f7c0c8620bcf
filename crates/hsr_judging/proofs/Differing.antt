-- One more difference that may be there.
use Rattle.std.proofs.Common.{◌≡◌, ℕ, ◌+◌, ◌<◌, ◌≤◌, ◌∙◌, ◌++◌, append_assoc, List, [], length, get_or, drop, Option, ap, sym}
use Rattle.std.proofs.lemmas.List.{at_drop_more, at_drop_all}
use Rattle.std.specs.Option.{option_to_list}
use Rattle.hsr_judging.specs.Differences.{those}
use Rattle.hsr_judging.specs.declared.difference.Difference.{Difference}

pub those_more : (all : List (Option Difference)) (k : ℕ) (x d : Option Difference) (found next whole : List Difference) → k < length all → x ≡ get_or all k d
    → next ≡ found ++ option_to_list x → found ++ those (drop k all) ≡ whole → next ++ those (drop (k + 1) all) ≡ whole
those_more all k x d found next whole h item is same =
    ap (λ front. front ++ those (drop (k + 1) all)) (is ∙ ap (λ (o : Option Difference). found ++ option_to_list o) item)
    ∙ append_assoc found (option_to_list (get_or all k d)) (those (drop (k + 1) all))
    ∙ ap (λ rest. found ++ rest) (sym (at_drop_more those all k d h)) ∙ same

pub those_all : (all : List (Option Difference)) (k : ℕ) → length all ≤ k → those (drop k all) ≡ []
those_all all k h = at_drop_all those all k h
