-- A list is looked through from its end.
use Rattle.std.proofs.Common.{◌≡◌, ◌∙◌, ◌||◌, Bool, true, false, refl, List, [], ◌∷◌, ◌++◌}
use Rattle.std.specs.List.{list_any}
use Rattle.std.proofs.lemmas.List.Folds.{list_any-append}

-- the last one doesn't pass, so those before it decide
pub none_newer : {X : Type 0} (p : X → Bool) (older : List X) (newest : X) → p newest ≡ false → list_any p (older ++ newest ∷ []) ≡ list_any p older
none_newer p older newest fails = list_any-append p older (newest ∷ []) ∙ rw fails (or_none (list_any p older))
  where
    or_none : (t : Bool) → (t || (false || false)) ≡ t
    or_none true = refl
    or_none false = refl

pub one_newer : {X : Type 0} (p : X → Bool) (older : List X) (newest : X) → p newest ≡ true → list_any p (older ++ newest ∷ []) ≡ true
one_newer p older newest passes = list_any-append p older (newest ∷ []) ∙ rw passes (or_one (list_any p older))
  where
    or_one : (t : Bool) → (t || (true || false)) ≡ true
    or_one true = refl
    or_one false = refl
