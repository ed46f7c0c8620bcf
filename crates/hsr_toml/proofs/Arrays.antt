-- The items of an array.
use Rattle.std.proofs.Common.{◌≡◌, ℕ, ◌+◌, ◌<◌, ◌∙◌, ◌++◌, length, get_or, drop, List, [], ◌∷◌, Option, Some, None, option_map, refl, ap, sym, append_assoc}
use Rattle.toml.specs.Data.{Data}
use Rattle.toml.specs.View.{view, items_view}
use Rattle.toml.specs.declared.value.Value.{Value}
use Rattle.toml.proofs.Views.{items_view-drop}
use Rattle.hsr_toml.specs.Tables.{all_of, in_front}

pub moved : {A : Type 0} (seen : List A) (o : Option A) (x : A) (rest : Option (List A)) → o ≡ Some x
    → option_map (λ xs. seen ++ xs) (in_front o rest) ≡ option_map (λ xs. (seen ++ x ∷ []) ++ xs) rest
moved seen None x rest e = absurd (cc)
moved seen (Some y) x None e = refl
moved seen (Some y) x (Some xs) e = let same : y ≡ x = cc in ap Some (rw (same, append_assoc))

-- an item of the kind joins those before it
pub all_step : {A : Type 0} (as_kind : Data → Option A) (seen : List A) (vs : List Value) (i : ℕ) (d : Value) (x : A) → i < length vs → as_kind (view (get_or vs i d)) ≡ Some x
    → option_map (λ xs. seen ++ xs) (all_of as_kind (items_view (drop i vs))) ≡ option_map (λ xs. (seen ++ x ∷ []) ++ xs) (all_of as_kind (items_view (drop (i + 1) vs)))
all_step as_kind seen vs i d x h e =
    ap (λ ds. option_map (λ xs. seen ++ xs) (all_of as_kind ds)) (items_view-drop vs i d h) ∙ moved seen (as_kind (view (get_or vs i d))) x (all_of as_kind (items_view (drop (i + 1) vs))) e

none_with : {A : Type 0} (seen : List A) (o : Option A) (rest : Option (List A)) → o ≡ None → option_map (λ xs. seen ++ xs) (in_front o rest) ≡ None
none_with seen None rest e = refl
none_with seen (Some x) rest e = absurd (cc)

-- an item of another kind is enough
pub all_fails : {A : Type 0} (as_kind : Data → Option A) (seen : List A) (vs : List Value) (i : ℕ) (d : Value) (whole : Option (List A)) → i < length vs → as_kind (view (get_or vs i d)) ≡ None
    → option_map (λ xs. seen ++ xs) (all_of as_kind (items_view (drop i vs))) ≡ whole → whole ≡ None
all_fails as_kind seen vs i d whole h e same =
    sym same ∙ ap (λ ds. option_map (λ xs. seen ++ xs) (all_of as_kind ds)) (items_view-drop vs i d h) ∙ none_with seen (as_kind (view (get_or vs i d))) (all_of as_kind (items_view (drop (i + 1) vs))) e
