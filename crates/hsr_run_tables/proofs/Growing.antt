-- The text of a table by one more row.
use Rattle.std.proofs.Common.{◌≡◌, ℕ, ◌+◌, ◌<◌, List, [], ◌∷◌, ◌++◌, length, map, take, slice_index_or, Vec, Result, Ok, Err, IfOk, refl, sym, ap, ◌∙◌, append_assoc, append-nil}
use Rattle.std.specs.Global.{Global}
use Rattle.std.specs.List.{flat_map}
use Rattle.std.proofs.lemmas.Grind.{flat_map-append}
use Rattle.hsr_frame.proofs.OneMore as more
use Rattle.hsr_run_tables.specs.Table.{line, table_text}

-- behind a head and rows
pub one_more : (head : List (List ℕ)) (rows : List (List (List ℕ))) (row : List (List ℕ)) → table_text head rows ++ line row ≡ table_text head (rows ++ row ∷ [])
one_more head rows row =
    ap (λ t. table_text head rows ++ t) (sym (append-nil (line row))) ∙ sym (flat_map-append line (head ∷ rows) (row ∷ []))

-- the lines of the rows of things are those that each of them says
said : {X : Type 0} (row : X → List (List ℕ)) (xs : List X) → flat_map line (map row xs) ≡ flat_map (λ x. line (row x)) xs
said row [] = refl
said row (x ∷ xs) = ap (λ t. line (row x) ++ t) (said row xs)

-- one for each of a list
pub grown : {X : Type 0} (row : X → List (List ℕ)) (xs : List X) (i : ℕ) (d : X) (start : List ℕ) → i < length xs →
    (start ++ flat_map line (map row (take i xs))) ++ line (row (slice_index_or xs i d)) ≡ start ++ flat_map line (map row (take (i + 1) xs))
grown row xs i d start below =
    ap (λ t. (start ++ t) ++ line (row (slice_index_or xs i d))) (said row (take i xs))
    ∙ more.grown (λ x. line (row x)) xs i d start below ∙ ap (λ t. start ++ t) (sym (said row (take (i + 1) xs)))

-- a table whose rows were put behind its head
pub whole : {E : Type 0} (r : Result (Vec ℕ Global) E) (begun done : List ℕ) (head : List (List ℕ)) (rows : List (List (List ℕ))) → IfOk r (λ text. text.items ≡ done) →
    done ≡ begun ++ flat_map line rows → begun ≡ line head → IfOk r (λ text. text.items ≡ table_text head rows)
whole (Ok text) begun done head rows is rest first = is ∙ rest ∙ ap (λ t. t ++ flat_map line rows) first
whole (Err e) begun done head rows is rest first = tt
