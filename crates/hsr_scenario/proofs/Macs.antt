-- The addresses that texts spell.
use Rattle.std.proofs.Common.{◌≡◌, ℕ, ◌+◌, ◌<◌, ◌∙◌, ◌++◌, length, get_or, drop, map, List, [], ◌∷◌, Some, option_map, ap, Bor}
use Rattle.std.proofs.lemmas.List.{drop_more}
use Rattle.hsr_scenario.specs.Tables.{each_of}
use Rattle.hsr_toml.specs.Names.{mac_of}
use Rattle.hsr_toml.proofs.Arrays.{moved}

-- the address of a text joins those before it
pub macs_step : (seen : List (List ℕ)) (ts : List (Bor (List ℕ))) (i : ℕ) (d : Bor (List ℕ)) (mac : List ℕ) → i < length ts → mac_of (get_or ts i d).now ≡ Some mac
    → option_map (λ xs. seen ++ xs) (each_of mac_of (map (λ s. s.now) (drop i ts))) ≡ option_map (λ xs. (seen ++ mac ∷ []) ++ xs) (each_of mac_of (map (λ s. s.now) (drop (i + 1) ts)))
macs_step seen ts i d mac h e =
    ap (λ us. option_map (λ xs. seen ++ xs) (each_of mac_of (map (λ s. s.now) us))) (drop_more ts i d h)
    ∙ moved seen (mac_of (get_or ts i d).now) mac (each_of mac_of (map (λ s. s.now) (drop (i + 1) ts))) e
