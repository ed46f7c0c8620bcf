-- A text without its comments and strings, octet by octet.
use Rattle.std.proofs.Common.{◌≡◌, ℕ, ◌+◌, ◌<◌, ◌∙◌, ◌++◌, length, get_or, drop, List, [], ◌∷◌, ap, sym, append_assoc}
use Rattle.std.proofs.lemmas.List.{drop_more}
use Rattle.hsr_toml.specs.Lexing.{bare, lexed, shown}
use Rattle.hsr_toml.specs.declared.lexing.Lexing.{Lexing}

pub bare_step : (seen : List ℕ) (l : Lexing) (text : List ℕ) (i d : ℕ) → i < length text
    → seen ++ bare l (drop i text) ≡ (seen ++ shown (lexed l (get_or text i d)) (get_or text i d) ∷ []) ++ bare (lexed l (get_or text i d)) (drop (i + 1) text)
bare_step seen l text i d h =
    ap (λ bs. seen ++ bare l bs) (drop_more text i d h)
    ∙ sym (append_assoc seen (shown (lexed l (get_or text i d)) (get_or text i d) ∷ []) (bare (lexed l (get_or text i d)) (drop (i + 1) text)))
