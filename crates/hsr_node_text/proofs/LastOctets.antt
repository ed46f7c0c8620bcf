-- A space is no digit, so octets with one spell nothing.
use Rattle.std.proofs.Common.{◌≡◌, ℕ, ◌==◌, ◌&&◌, None, Some, Option, List, [], ◌∷◌, ◌++◌, ◌∙◌, length, refl, sym, ap, arith, Bool, true, false}
use Rattle.std.proofs.lemmas.List.{length-append}
use Rattle.std.proofs.lemmas.List.Folds.{list_all-append}
use Rattle.std.specs.Char.{is_ascii_hexdigit}
use Rattle.std.specs.List.{list_all}
use Rattle.std.specs.Result.{result_ok}
use Rattle.hex.specs.Hex.{decode_of}
use Rattle.hsr_text.proofs.Cuts.{cut_found, cut_missing}
use Rattle.hsr_digits.proofs.HexDigits.{none_spelled}
use Rattle.hsr_text.specs.Words.{◌>>=◌, cut, hex_octets_of}
use Rattle.hsr_node_text.specs.Request.{last_octets}

unspelled : (front rest : List ℕ) → result_ok (decode_of (front ++ 32 ∷ rest)) ≡ None
unspelled front rest = none_spelled (front ++ 32 ∷ rest) (list_all-append is_ascii_hexdigit front (32 ∷ rest) ∙ none (list_all is_ascii_hexdigit front))
  where
    none : (t : Bool) → (t && list_all is_ascii_hexdigit (32 ∷ rest)) ≡ false
    none true = refl
    none false = refl

-- what the last word spells, of a word and what follows it
abbrev last_of : List ℕ × Option (List ℕ) → Option (List ℕ)
last_of word = elim word.1 [ None ↦ Some word.0 | Some _ ↦ None ] >>= hex_octets_of

-- a hyphen is alone
spaced : (front rest : List ℕ) → hex_octets_of (front ++ 32 ∷ rest) ≡ None
spaced [] rest = unspelled [] rest
spaced (b ∷ bs) rest = go (b == 45) refl (length (bs ++ 32 ∷ rest) == 0) refl
  where
    go : (s : Bool) → (b == 45) ≡ s → (t : Bool) → (length (bs ++ 32 ∷ rest) == 0) ≡ t → hex_octets_of (b ∷ bs ++ 32 ∷ rest) ≡ None
    go s e true f = absurd (grind (arith, length-append, f))
    go true e false f = rw (e, f) (unspelled (b ∷ bs) rest)
    go false e false f = rw e (unspelled (b ∷ bs) rest)

pub spelled_by_all : (text : List ℕ) → last_octets (Some text) ≡ hex_octets_of text
spelled_by_all text = go (cut 32 text).0 (cut 32 text).1 refl
  where
    go : (front : List ℕ) (r : Option (List ℕ)) → cut 32 text ≡ (front, r) → last_octets (Some text) ≡ hex_octets_of text
    go front None e = ap last_of e ∙ ap hex_octets_of (cut_missing 32 text front e)
    go front (Some rest) e = ap last_of e ∙ sym (ap hex_octets_of (cut_found 32 text front rest e).0 ∙ spaced front rest)
