-- The words that texts of a scenario spell.
use Rattle.std.specs.Prelude.{ℕ, ◌&&◌, List, [], ◌∷◌, codes, Option, Some, None, if◌then◌else◌}
use Rattle.std.specs.Result.{result_ok}
use Rattle.std.specs.Str.{bytes_eq}
use Rattle.hex.specs.Hex.{decode_of}
use Rattle.hsr_text.specs.Words.{cut}
use Rattle.hsr_toml.specs.Names.{is_name, is_port_letter}
use Rattle.hsr_scenario.specs.declared.words.Deed.{Deed}
use Rattle.hsr_scenario.specs.declared.words.Deed.TheVariants as deed

-- ---- ends

abbrev pub end_if : List ℕ → Option (List ℕ) → Option (List ℕ × ℕ)
end_if name (Some (letter ∷ [])) = if is_name name && is_port_letter letter then Some (name, letter) else None
end_if name _ = None

-- a name and a letter with a dot between them
abbrev pub end_of : List ℕ → Option (List ℕ × ℕ)
end_of s = end_if (cut 46 s).0 (cut 46 s).1

-- ---- words of a list

abbrev pub spelled : {A : Type 0} → List (List ℕ × A) → List ℕ → Option A
spelled [] s = None
spelled (row ∷ rows) s = if bytes_eq s row.0 then Some row.1 else spelled rows s

abbrev pub deed_of : List ℕ → Option Deed
deed_of s = spelled (
    (codes "clock", deed.Clock) ∷ (codes "send", deed.Send) ∷ (codes "life", deed.Life) ∷ (codes "age", deed.Age)
    ∷ (codes "put", deed.Put) ∷ (codes "judge", deed.Judge) ∷ (codes "take", deed.Take) ∷ (codes "cut", deed.Cut)
    ∷ (codes "mend", deed.Mend) ∷ (codes "inject", deed.Inject) ∷ (codes "drain", deed.Drain) ∷ []) s

-- ---- octets

abbrev pub octets_of : List ℕ → Option (List ℕ)
octets_of s = result_ok (decode_of s)
