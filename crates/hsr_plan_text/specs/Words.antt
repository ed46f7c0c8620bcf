-- The words that texts of a plan spell.
use Rattle.std.specs.Prelude.{ℕ, ◌==◌, ◌&&◌, ◌||◌, not, nat_lt, nat_le, Bool, List, [], ◌∷◌, codes, length, Option, Some, None, option_map, if◌then◌else◌}
use Rattle.std.specs.List.{list_all}
use Rattle.std.specs.Str.{bytes_eq}
use Rattle.hsr_frame.specs.Cases.{first_of}
use Rattle.hsr_text.specs.Words.{◌>>=◌, decimal_of, word_at}
use Rattle.hsr_toml.specs.Names.{is_port_letter, mac_of, name_of}
use Rattle.hsr_plan_text.specs.declared.plan.Kind.{Kind}
use Rattle.hsr_plan_text.specs.declared.plan.Kind.TheVariants.{Goose, SampledValues}
use Rattle.hsr_plan_text.specs.declared.plan.Moves.{Moves}
use Rattle.hsr_plan_text.specs.declared.plan.Moves.TheVariants.{EachSendDrains, EachMomentDrains, Timed}
use Rattle.hsr_plan_text.specs.declared.plan.Switching.{Switching}
use Rattle.hsr_plan_text.specs.declared.plan.Switching.TheVariants.{Store, Cut}
use Rattle.hsr_plan_text.specs.declared.plan.Transfer.TheVariants.{Hop}
use Rattle.hsr_plan_text.specs.declared.plan.Target.{Target}
use Rattle.hsr_plan_text.specs.declared.plan.Target.TheVariants.{Named, Address}

-- ---- ends

-- the letter behind a dot, where there is a dot
abbrev pub letter_of : Option (List ℕ) → Option (Option ℕ)
letter_of None = Some None
letter_of (Some (letter ∷ [])) = if is_port_letter letter then Some (Some letter) else None
letter_of _ = None

-- ---- words of a list

-- the number that is the last word
abbrev pub last_number : Option (List ℕ) → Option ℕ
last_number words = do
  word ← word_at words
  elim word.1 [ None ↦ decimal_of word.0 | Some _ ↦ None ]

abbrev pub is_hop : List ℕ → List ℕ → ℕ → Bool
is_hop key sign hop = bytes_eq key (codes "hop_us") && (bytes_eq sign (codes "=") && (nat_le 1 hop && nat_le hop 1000000))

-- `hop_us = N`, where N is from 1 to 10^6, as plans told it before `hop_us` was a key
unfoldable pub hop_of : List ℕ → Option ℕ
hop_of s = do
  key ← word_at (Some s)
  sign ← word_at key.1
  hop ← last_number sign.1
  if is_hop key.0 sign.0 hop then Some hop else None

abbrev pub moves_of : List ℕ → Option Moves
moves_of s = first_of ((bytes_eq s (codes "each send drains"), Some EachSendDrains) ∷ (bytes_eq s (codes "each moment drains"), Some EachMomentDrains) ∷ [])
    (option_map (λ hop. Timed (Hop hop)) (hop_of s))

abbrev pub switching_of : List ℕ → Option Switching
switching_of s = first_of ((bytes_eq s (codes "store"), Some Store) ∷ (bytes_eq s (codes "cut"), Some Cut) ∷ []) None

abbrev pub kind_named : List ℕ → Option Kind
kind_named s = first_of ((bytes_eq s (codes "goose"), Some Goose) ∷ (bytes_eq s (codes "sv"), Some SampledValues) ∷ []) None

-- ---- names that receivers know

-- a letter, a digit or a low line
abbrev pub is_element_octet : ℕ → Bool
is_element_octet b = (nat_le 97 b && nat_le b 122) || ((nat_le 65 b && nat_le b 90) || ((nat_le 48 b && nat_le b 57) || b == 95))

-- the name of a control block or a data set: 1 to 32 of these
abbrev pub is_element : List ℕ → Bool
is_element s = list_all is_element_octet s && (nat_lt 0 (length s) && nat_le (length s) 32)

abbrev pub element_of : List ℕ → Option (List ℕ)
element_of s = if is_element s then Some s else None

-- a visible character of ASCII
abbrev pub is_visible : ℕ → Bool
is_visible b = nat_le 33 b && nat_le b 126

-- an id: 1 to 65 of these
abbrev pub is_id : List ℕ → Bool
is_id s = list_all is_visible s && (nat_lt 0 (length s) && nat_le (length s) 65)

abbrev pub id_of : List ℕ → Option (List ℕ)
id_of s = if is_id s then Some s else None

-- ---- titles and targets

-- no control characters
abbrev pub is_title : List ℕ → Bool
is_title s = list_all (λ b. nat_le 32 b && not (b == 127)) s

abbrev pub title_of : List ℕ → Option (List ℕ)
title_of s = if is_title s then Some s else None

-- whom a text names: an address, or else a node or a station
abbrev pub target_if : List ℕ → Option (List ℕ) → Option Target
target_if s (Some mac) = Some (Address mac)
target_if s None = option_map (λ n. Named n) (name_of s)

abbrev pub target_of : List ℕ → Option Target
target_of s = target_if s (mac_of s)
