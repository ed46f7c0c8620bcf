-- Flags and options of a command, and what they are set to.
use Rattle.std.specs.Prelude.{◌≡◌, Bool, true, false, List, [], ◌∷◌, ℕ, Option, Some, option_map, codes}
use Rattle.std.specs.Borrow.{Bor}
use Rattle.clap.specs.Words.{Rule, Text, new_rule}
use Rattle.clap.specs.declared.builder.ArgAction.TheVariants.{SetTrue}
use Rattle.clap.specs.declared.builder.value_parser.ValueParser.TheVariants.{Names}

-- a list of names, wherever it lies
abbrev pub Listed : Type 0
Listed = Bor (List (Bor (List ℕ)))

-- a flag: a word that takes no value
abbrev pub flag_rule : Text → Rule
flag_rule name = record (new_rule name) { long = Some name; action = Some SetTrue }

-- an option that takes a word, for which its help has one name
abbrev pub word_rule : Text → Rule
word_rule name = record (new_rule name) { long = Some name; value_names = 1 }

-- an option with a default
abbrev pub default_rule : Text → Text → Rule
default_rule name default = record (new_rule name) { long = Some name; defaults = default ∷ [] }

-- an option that takes one of some names, with a default
abbrev pub choice_rule : Text → Listed → Text → Rule
choice_rule name names default = record (new_rule name) { long = Some name; defaults = default ∷ []; parser = Some (Names names) }

abbrev pub flag_text : Bool → Text
flag_text true = codes "true"
flag_text false = codes "false"

-- a flag is set, or not
abbrev pub IsSet : (Text → Option Text) → Text → Bool → Type 0
IsSet found name b = found name ≡ Some (flag_text b)

-- a word is given, or none is
abbrev pub IsGiven : (Text → Option Text) → Text → Option (Bor Text) → Type 0
IsGiven found name word = found name ≡ option_map (λ w. w.now) word
