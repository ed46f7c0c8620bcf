-- The size of tables of which a transcript tells, by its front.
--     told_in     the size that the second line tells, if it is one of those that the program has
--     told_size   that, or else the large
use Rattle.std.specs.Prelude.{ℕ, if◌then◌else◌, List, codes, drop, length, nat_eq, Option, Some, None}
use Rattle.std.specs.List.{starts_with}
use Rattle.hsr_text.specs.Words.{◌>>=◌, cut, decimal_of}
use Rattle.hsr_table_size.specs.Sizes.{table_with}
use Rattle.hsr_table_size.specs.declared.size.TableSize.{TableSize}
use Rattle.hsr_table_size.specs.declared.size.TableSize.TheVariants.{Large}

-- what follows these octets, at the front of a text
abbrev pub behind : List ℕ → List ℕ → Option (List ℕ)
behind text words = if starts_with nat_eq text words then Some (drop (length words) text) else None

-- what follows the word `table`, behind a first line as of a transcript
abbrev pub or_behind : Option (List ℕ) → Option (List ℕ) → Option (List ℕ)
or_behind (Some rest) other = Some rest
or_behind None other = other

abbrev pub behind_table : List ℕ → Option (List ℕ)
behind_table front = or_behind (behind front (codes "hsr-bench 2\ntable ")) (behind front (codes "hsr-bench 1\ntable "))

-- the size of so many entries as a whole line spells; a line feed is 10
abbrev pub in_line : List ℕ × Option (List ℕ) → Option TableSize
in_line (line, None) = None
in_line (line, Some rest) = decimal_of line >>= table_with

abbrev pub told_in : List ℕ → Option TableSize
told_in front = behind_table front >>= (λ rest. in_line (cut 10 rest))

abbrev pub or_large : Option TableSize → TableSize
or_large None = Large
or_large (Some table) = table

abbrev pub told_size : List ℕ → TableSize
told_size front = or_large (told_in front)
