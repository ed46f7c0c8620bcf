-- Numbers in the data of a page, as JSON.
--     numbers_text   a list of numbers
--     place_text     a place in a list, if there is one
use Rattle.std.specs.Prelude.{ℕ, List, ◌++◌, Option, Some, None, codes}
use Rattle.std.specs.Fmt.{decimal}
use Rattle.std.specs.List.{join_by}

unfoldable pub numbers_text : List ℕ → List ℕ
numbers_text numbers = codes "[" ++ join_by decimal (codes ",") numbers ++ codes "]"

abbrev pub place_text : Option ℕ → List ℕ
place_text None = codes "-1"
place_text (Some place) = decimal place
