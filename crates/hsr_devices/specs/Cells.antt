-- Columns of a table.
use Rattle.std.specs.Prelude.{ℕ, ◌-◌, List, ◌++◌, length, replicate}

-- a cell with spaces behind it up to a width, or before it
unfoldable pub left : ℕ → List ℕ → List ℕ
left width cell = cell ++ replicate (width - length cell) 32

unfoldable pub right : ℕ → List ℕ → List ℕ
right width cell = replicate (width - length cell) 32 ++ cell

-- the cell of the first column
abbrev pub label_cell : List ℕ → List ℕ
label_cell label = left 20 label
