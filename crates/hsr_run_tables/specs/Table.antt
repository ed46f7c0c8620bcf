-- The text of a table: a line of its head, then one of each row.
use Rattle.std.specs.Prelude.{ℕ, ◌≡◌, false, List, ◌∷◌, ◌++◌, Vec}
use Rattle.std.specs.Global.{Global}
use Rattle.std.specs.List.{flat_map}
use Rattle.csv.specs.Writing.{default_writer, fields_written, has_written, row_text, writer_pending, writer_setup, writer_under}
use Rattle.csv.specs.declared.writer.Writer.{Writer}

-- the line of cells: commas between them, quotes round a cell that has a comma, a quote or a line end, and a line feed at its end (RFC
-- 4180, but for the carriage return)
unfoldable pub line : List (List ℕ) → List ℕ
line cells = row_text default_writer cells

abbrev pub table_text : List (List ℕ) → List (List (List ℕ)) → List ℕ
table_text head rows = flat_map line (head ∷ rows)

-- ---- a table while it is written

-- what was written of it so far
unfoldable pub written : Writer (Vec ℕ Global) → List ℕ
written table = (writer_under table).items ++ writer_pending table

-- its last row is whole
pub record IsBetween (table : Writer (Vec ℕ Global)) : Type 0 where
  pub form : writer_setup table ≡ default_writer
  pub cells : fields_written table ≡ 0
  pub shown : has_written table ≡ false
