use Rattle.std.proofs.Common.{List, Option, Some, subst, sym, ℕ}
use Rattle.std.specs.Borrow.{Bor}
use Rattle.std.specs.Prelude.{OnErr}
use Rattle.hsr_files.specs.Files.{PutsFront}
use Rattle.hsr_run_tables.specs.declared.tables.RunTables.{RunTables}
use Rattle.hsr_commands.specs.Shown.{files_if, text_if}
use Rattle.hsr_commands.proofs.shown.put_tables_if.Goals as goal

pub returns-in-Some-tables-clause-front : goal.returns-in-Some-tables-clause-front
returns-in-Some-tables-clause-front g c =
    let P : Option (Bor (List ℕ)) → Option RunTables → Type 0 =
    λ folder tables. OnErr c.put_tables.result (PutsFront (g.D.Disk.puts c.args.disk.now) (g.D.Disk.puts c.put_tables.new.disk) (files_if (text_if folder) tables)) in
    subst (λ (folder : Option (Bor (List ℕ))). P folder c.args.tables.now) (sym c.in-Some.is)
    (subst (λ (tables : Option RunTables). P (Some c.in-Some.folder) tables) (sym c.in-Some-tables.is) c.put_tables.ensures.front)
