use Rattle.std.proofs.Common.{List, ap, subst}
use Rattle.hsr_files.specs.Files.{File, Puts, PutsFront, files_in}
use Rattle.hsr_commands.proofs.Putting.{are_table_files}
use Rattle.hsr_commands.proofs.shown.put_tables.Goals as goal

pub returns-in-Ok-clause-put : goal.returns-in-Ok-clause-put
returns-in-Ok-clause-put g c =
    let P : List File → Type 0 = λ files. Puts (g.D.Disk.puts c.args.disk.now) (g.D.Disk.puts c.put_files.new.disk) files in
    subst P
    (are_table_files c.args.folder.now c.args.tables.now c.as_slice-7.result.now _ _ _ _ _ _ c.as_slice.ensures.value c.as_slice-2.ensures.value c.as_slice-3.ensures.value
    c.as_slice-4.ensures.value c.as_slice-5.ensures.value c.as_slice-6.ensures.value (ap (files_in c.args.folder.now) c.as_slice-7.ensures)) c.in-Ok.ensures.put

pub returns-in-Err-clause-front : goal.returns-in-Err-clause-front
returns-in-Err-clause-front g c =
    let P : List File → Type 0 = λ files. PutsFront (g.D.Disk.puts c.args.disk.now) (g.D.Disk.puts c.put_files.new.disk) files in
    subst P
    (are_table_files c.args.folder.now c.args.tables.now c.as_slice-7.result.now _ _ _ _ _ _ c.as_slice.ensures.value c.as_slice-2.ensures.value c.as_slice-3.ensures.value
    c.as_slice-4.ensures.value c.as_slice-5.ensures.value c.as_slice-6.ensures.value (ap (files_in c.args.folder.now) c.as_slice-7.ensures)) c.in-Err.ensures.front
