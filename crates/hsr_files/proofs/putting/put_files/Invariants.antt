use Rattle.std.proofs.Common.{take}
use Rattle.hsr_files.specs.Files.{Puts, files_in}
use Rattle.hsr_files.proofs.putting.put_files.Given as goal

abbrev pub invariant-loop-file : goal.invariant-loop-file
invariant-loop-file g l = Puts (g.D.Disk.puts l.initial.disk) (g.D.Disk.puts l.disk) (files_in l.folder (take l.file-index l.files))
