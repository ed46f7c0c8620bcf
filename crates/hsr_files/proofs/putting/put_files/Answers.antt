use Rattle.std.proofs.Common.{rules}
use Rattle.hsr_files.proofs.Puts.{front_put}
use Rattle.hsr_files.proofs.putting.put_files.Goals as goal

pub returns-in-Err-clause-front : goal.returns-in-Err-clause-front
returns-in-Err-clause-front g c =
    front_put c.args.folder.now c.args.files.now (g.D.Disk.puts c.args.disk.now) (g.D.Disk.puts c.loop-file.disk) (g.D.Disk.puts c.put.new.self) c.loop-file.file-index
    (search rules) c.loop-file.invariant c.in-Err.ensures.not_put
