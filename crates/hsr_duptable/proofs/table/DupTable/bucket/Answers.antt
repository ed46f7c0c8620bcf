use Rattle.std.proofs.Common.{refl}
use Rattle.hsr_duptable.specs.Buckets.{bucket_of}
use Rattle.hsr_duptable.proofs.table.DupTable.bucket.Goals as goal

pub returns-clause-value : goal.returns-clause-value
unfolding bucket_of
returns-clause-value g c = rw (c.read_u48-source.ensures, c.octets.ensures.value, ← c.key.view_is) refl
