use Rattle.std.proofs.Common.{rules}
use Rattle.hsr_tables.proofs.Latest.{any-filter}
use Rattle.hsr_tables.proofs.proxies.ProxyTable.knows.Goals as goal

pub returns : goal.returns
returns c = rw any-filter (search rules)
