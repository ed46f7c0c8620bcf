use Rattle.hsr_tables.proofs.ProxyLaws.{knows_latest}
use Rattle.hsr_tables.proofs.proxies.known_proxies.Goals as goal

pub returns : goal.returns
returns c = knows_latest
