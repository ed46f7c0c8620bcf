use Rattle.std.proofs.Common.{rules}
use Rattle.hsr_report.proofs.finding.found_of_ring.Goals as goal

pub returns-in-Ok : goal.returns-in-Ok
returns-in-Ok g c = (c.in-Ok.certificate.sends.items, c.in-Ok.ensures.certified, search rules)
