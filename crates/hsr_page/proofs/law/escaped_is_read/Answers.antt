use Rattle.hsr_page.proofs.PutRead.{escaped_put_read}
use Rattle.hsr_page.proofs.Escaped.{escaped_harmless, escaped_read}
use Rattle.hsr_page.proofs.law.escaped_is_read.Goals as goal

pub returns-clause-read : goal.returns-clause-read
returns-clause-read c = escaped_read

pub returns-clause-harmless : goal.returns-clause-harmless
returns-clause-harmless c = escaped_harmless

pub returns-clause-put : goal.returns-clause-put
returns-clause-put c = escaped_put_read
