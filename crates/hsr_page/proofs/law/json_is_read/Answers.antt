use Rattle.hsr_page.proofs.PutRead.{json_put_read}
use Rattle.hsr_page.proofs.JsonRead.{json_harmless, json_read}
use Rattle.hsr_page.proofs.law.json_is_read.Goals as goal

pub returns-clause-read : goal.returns-clause-read
returns-clause-read c = json_read

pub returns-clause-harmless : goal.returns-clause-harmless
returns-clause-harmless c = json_harmless

pub returns-clause-put : goal.returns-clause-put
returns-clause-put c = json_put_read
