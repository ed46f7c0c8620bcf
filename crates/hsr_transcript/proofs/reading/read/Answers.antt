use Rattle.std.proofs.Common.{Err, arith, refl}
use Rattle.hsr_transcript.specs.Plain.{plain_view}
use Rattle.hsr_transcript.specs.Judged.{standing_of}
use Rattle.hsr_transcript.proofs.Answered.{closes_again, closes_answers, form_again, form_fault, judged_again}
use Rattle.hsr_transcript.proofs.EarlierTexts.{earlier_again}
use Rattle.hsr_transcript.proofs.reading.read.Goals as goal

-- src/reading.rt:52:23
pub returns-in-Err-clause-exact : goal.returns-in-Err-clause-exact
returns-in-Err-clause-exact g c = form_fault plain_view g.row.C _ c.in-Err.fault c.in-Err.ensures

-- src/reading.rt:52:23
pub returns-in-Err-clause-again : goal.returns-in-Err-clause-again
returns-in-Err-clause-again g c = form_again plain_view g.row.C _ c.in-Err.fault (omega (arith, c.requires.entries)) c.in-Err.ensures

pub returns-in-Err-clause-earlier : goal.returns-in-Err-clause-earlier
returns-in-Err-clause-earlier g c = earlier_again g.row.C _ (Err c.in-Err.fault) c.earlier_is_read.ensures.finished (returns-in-Err-clause-again g c)

-- src/reading.rt:45:1
pub returns-in-Ok-judge-clause-exact : goal.returns-in-Ok-judge-clause-exact
returns-in-Ok-judge-clause-exact g c = closes_answers g.row.C _ (plain_view c.in-Ok.plain) (standing_of g.row.C c.in-Ok-judge.records) _ _ c.in-Ok.ensures c.in-Ok-judge.ensures refl c.close.ensures

-- src/reading.rt:45:1
pub returns-in-Ok-judge-clause-again : goal.returns-in-Ok-judge-clause-again
returns-in-Ok-judge-clause-again g c = closes_again g.row.C _ (plain_view c.in-Ok.plain) (standing_of g.row.C c.in-Ok-judge.records) _ _ (omega (arith, c.requires.entries)) c.in-Ok.ensures c.in-Ok-judge.ensures refl c.close.ensures

pub returns-in-Ok-judge-clause-earlier : goal.returns-in-Ok-judge-clause-earlier
returns-in-Ok-judge-clause-earlier g c = earlier_again g.row.C _ _ c.earlier_is_read.ensures.finished (returns-in-Ok-judge-clause-again g c)

-- src/reading.rt:45:1
pub returns-in-Err-judge-clause-again : goal.returns-in-Err-judge-clause-again
returns-in-Err-judge-clause-again g c = judged_again g.row.C _ (plain_view c.in-Ok.plain) _ (omega (arith, c.requires.entries)) c.in-Ok.ensures c.in-Err-judge.ensures

pub returns-in-Err-judge-clause-earlier : goal.returns-in-Err-judge-clause-earlier
returns-in-Err-judge-clause-earlier g c = earlier_again g.row.C _ (Err c.in-Err-judge.fault) c.earlier_is_read.ensures.finished (returns-in-Err-judge-clause-again g c)
