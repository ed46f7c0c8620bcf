use Rattle.std.proofs.Common.{rules}
use Rattle.hsr_transcript.specs.Plain.{plain_view}
use Rattle.hsr_transcript.proofs.Answered.{judged_unlike, order_told}
use Rattle.hsr_transcript.proofs.judge.judge.Goals as goal

-- src/judge.rt:19:1
pub returns : goal.returns
returns g c = judged_unlike g.row.C (plain_view c.args.plain) _ _ _ _ c.in-Ok-Some.plan.items _ c.in-Err-replay_all.fault (search rules) (search rules) (search rules) (search rules) (search rules) (order_told (λ p. p.items) _ _ _ _ c.in-Ok-Some.field-0-is c.in-Ok-Some.ensures) (search rules) c.in-Err-replay_all.ensures
