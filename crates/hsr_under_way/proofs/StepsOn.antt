-- What a step that is done does.
use Rattle.hsr_under_way.specs.StepsOn.{StepsOn}
use Rattle.hsr_under_way.proofs.Counting.{moves_step}
use Rattle.hsr_under_way.proofs.Cutting.{cut_step}
use Rattle.hsr_under_way.proofs.Fields.{asked_step, moment_step, records_step}
use Rattle.hsr_under_way.proofs.Hands.{balanced_step}
use Rattle.hsr_under_way.proofs.Losing.{lost_step, over_step}
use Rattle.hsr_under_way.proofs.Sending.{kept_step}
use Rattle.hsr_under_way.proofs.Shapes.{shape}
use Rattle.hsr_under_way.proofs.Staying.{own_step, room_step}

pub steps_on : StepsOn
steps_on capacity w after step sound own done =
    let s = shape capacity w after step own done in
    record {
      kept = λ send h. kept_step capacity w send step after s h;
      records = λ k. records_step capacity w step after sound s k;
      asked = λ k h. asked_step capacity w step after sound s k h;
      overrun = λ l h. over_step capacity w step after s l h;
      lost = λ l send h. lost_step send capacity w step after s l h;
      cut = λ l below. cut_step capacity w step after s l below;
      moment = moment_step capacity w step after s;
      room = λ l. room_step capacity w step after s l;
      own = own_step capacity w step after s;
      balanced = λ even. balanced_step capacity w step after sound s even;
      moves = moves_step capacity w step after sound s;
    }
