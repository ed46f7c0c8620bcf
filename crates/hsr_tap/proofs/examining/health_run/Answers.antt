use Rattle.std.proofs.lemmas.Result.{IfOk-weaker}
use Rattle.hsr_tap.proofs.Examined.{examines}
use Rattle.hsr_tap.proofs.examining.health_run.Goals as goal

pub returns : goal.returns
returns g c =
    IfOk-weaker c.tell_ended.result _ _ (λ code told. examines c.args.looking.now c.args.macs.now _ _ _ _ _ _ c.examine-ended.result code c.examine-ended.ensures told)
    c.tell_ended.ensures
