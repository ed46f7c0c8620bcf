use Rattle.std.proofs.Common.{◌∙◌, ap, arith, refl}
use Rattle.std.specs.Prelude.{nat_eq}
use Rattle.std.specs.HashMap.{get}
use Rattle.hsr_number_runs.proofs.Running.{put_knows}
use Rattle.hsr_number_runs.proofs.run.Counting.put.Goals as goal

pub returns : goal.returns
returns c = λ before known.
    put_knows c.args.self.now _ c.args.p c.greater-top.result c.top_of-own.result before c.greater-top.ensures c.top_of-own.ensures
    (λ g. ap (λ m. get nat_eq m g) c.put_there.ensures.tops ∙ c.in_ok-insert.ensures.updates.0 g) (λ marked. c.in_ok-put_there.ensures.there before marked c.args.p refl refl) (omega arith) known
