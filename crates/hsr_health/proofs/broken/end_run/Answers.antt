use Rattle.std.proofs.Common.{subst}
use Rattle.hsr_health.specs.Broken.{IsTold}
use Rattle.hsr_health.proofs.Breaking.{kept_same}
use Rattle.hsr_health.proofs.broken.end_run.Goals as goal

pub returns : goal.returns
returns c =
    let own = c.in_ok-put_run.ensures in
    record {
      told = own.0;
      is_told = subst (λ l. IsTold c.args.macs.now c.args.of_copy.now c.args.point l own.0) c.as_slice.ensures.value own.1;
      is = kept_same _ _ _ _ _ _ own.2 c.in_ok-going.ensures.seen c.in_ok-going.ensures.is_of;
    }
