use Rattle.std.proofs.Common.{◌+◌, ◌∙◌, ap, arith, false, length}
use Rattle.std.proofs.lemmas.List.{length_push}
use Rattle.std.proofs.lemmas.Option.{slice_get-get_or}
use Rattle.hsr_health.proofs.Loading.{few_bits, loads_more}
use Rattle.hsr_health.proofs.load.loads_of.Goals as goal

pub loop-i-preserved : goal.loop-i-preserved
loop-i-preserved c =
    let looked = c.args.looked_at.now in
    let packets = c.args.packets.now in
    let i = c.loop-i.i in
    record {
      long = ap length c.in_ok-push.ensures.items ∙ length_push c.loop-i.loads.items _ ∙ ap (λ n. n + 1) c.loop-i.invariant.long;
      loads = loads_more looked packets c.loop-i.loads.items _ i _ _ c.loop-i.invariant.long (slice_get-get_or looked i false c.loop-i-test.true) c.in_ok-push.ensures.items (c.in_ok-load_at.ensures (few_bits i packets (omega arith)))
          c.loop-i.invariant.loads;
    }
