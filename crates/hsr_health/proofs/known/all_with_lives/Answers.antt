use Rattle.std.proofs.Common.{◌+◌, ◌∙◌, ap, arith, get_or, length}
use Rattle.std.proofs.lemmas.List.{length_push}
use Rattle.std.proofs.lemmas.Option.{slice_get-get_or}
use Rattle.hsr_health.specs.Counted.{no_counts}
use Rattle.hsr_health.proofs.Living.{alike_pushed, lives_pushed}
use Rattle.hsr_health.proofs.known.all_with_lives.Goals as goal

pub loop-k-preserved : goal.loop-k-preserved
loop-k-preserved c =
    let counts = c.args.counts.now in
    let lives = c.args.lives.now in
    let k = c.loop-k.k in
    let own = get_or counts k no_counts in
    let its = get_or lives k no_counts in
    let own_k = slice_get-get_or counts k no_counts (omega arith) in
    let its_k = slice_get-get_or lives k no_counts (omega (arith, c.requires)) in
    record {
      long = ap length c.in_ok-push.ensures.items ∙ length_push c.loop-k.all.items _ ∙ ap (λ n. n + 1) c.loop-k.invariant.long;
      alike = alike_pushed counts c.loop-k.all.items _ k _ own its c.loop-k.invariant.long c.in_ok-push.ensures.items own_k c.with_lives.ensures c.loop-k.invariant.alike;
      lives = lives_pushed lives c.loop-k.all.items _ k _ own its c.loop-k.invariant.long c.in_ok-push.ensures.items its_k c.with_lives.ensures c.loop-k.invariant.lives;
    }
