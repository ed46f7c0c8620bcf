use Rattle.std.proofs.Common.{ap, arith, refl, sym, ◌∙◌}
use Rattle.std.proofs.lemmas.Option.{same_Some, slice_get_read, slice_get_within}
use Rattle.hsr_heard.specs.Finding.{key_of}
use Rattle.hsr_heard.proofs.Sorted.{run_made, same_more}
use Rattle.hsr_heard.proofs.abouts.end_of_run.Goals as goal

pub returns-then-key_of-own : goal.returns-then-key_of-own
returns-then-key_of-own c =
    let copies = c.args.copies.now in
    let here = slice_get_read copies _ c.loop-k.k c.index-copies-k.result refl (omega (arith, c.loop-k-test.true)) c.index-copies-k.is in
    run_made copies c.args.from c.loop-k.k c.key_of-own.result c.index-copies-from.result (slice_get_read copies _ c.args.from _ refl (omega (arith, c.requires)) c.index-copies-from.is) c.loop-k.invariant.more
    (omega (arith, c.loop-k-test.true)) c.key_of-own.ensures.number c.key_of-own.ensures.address c.loop-k.invariant.same
    (λ one at_end is. c.if-key_of-own.true (c.key_of.ensures.number ∙ ap key_of (same_Some c.index-copies-k.result one (sym here ∙ at_end)) ∙ is))

pub loop-k-preserved : goal.loop-k-preserved
loop-k-preserved c =
    let copies = c.args.copies.now in
    record {
      more = omega (arith, c.loop-k.invariant.more);
      same = same_more copies c.args.from c.loop-k.k c.key_of-own.result c.index-copies-k.result (slice_get_read copies _ c.loop-k.k _ refl (omega (arith, c.loop-k-test.true)) c.index-copies-k.is)
          (sym c.key_of.ensures.number ∙ c.if-key_of-own.false) c.key_of.ensures.address c.loop-k.invariant.same;
    }

pub returns : goal.returns
returns c =
    let copies = c.args.copies.now in
    run_made copies c.args.from _ c.key_of-own.result c.index-copies-from.result (slice_get_read copies _ c.args.from _ refl (omega (arith, c.requires)) c.index-copies-from.is) (omega (arith, c.requires))
    (omega arith) c.key_of-own.ensures.number c.key_of-own.ensures.address
    (λ k one least below at_k. c.loop-k.invariant.same k one least (omega (arith, slice_get_within copies k one at_k, c.loop-k-test.false)) at_k)
    (λ one at_end is. let within = slice_get_within copies _ one at_end in absurd (omega (arith, within)))
