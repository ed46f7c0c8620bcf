use Rattle.std.proofs.Common.{ℕ, ◌∙◌, Some, get_or, refl, sym, ap, subst}
use Rattle.std.proofs.lemmas.Bool.{false≢true}
use Rattle.hsr_node.specs.Kept.{Record}
use Rattle.hsr_run_index.specs.Turns.{place_at}
use Rattle.hsr_finished_run.specs.Next.{IsNext}
use Rattle.hsr_finished_run.proofs.Coming.{is_next, next_more, one_entry, read_at}
use Rattle.hsr_finished_run.proofs.Idle.{one_of}
use Rattle.hsr_finished_run.proofs.receipts.comes_next.Goals as goal

pub returns-then-not-is_next-clause-wrong : goal.returns-then-not-is_next-clause-wrong
returns-then-not-is_next-clause-wrong g c is rest h =
    let kept = c.args.turns.now in
    let r = c.args.receipt.now in
    let next = is_next c.args.worker kept (place_at c.args.next.now) r rest h in
    let d : Record = one_of kept r.node next.0 in
    let from : ℕ → Type 0 = λ m. IsNext c.args.worker (get_or kept r.node d).entries m r.place in
    absurd (false≢true ((c.if-not-is_next.ensures.next d).1 (next.0, subst from (sym c.at-from.ensures) (next.1 d))))

pub returns-then-not-is_same-clause-wrong : goal.returns-then-not-is_same-clause-wrong
returns-then-not-is_same-clause-wrong g c is rest h =
    let e = c.index-kept-node.result in
    let next = (c.if-not-is_next.ensures.next e).0 refl in
    let there = read_at c.args.turns.now c.args.receipt.now c.kept.result.now e c.entries.result.now c.index-entries-place.result c.at-from.result c.args.worker next.0 next.1 c.kept.ensures c.index-kept-node.is
    c.entries.ensures.entries c.index-entries-place.is in
    absurd (false≢true (c.if-not-is_same.ensures.1 (one_entry h.shown.0 there)))

pub returns-clause-comes : goal.returns-clause-comes
returns-clause-comes g c is rest =
    let kept = c.args.turns.now in
    let r = c.args.receipt.now in
    let e = c.index-kept-node.result in
    let next = (c.if-not-is_next.ensures.next e).0 refl in
    let there = read_at kept r c.kept.result.now e c.entries.result.now c.index-entries-place.result c.at-from.result c.args.worker next.0 next.1 c.kept.ensures c.index-kept-node.is c.entries.ensures.entries
    c.index-entries-place.is in
    next_more c.args.worker kept (place_at c.args.next.now) (place_at c.put.new.self) r (there ∙ ap Some (sym (c.if-not-is_same.ensures.0 refl)))
    (λ d.
    let from : ℕ → Type 0 = λ m. IsNext c.args.worker (get_or kept r.node d).entries m r.place in
    subst from c.at-from.ensures ((c.if-not-is_next.ensures.next d).0 refl).1)
    c.in_ok-put.ensures.ok rest
