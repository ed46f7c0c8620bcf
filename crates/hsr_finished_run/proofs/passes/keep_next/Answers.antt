use Rattle.std.proofs.Common.{◌≡◌, ℕ, refl, ◌+◌, ◌++◌, [], ◌∷◌, List, get_or, set, sym, subst, ap, ◌∙◌}
use Rattle.std.proofs.lemmas.List.{get_or_read_under}
use Rattle.hsr_node.specs.declared.entry.Receipt.{Receipt}
use Rattle.hsr_node.specs.declared.entry.Entry.{Entry}
use Rattle.hsr_node.specs.Kept.{Receipts}
use Rattle.hsr_finished_run.specs.Next.{IsNext, holds_from}
use Rattle.hsr_finished_run.specs.Passes.{IsKeptNext}
use Rattle.hsr_finished_run.proofs.Keeping.{keeps, over, stops}
use Rattle.hsr_finished_run.proofs.passes.keep_next.Goals as goal

pub returns-clause-kept : goal.returns-clause-kept
returns-clause-kept g c is =
    let node = c.args.planned.now.node in
    let before = c.args.pass.now.receipts in
    let e = c.index-kept-node.result in
    let x = c.index-entries-place.result in
    let place = c.in-Some.place in
    let entries_are : c.entries-entries.result.now ≡ e.entries = c.entries-entries.ensures.entries in
    let N : List Entry → Type 0 = λ xs. IsNext 0 xs c.index.result.now place in
    let S : List Entry → Type 0 = λ xs. x ≡ get_or xs place x in
    let made = c.in_ok-receipt_of.ensures in
    let put = ap (λ (p : Receipts). p.receipts) c.in_ok-add_receipt.ensures in
    let P : List Receipt → Type 0 = λ after. IsKeptNext c.args.kept.now c.args.planned.now c.args.next.now.items (set c.args.next.now.items node (place + 1)) before after in
    subst P (ap (λ (r : Receipt). before ++ r ∷ []) (sym made) ∙ sym put)
    (keeps c.args.kept.now c.args.next.now.items c.args.planned.now e c.index.result.now c.requires c.if-node-kept.false c.index-kept-node.is (get_or_read_under c.args.next.now.items node _ c.index.result.now 0 c.index.ensures c.if-node-kept.false (sym c.requires))
    place x before (subst N entries_are c.in-Some.ensures) (subst S entries_are c.index-entries-place.is))

pub returns-in_default-clause-stops : goal.returns-in_default-clause-stops
returns-in_default-clause-stops g c is below rest =
    let e = c.index-kept-node.result in
    let entries_are : c.entries-entries.result.now ≡ e.entries = c.entries-entries.ensures.entries in
    let N : List Entry → Type 0 = λ xs. holds_from 0 xs c.index.result.now ≡ [] in
    stops c.args.kept.now c.args.next.now.items c.args.planned.now e c.index.result.now c.requires below c.index-kept-node.is
    (get_or_read_under c.args.next.now.items c.args.planned.now.node _ c.index.result.now 0 c.index.ensures below (sym c.requires))
    (subst N entries_are c.in_default.ensures) rest

pub returns-in_default-clause-over : goal.returns-in_default-clause-over
returns-in_default-clause-over g c is =
    let e = c.index-kept-node.result in
    let entries_are : c.entries-entries.result.now ≡ e.entries = c.entries-entries.ensures.entries in
    let N : List Entry → Type 0 = λ xs. holds_from 0 xs c.index.result.now ≡ [] in
    let below = c.if-node-kept.false in (
      refl {A = List ℕ},
      refl {A = List Receipt},
      over c.args.kept.now c.args.next.now.items c.args.planned.now e c.index.result.now c.requires below c.index-kept-node.is
          (get_or_read_under c.args.next.now.items c.args.planned.now.node _ c.index.result.now 0 c.index.ensures below (sym c.requires))
          (subst N entries_are c.in_default.ensures),
    )
