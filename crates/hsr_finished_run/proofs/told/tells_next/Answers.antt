use Rattle.std.proofs.Common.{◌≡◌, [], List, get_or, refl, sym, subst}
use Rattle.std.proofs.lemmas.Bool.{false≢true}
use Rattle.std.proofs.lemmas.List.{get_or_read_under}
use Rattle.hsr_node.specs.declared.entry.Entry.{Entry}
use Rattle.hsr_finished_run.specs.Next.{IsNext, holds_from}
use Rattle.hsr_finished_run.proofs.Telling.{ends, is_of, tells}
use Rattle.hsr_finished_run.proofs.told.tells_next.Goals as goal

pub returns-in_default-clause-other : goal.returns-in_default-clause-other
returns-in_default-clause-other g c is =
    let N : List Entry → Type 0 = λ xs. holds_from 0 xs c.index.result.now ≡ [] in
    ends c.args.kept.now c.args.next.now.items c.args.planned.now c.index-kept-node.result c.index.result.now c.requires c.if-node-kept.false c.index-kept-node.is
    (get_or_read_under c.args.next.now.items c.args.planned.now.node _ c.index.result.now 0 c.index.ensures c.if-node-kept.false (sym c.requires))
    (subst N c.entries-entries.ensures.entries c.in_default.ensures)

pub returns-then-not-is_of-clause-other : goal.returns-then-not-is_of-clause-other
returns-then-not-is_of-clause-other g c is rest h =
    let place = c.in-Some.place in
    let x = c.index-entries-place.result in
    let N : List Entry → Type 0 = λ xs. IsNext 0 xs c.index.result.now place in
    let S : List Entry → Type 0 = λ xs. x ≡ get_or xs place x in
    absurd (false≢true (c.if-not-is_of.ensures.1
    (is_of c.args.kept.now c.args.next.now.items c.args.planned.now c.index-kept-node.result c.index.result.now c.requires c.if-node-kept.false c.index-kept-node.is
    (get_or_read_under c.args.next.now.items c.args.planned.now.node _ c.index.result.now 0 c.index.ensures c.if-node-kept.false (sym c.requires))
    place x (subst N c.entries-entries.ensures.entries c.in-Some.ensures) (subst S c.entries-entries.ensures.entries c.index-entries-place.is) rest h)))

pub returns-clause-tells : goal.returns-clause-tells
returns-clause-tells g c is rest =
    let place = c.in-Some.place in
    let x = c.index-entries-place.result in
    let N : List Entry → Type 0 = λ xs. IsNext 0 xs c.index.result.now place in
    let S : List Entry → Type 0 = λ xs. x ≡ get_or xs place x in
    tells c.args.kept.now c.args.next.now.items c.args.planned.now c.index-kept-node.result c.index.result.now c.requires c.if-node-kept.false c.index-kept-node.is
    (get_or_read_under c.args.next.now.items c.args.planned.now.node _ c.index.result.now 0 c.index.ensures c.if-node-kept.false (sym c.requires))
    place x (subst N c.entries-entries.ensures.entries c.in-Some.ensures) (subst S c.entries-entries.ensures.entries c.index-entries-place.is) (c.if-not-is_of.ensures.0 refl) rest
