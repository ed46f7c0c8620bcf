use Rattle.std.proofs.Common.{sym, arith}
use Rattle.hsr_link.proofs.Waiting.{copy_at_front, index_of_first, turned_none, turned_set, waiting_turned}
use Rattle.hsr_link.proofs.queue.turn_first.Goals as goal

pub returns-in_default-clause-copy : goal.returns-in_default-clause-copy
returns-in_default-clause-copy c = copy_at_front c.args.dir c.args.rows.now _ _ c.requires.holds c.in_default.ensures.value

pub returns-in_default-clause-rows : goal.returns-in_default-clause-rows
returns-in_default-clause-rows c =
    let spot = rw c.requires.holds at c.in_default.ensures.value in
    sym (turned_none c.args.dir c.args.fate 0 c.args.rows.now (sym spot))

pub bounds-rows-index : goal.bounds-rows-index
bounds-rows-index c =
    let spot = rw c.requires.holds at c.in-Some.ensures.value in
    let range = index_of_first c.args.dir 0 c.args.rows.now _ (sym spot) in
    omega arith

pub bounds-rows-index-in-Some : goal.bounds-rows-index-in-Some
bounds-rows-index-in-Some c =
    let spot = rw c.requires.holds at c.in-Some.ensures.value in
    let range = index_of_first c.args.dir 0 c.args.rows.now _ (sym spot) in
    omega arith

pub offset_bounds-rows-index : goal.offset_bounds-rows-index
offset_bounds-rows-index c =
    let spot = rw c.requires.holds at c.in-Some.ensures.value in
    let range = index_of_first c.args.dir 0 c.args.rows.now _ (sym spot) in
    omega arith

pub returns-clause-copy : goal.returns-clause-copy
returns-clause-copy c = copy_at_front c.args.dir c.args.rows.now _ _ c.requires.holds c.in-Some.ensures.value

pub returns-clause-rows : goal.returns-clause-rows
returns-clause-rows c =
    let spot = rw c.requires.holds at c.in-Some.ensures.value in
    turned_set c.args.dir c.args.fate 0 _ c.args.rows.now _ c.index-rows-index.result (sym spot) (omega arith)

pub returns-clause-queue : goal.returns-clause-queue
returns-clause-queue c =
    let spot = rw c.requires.holds at c.in-Some.ensures.value in
    let set = turned_set c.args.dir c.args.fate 0 c.in-Some.field-0.index c.args.rows.now _ c.index-rows-index.result (sym spot) (omega arith) in
    rw (c.in-Some.ensures.items, set, waiting_turned c.args.dir c.args.fate 0 c.args.rows.now c.requires.ends, c.requires.holds)
