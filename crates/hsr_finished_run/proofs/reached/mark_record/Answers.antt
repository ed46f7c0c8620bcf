use Rattle.std.proofs.Common.{◌≡◌, ℕ, [], ap, arith}
use Rattle.hsr_node.specs.declared.entry.Entry.{Entry}
use Rattle.hsr_finished_run.specs.Next.{holds_from}
use Rattle.hsr_finished_run.proofs.Idle.{below_in}
use Rattle.hsr_run_index.specs.Turns.{IsPassed}
use Rattle.hsr_finished_run.proofs.Reaching.{marked_as, passed_all}
use Rattle.hsr_finished_run.proofs.reached.mark_record.Goals as goal

pub mark_entry-requires : goal.mark_entry-requires
mark_entry-requires c =
    let low = below_in c.args.entries.now c.loop-place.place c.index-entries-place.result c.loop-place-test.true in
    let is = ap (λ (x : Entry). x.worker) c.index-entries-place.is in
    let most = c.requires in
    let count = c.loop-place.invariant.count in
    omega (arith, low, is, most, count)

pub returns : goal.returns
returns c =
    let entries = c.args.entries.now in
    let node = c.args.node in
    let past = c.loop-place-test.false in
    let end = c.loop-place.auto.place-end in
    marked_as (λ (w : ℕ) (next : ℕ → ℕ). IsPassed entries w (next node) c.loop-place.place) (λ (w : ℕ) (next : ℕ → ℕ). holds_from w entries (next node) ≡ [])
    c.args.all.now.items c.loop-place.all.items
    (λ w next.
    let all = passed_all entries w (next node) in
    (λ h. all.0 (λ p d below. h p d (omega (arith, below, past))), λ none p d below. all.1 none p d (omega (arith, below, end))))
    c.loop-place.invariant
