use Rattle.std.proofs.Common.{◌≡◌, ◌∙◌, ℕ, ap, arith, get_or, length, subst, take, Option}
use Rattle.std.proofs.Math.Seq.{take-length}
use Rattle.hsr_deliveries.specs.Delivered.{Delivery}
use Rattle.hsr_plan_report.specs.Missing.{AreMissing, Misses, misses}
use Rattle.hsr_plan_report.specs.Streams.{row_of}
use Rattle.hsr_plan_report.proofs.Absent.{missing_more}
use Rattle.hsr_plan_report.proofs.missing.missing_of.Goals as goal

pub loop-index-preserved : goal.loop-index-preserved
loop-index-preserved c =
    let a = c.args.audience.now in
    let ds = c.args.deliveries.now in
    let i = c.loop-index.index in
    let d = c.index-deliveries-index.result in
    let row = c.row_of-row.result in
    let old = c.loop-index.missing.items in
    let new = c.miss_at.new.missing.items in
    let M : Option ℕ → Delivery → Type 0 = λ stream delivery. Misses row (misses a stream delivery) old new in
    let more = subst (λ stream. M stream (get_or ds i d)) c.stream_at-stream.ensures (subst (M c.stream_at-stream.result) c.index-deliveries-index.is c.miss_at.ensures) in
    record {
      long = c.miss_at.ensures.long ∙ c.loop-index.invariant.long;
      missing = missing_more a c.args.streams.now c.args.last row ds i d old new c.loop-index-test.true (c.row_of-row.ensures ∙ ap (row_of c.args.last) c.stream_at-stream.ensures) more
          c.loop-index.invariant.missing;
    }

pub returns-clause-missing : goal.returns-clause-missing
returns-clause-missing c =
    let ds = c.args.deliveries.now in
    let end = c.loop-index.auto.index-end in
    let last = c.loop-index-test.false in
    let i : c.loop-index.index ≡ length ds = omega (arith, end, last) in
    subst (λ xs. AreMissing c.args.audience.now c.args.streams.now c.args.last xs c.loop-index.missing.items) (ap (λ n. take n ds) i ∙ take-length ds) c.loop-index.invariant.missing
