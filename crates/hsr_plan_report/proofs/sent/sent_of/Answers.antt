use Rattle.std.proofs.Common.{◌∙◌, ap, arith, false, get_or}
use Rattle.std.proofs.lemmas.Option.{slice_get-get_or}
use Rattle.hsr_plan_report.specs.Streams.{row_of}
use Rattle.hsr_plan_sweep.specs.declared.counting.Outcome.{Outcome}
use Rattle.hsr_plan_report.proofs.Sending.{sent_more}
use Rattle.hsr_plan_report.proofs.sent.sent_of.Goals as goal

pub loop-index-preserved : goal.loop-index-preserved
loop-index-preserved c =
    let outcomes = c.args.outcomes.now in
    let i = c.loop-index.index in
    let d : Outcome = record { missed = false; twice = false; strayed = false } in
    record {
      long = c.count_at.ensures.long ∙ c.loop-index.invariant.long;
      sent = sent_more c.args.streams.now c.args.last i c.row_of-row.result outcomes (get_or outcomes i d) c.is_complete.result c.loop-index.sent.items c.count_at.new.sent.items
          (slice_get-get_or outcomes i d c.loop-index-test.true) (omega arith) (c.row_of-row.ensures ∙ ap (row_of c.args.last) c.stream_at.ensures) c.is_complete.ensures c.count_at.ensures
          c.loop-index.invariant.sent;
    }
