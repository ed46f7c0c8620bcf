use Rattle.std.proofs.Common.{◌≡◌, ◌+◌, ◌∙◌, ap, arith, length, subst, sym}
use Rattle.std.proofs.lemmas.List.{length-append, length_push}
use Rattle.std.specs.Prelude.{option_to_list}
use Rattle.std.proofs.lemmas.Option.{same_Some}
use Rattle.hsr_plan_report.specs.declared.sent.Sent.{Sent}
use Rattle.hsr_plan_report.specs.StreamRows.{EachNoted, rows_for}
use Rattle.hsr_plan_report.proofs.Rows.{have_last, have_more}
use Rattle.hsr_plan_report.proofs.streams.rows_of.Goals as goal

pub loop-number-preserved : goal.loop-number-preserved
loop-number-preserved c =
    let all = c.args.all.now in
    let nodes = length c.args.nodes.now in
    let rows = c.loop-number.rows.items in
    record {
      long = ap length c.in_ok-push.ensures.items ∙ length_push rows _ ∙ ap (λ n. n + 1) c.loop-number.invariant.long;
      have = subst (EachNoted all nodes) (sym c.in_ok-push.ensures.items)
          (have_more all nodes rows c.loop-number.number _ _ c.loop-number.invariant.long c.in_ok-noted.ensures c.in_ok-stream_row.ensures c.loop-number.invariant.have);
    }

pub returns : goal.returns
returns c =
    let all = c.args.all.now in
    let nodes = length c.args.nodes.now in
    let rows = c.loop-number.rows.items in
    let last = length c.args.streams.now in
    let long : length rows ≡ last = omega arith in
    let life = c.in_ok-life.life in
    record {
      many = λ sent here. ap length c.in_ok-push_some.ensures ∙ length-append rows (option_to_list life) ∙ ap (λ n. n + length (option_to_list life)) long
          ∙ ap (λ n. last + n) c.in_ok-life.ensures.many ∙ ap (λ (own : Sent). last + rows_for own.sends) (same_Some c.in_ok-noted-2.noted.sent sent (sym c.in_ok-noted-2.ensures.sent ∙ here));
      each = subst (EachNoted all nodes) (sym c.in_ok-push_some.ensures)
          (have_last all nodes rows last _ _ long c.in_ok-noted-2.ensures c.in_ok-life.ensures.row c.loop-number.invariant.have);
    }
