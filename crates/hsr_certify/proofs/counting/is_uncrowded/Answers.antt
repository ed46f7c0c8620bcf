use Rattle.std.proofs.Common.{rules, ◌≡◌, ◌-◌, ◌≤◌, ◌∙◌, count_by, sym, arith, le-leb}
use Rattle.hsr_plays.specs.Spans.{meets}
use Rattle.hsr_certify.proofs.Standing.{no_more}
use Rattle.hsr_certify.proofs.counting.is_uncrowded.Goals as goal

pub returns-then-saturating_sub-table : goal.returns-then-saturating_sub-table
returns-then-saturating_sub-table c =
    let few : c.saturating_sub.result ≤ c.args.table = search rules in
    let wide : c.saturating_sub.result ≡ c.args.window.high - c.args.window.low = search rules in
    let most = no_more (meets c.args.span.now) c.args.spans.now c.args.window.low c.args.window.high c.requires in
    le-leb c.saturating_sub.result c.args.table few ∙ sym (le-leb (count_by (meets c.args.span.now) c.args.spans.now) c.args.table (omega (arith, few, wide, most)))
