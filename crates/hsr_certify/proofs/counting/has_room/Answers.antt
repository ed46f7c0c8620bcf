use Rattle.std.proofs.Common.{rules, ◌≡◌, ◌+◌, ◌-◌, ◌≤◌, ◌∙◌, count_by, sym, arith, le-leb}
use Rattle.hsr_plays.specs.Spans.{is_open_at}
use Rattle.hsr_certify.proofs.Standing.{no_more}
use Rattle.hsr_certify.proofs.counting.has_room.Goals as goal

pub returns-then-saturating_sub-room : goal.returns-then-saturating_sub-room
returns-then-saturating_sub-room c =
    let few : c.saturating_sub.result ≤ c.args.room = search rules in
    let wide : c.saturating_sub.result ≡ c.args.window.high - c.args.window.low = search rules in
    let most = no_more (is_open_at (c.args.span.now.index + 1)) c.args.spans.now c.args.window.low c.args.window.high c.requires in
    le-leb c.saturating_sub.result c.args.room few ∙ sym (le-leb (count_by (is_open_at (c.args.span.now.index + 1)) c.args.spans.now) c.args.room (omega (arith, few, wide, most)))
