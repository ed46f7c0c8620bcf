use Rattle.std.proofs.Common.{rules, ◌≡◌, ◌<◌, Bool, true, false, List, length, sym, ◌∙◌}
use Rattle.hsr_plays.specs.Conditions.{is_covered_send}
use Rattle.hsr_plays.specs.declared.span.SendSpan.{SendSpan}
use Rattle.hsr_routes.specs.Routes.{bare}
use Rattle.hsr_certify.proofs.Seeking.{seek_found, seek_more}
use Rattle.hsr_certify.proofs.covering.first_uncovered.Goals as goal

pub returns-then-not-is_covered_send : goal.returns-then-not-is_covered_send
returns-then-not-is_covered_send c =
    let spans : List SendSpan = c.args.spans.now in
    let passes : SendSpan → Bool = is_covered_send (bare c.args.topology.now.places c.args.topology.now.links) in
    let below : c.loop-i.i < length spans = search rules in
    let is : c.is_covered_send.result ≡ false = search rules in
    seek_found passes spans c.loop-i.i c.index-spans-i.result below c.index-spans-i.is c.loop-i.invariant (sym c.is_covered_send.ensures ∙ is)

pub loop-i-preserved : goal.loop-i-preserved
loop-i-preserved c =
    let spans : List SendSpan = c.args.spans.now in
    let passes : SendSpan → Bool = is_covered_send (bare c.args.topology.now.places c.args.topology.now.links) in
    let below : c.loop-i.i < length spans = search rules in
    let is : c.is_covered_send.result ≡ true = search rules in
    seek_more passes spans c.loop-i.i c.index-spans-i.result below c.index-spans-i.is c.loop-i.invariant (sym c.is_covered_send.ensures ∙ is)
