use Rattle.std.proofs.Common.{rules, ◌<◌, ◌≤◌, ◌∙◌, ℕ, List, length, ap, arith, refl, subst, sym}
use Rattle.std.proofs.lemmas.Option.{slice_get_read}
use Rattle.hsr_run_laws.specs.Run.{Run}
use Rattle.hsr_routes.specs.Routes.{bare}
use Rattle.hsr_plays.specs.Spans.{is_cut_at}
use Rattle.hsr_plays.specs.declared.span.SendSpan.{SendSpan}
use Rattle.hsr_send_spans.specs.Down.{AreCutAt}
use Rattle.hsr_certify.proofs.Serves.{cut_found, served_more}
use Rattle.hsr_certify.proofs.serving.first_cut_off.Goals as goal

pub at-cuts-requires : goal.at-cuts-requires
at-cuts-requires c = c.loop-i.invariant.1

pub first_unled-requires : goal.first_unled-requires
first_unled-requires c =
    let spans : List SendSpan = c.args.spans.now in
    let below : c.loop-i.i < length spans = search rules in
    record {
      routes = c.in_ok-routes.ensures;
      sender = c.requires c.loop-i.i c.index-spans-i.result (slice_get_read spans (length spans) c.loop-i.i c.index-spans-i.result refl below c.index-spans-i.is);
      cuts = c.at-cuts.ensures.links;
    }

pub loop-i-init : goal.loop-i-init
loop-i-init c = (
  λ i span low. absurd (omega (arith, low)),
  λ link small. c.new-cuts.ensures.links link ∙ ap (λ (time : ℕ). is_cut_at c.args.orders.now time link) (sym c.new-cuts.ensures.time),
)

pub returns-in-Some : goal.returns-in-Some
returns-in-Some c =
    let net : Run = bare c.args.topology.now.places c.args.topology.now.links in
    let spans : List SendSpan = c.args.spans.now in
    let below : c.loop-i.i < length spans = search rules in
    cut_found net c.args.orders.now spans c.loop-i.i c.index-spans-i.result below c.index-spans-i.is c.loop-i.invariant.0 c.in-Some.node c.in-Some.ensures

pub loop-i-preserved : goal.loop-i-preserved
loop-i-preserved c =
    let net : Run = bare c.args.topology.now.places c.args.topology.now.links in
    let spans : List SendSpan = c.args.spans.now in
    let below : c.loop-i.i < length spans = search rules in (
      served_more net c.args.orders.now spans c.loop-i.i c.index-spans-i.result below c.index-spans-i.is c.loop-i.invariant.0 c.in_default.ensures,
      subst (λ (time : ℕ). AreCutAt c.args.orders.now time c.at-cuts.result.links) (sym c.at-cuts.ensures.time) c.at-cuts.ensures.links,
    )

pub returns : goal.returns
returns c = λ i span low listed. let all : length c.args.spans.now ≤ c.loop-i.i = search rules in c.loop-i.invariant.0 i span (omega (arith, low, all)) listed
