use Rattle.std.proofs.Common.{rules, ◌≡◌, ◌<◌, ◌≤◌, ◌∙◌, ℕ, List, length, ap, sym, subst, true}
use Rattle.std.specs.Prelude.{◌↔◌}
use Rattle.hsr_bitset.specs.Numbers.{has}
use Rattle.hsr_run_laws.specs.Run.{Run}
use Rattle.hsr_topology.specs.Wired.{IsWired}
use Rattle.hsr_routes.specs.Numbered.{is_in}
use Rattle.hsr_routes.specs.Routes.{IsLedTo, bare, heading, sender_at}
use Rattle.hsr_plays.specs.declared.span.SendSpan.{SendSpan}
use Rattle.hsr_certify.specs.Served.{AreAvoidedBelow, first_missed_from}
use Rattle.hsr_certify.proofs.Serves.{unled_is}
use Rattle.hsr_certify.proofs.serving.first_unled.Goals as goal

pub avoided-avoid-requires : goal.avoided-avoid-requires
avoided-avoid-requires c =
    let net : Run = bare c.args.topology.now.places c.args.topology.now.links in
    let wired : IsWired net.places net.links = search rules in
    let is : c.links.result.now ≡ net.links = search rules in
    record { few = subst (λ links. length links ≤ 128) (sym is) wired.few_links; down = c.down_in-down.ensures }

pub reached-nodes-requires : goal.reached-nodes-requires
reached-nodes-requires c = record { sender = subst (λ (net : Run). c.args.span.now.asked.node < length net.places) (sym c.requires.routes) c.requires.sender }

pub first_missed-requires : goal.first_missed-requires
first_missed-requires c =
    let net : Run = bare c.args.topology.now.places c.args.topology.now.links in
    let wired : IsWired net.places net.links = search rules in
    let is : c.places.result.now ≡ net.places = search rules in
    subst (λ places. length places ≤ 64) (sym is) wired.few_places

pub returns : goal.returns
returns c =
    let net : Run = bare c.args.topology.now.places c.args.topology.now.links in
    let span : SendSpan = c.args.span.now in
    let nodes : List ℕ = c.reached-nodes.result in
    let links : c.links.result.now ≡ net.links = search rules in
    let places : c.places.result.now ≡ net.places = search rules in
    let avoided : AreAvoidedBelow c.args.orders.now span (length net.links) c.avoided-avoid.result =
    subst (λ links. AreAvoidedBelow c.args.orders.now span (length links) c.avoided-avoid.result) links c.avoided-avoid.ensures in
    let reached = subst (λ (run : Run). (k : ℕ) → k < length run.places → (has nodes k ≡ true) ↔ IsLedTo run (sender_at span.asked.node) (heading span.asked.dst span.asked.kind) (is_in c.avoided-avoid.result) k) c.requires.routes c.reached-nodes.ensures in
    let is : c.first_missed.result ≡ first_missed_from span nodes 0 net.places = c.first_missed.ensures ∙ ap (first_missed_from span nodes 0) places in
    unled_is net c.args.orders.now span c.avoided-avoid.result nodes avoided reached c.first_missed.result is
