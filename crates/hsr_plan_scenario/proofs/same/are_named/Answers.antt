use Rattle.std.proofs.Common.{◌≡◌, ◌∙◌, IsTrue, List, ap, map, subst, sym, ℕ}
use Rattle.std.specs.Global.{Global}
use Rattle.std.specs.Prelude.{Vec, ◌↔◌}
use Rattle.hsr_plan_network.specs.Nodes.{Node}
use Rattle.hsr_scenario.specs.Names.{names_view}
use Rattle.hsr_plan_schedule.specs.Meaning.{Meaning}
use Rattle.hsr_plan_scenario.specs.Says.{named_with}
use Rattle.hsr_plan_scenario.proofs.Names.{named_same}
use Rattle.hsr_plan_scenario.proofs.same.are_named.Goals as goal

pub returns : goal.returns
returns c =
    let here = c.is_same_topology.ensures.0 c.if-not-is_same_topology.false in
    let listed = c.are_same_names.ensures.0 c.if-not-are_same_names.false in
    let so =
    sym (ap (λ (names : List (Vec ℕ Global)). map (λ name. name.items) names) c.as_slice.ensures.value) ∙ listed
    ∙ ap (λ (nodes : List Node). map (λ node. node.name) nodes) c.as_slice-2.ensures.value
    in
    let S : List (Vec (Vec ℕ Global) Global) → Type 0 =
    λ lists. IsTrue c.are_same_streams.result
    ↔ (map (λ list. map (λ name. name.items) list.items) lists ≡ map (λ list. map (λ name. name.items) list.items) c.args.streams.now)
    in
    let M : Meaning → Type 0 =
    λ m. IsTrue c.are_same_streams.result ↔ (names_view c.args.names.now ≡ named_with m (map (λ list. map (λ name. name.items) list.items) c.args.streams.now))
    in
    subst M c.meaning.view_is (named_same (names_view c.args.names.now) _ _ _ _ here so (subst S c.as_slice-3.ensures.value c.are_same_streams.ensures))
