use Rattle.std.proofs.Common.{◌≡◌, ◌++◌, ◌∷◌, [], List, ℕ, map, ap, sym, ◌∙◌, arith}
use Rattle.std.proofs.lemmas.Grind.{common_steps}
use Rattle.std.proofs.lemmas.List.{map-append}
use Rattle.std.proofs.lemmas.List.FromFn.{map-range_with_len_more}
use Rattle.hsr_world_links.specs.Touching.{touching_from}
use Rattle.hsr_world_links.specs.Views.{span_view}
use Rattle.hsr_world_links.proofs.touching.new_touching.Goals as goal

pub loop-node-preserved : goal.loop-node-preserved
loop-node-preserved c =
    let f : ℕ → List ℕ = λ n. touching_from n 0 (map span_view c.args.spans.now) in
    let pushed = c.push.ensures.items in
    let before = c.loop-node.all.items in
    let more : c.push.new.self.items ≡ before ++ c.in_ok-links.links ∷ [] = grind (arith, common_steps) in
    ap (map (λ links. links.items)) more ∙ map-append (λ links. links.items) before (c.in_ok-links.links ∷ [])
    ∙ ap (λ (links : List ℕ). map (λ links. links.items) before ++ links ∷ []) c.in_ok-links.ensures
    ∙ ap (λ (all : List (List ℕ)). all ++ f c.loop-node.node ∷ []) c.loop-node.invariant
    ∙ sym (map-range_with_len_more f 0 c.loop-node.node c.loop-node.node (omega arith))
