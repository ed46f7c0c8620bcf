use Rattle.std.proofs.Common.{◌≡◌, ◌*◌, ◌++◌, ◌∷◌, [], List, ℕ, map, length, ap, sym, ◌∙◌, arith}
use Rattle.std.specs.List.{range_with_len}
use Rattle.std.proofs.lemmas.Grind.{common_steps}
use Rattle.std.proofs.lemmas.List.{length-map}
use Rattle.std.proofs.lemmas.List.FromFn.{map-range_with_len_more}
use Rattle.hsr_node.specs.Kept.{Record}
use Rattle.hsr_world_links.specs.Ports.{places_of, port_at}
use Rattle.hsr_world_links.specs.Views.{span_view}
use Rattle.hsr_world_links.specs.declared.port.Port.{Port}
use Rattle.hsr_world_links.proofs.port.new_ports.Goals as goal

pub loop-number-preserved : goal.loop-number-preserved
loop-number-preserved g c =
    let f : ℕ → Port = port_at (places_of c.args.nodes.now) (map span_view c.args.spans.now) in
    let pushed = c.push.ensures.items in
    let before : List Port = c.loop-number.all.items in
    let more : c.push.new.self.items ≡ before ++ c.port_at.result ∷ [] = grind (arith, common_steps) in
    more ∙ ap (λ (p : Port). before ++ p ∷ []) c.port_at.ensures ∙ ap (λ (ps : List Port). ps ++ f c.loop-number.number ∷ []) c.loop-number.invariant
    ∙ sym (map-range_with_len_more f 0 c.loop-number.number c.loop-number.number (omega arith))

pub returns : goal.returns
returns g c =
    let f : ℕ → Port = port_at (places_of c.args.nodes.now) (map span_view c.args.spans.now) in
    let long : c.loop-number.number ≡ 8 * length c.args.nodes.now = omega arith in
    c.loop-number.invariant ∙ ap (λ (n : ℕ). map f (range_with_len 0 n)) (long ∙ ap (λ (n : ℕ). 8 * n) (sym (length-map c.args.nodes.now (λ (r : Record). r.place))))
