use Rattle.std.proofs.Common.{◌≡◌, ◌++◌, ◌∷◌, [], List, ℕ, map, ap, sym, ◌∙◌, arith}
use Rattle.std.proofs.lemmas.Grind.{common_steps}
use Rattle.std.proofs.lemmas.List.{map-append}
use Rattle.std.proofs.lemmas.List.FromFn.{map-range_with_len_more}
use Rattle.hsr_network_laws.specs.Network.{Channel}
use Rattle.hsr_routes.specs.Started.{channels_from}
use Rattle.hsr_routes.proofs.starting.starting_in.Goals as goal

pub loop-node-preserved : goal.loop-node-preserved
loop-node-preserved c =
    let f : ℕ → List Channel = λ n. channels_from n 0 c.args.links.now in
    let pushed = c.push.ensures.items in
    let before = c.loop-node.all.items in
    let more : c.push.new.self.items ≡ before ++ c.in_ok-channels.channels ∷ [] = grind (arith, common_steps) in
    ap (map (λ channels. channels.items)) more ∙ map-append (λ channels. channels.items) before (c.in_ok-channels.channels ∷ [])
    ∙ ap (λ (channels : List Channel). map (λ channels. channels.items) before ++ channels ∷ []) c.in_ok-channels.ensures
    ∙ ap (λ (all : List (List Channel)). all ++ f c.loop-node.node ∷ []) c.loop-node.invariant
    ∙ sym (map-range_with_len_more f 0 c.loop-node.node c.loop-node.node (omega arith))
