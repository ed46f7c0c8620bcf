use Rattle.std.proofs.Common.{◌∙◌, ℕ, List, Option, ap, position}
use Rattle.std.specs.Option.{option_and_then, option_or}
use Rattle.std.specs.Str.{bytes_eq}
use Rattle.hsr_timeline.specs.Fronts.{lists_of}
use Rattle.hsr_timeline.specs.Names.{unnamed}
use Rattle.hsr_timeline.proofs.Named.{place_same}
use Rattle.hsr_timeline.proofs.calling.node_called.Goals as goal

pub returns : goal.returns
returns c =
    let names : List (List ℕ) = lists_of c.args.names.now in
    let word : List ℕ = c.args.word.now in
    c.or.ensures
    ∙ (ap (λ (o : Option ℕ). option_or o c.unnamed.result) (c.node_with.ensures ∙ place_same c.args.names.now word)
    ∙ ap (λ (o : Option ℕ). option_or (position (λ name. bytes_eq name word) names) o) (c.unnamed.ensures ∙ ap (option_and_then (unnamed names)) c.number_called.ensures))
