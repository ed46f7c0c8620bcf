use Rattle.std.proofs.Common.{rules, ◌≡◌, ◌<◌, ◌∙◌, [], ap, arith, length, map, slice_index_or, sym}
use Rattle.std.proofs.lemmas.List.{get_or-map, length-map}
use Rattle.hsr_run_laws.specs.Run.{Run}
use Rattle.hsr_routes.specs.Started.{AreStarting}
use Rattle.hsr_routes.proofs.Started.{starting_at, starting_many}
use Rattle.hsr_routes.proofs.search.Routes.starting.Goals as goal

pub index-requires : goal.index-requires
index-requires c =
    let run : Run = c.args.self.now in
    let is : AreStarting run (map (λ channels. channels.items) c.self.inside.starting.items) = search rules in
    let many = starting_many run (map (λ channels. channels.items) c.self.inside.starting.items) is in
    let long = length-map c.self.inside.starting.items (λ channels. channels.items) in
    let below : c.args.node < length run.places = c.requires in
    omega (arith, below, many, long)

pub returns-clause-channels : goal.returns-clause-channels
returns-clause-channels c =
    let run : Run = c.args.self.now in
    let all = c.self.inside.starting.items in
    let is : AreStarting run (map (λ channels. channels.items) all) = search rules in
    let below : c.args.node < length run.places = c.requires in
    let many = starting_many run (map (λ channels. channels.items) all) is in
    let long = length-map all (λ channels. channels.items) in
    let here : c.args.node < length all = omega (arith, below, many, long) in
    let at : slice_index_or (map (λ channels. channels.items) all) c.args.node [] ≡ (slice_index_or all c.args.node c.index.result.now).items = get_or-map (λ channels. channels.items) all c.args.node c.index.result.now [] here in
    c.as_slice.ensures.value ∙ (ap (λ channels. channels.items) c.index.ensures ∙ (sym at ∙ starting_at run (map (λ channels. channels.items) all) c.args.node [] is below))
