use Rattle.std.proofs.Common.{rules, ◌≡◌, ◌≢◌, ◌≤◌, ◌<◌, ◌∙◌, ap, sym, length, map, take, get_or, ◌∷◌, ◌++◌}
use Rattle.hsr_plan_scenario.proofs.Names.{items, names_differ, names_step, names_whole}
use Rattle.hsr_plan_scenario.proofs.same.are_same_names.Goals as goal

pub loop-name-preserved : goal.loop-name-preserved
loop-name-preserved c =
    let names = c.args.names.now in
    let i = c.loop-name.name-index in
    let name = c.name-item.result in
    let node = c.in-Some.node.now in
    let others = map (λ other. other.name) c.in-Some.more.now in
    let below : i < length names = search rules in
    let left : c.loop-name.left.now ≡ node ∷ c.in-Some.more.now = search rules in
    let same : name.items ≡ node.name = search rules in
    let here : get_or names i name ≡ name = search rules in
    names_step names others i name below
    ∙ ap (λ rest. map (λ one. one.items) (take i names) ++ rest)
    (ap (λ first. first ∷ others) (ap (λ one. one.items) here ∙ same) ∙ sym (ap (map (λ other. other.name)) left))
    ∙ c.loop-name.invariant

pub returns-then-ne : goal.returns-then-ne
returns-then-ne c =
    let names = c.args.names.now in
    let i = c.loop-name.name-index in
    let name = c.name-item.result in
    let node = c.in-Some.node.now in
    let others = map (λ other. other.name) c.in-Some.more.now in
    let below : i < length names = search rules in
    let left : c.loop-name.left.now ≡ node ∷ c.in-Some.more.now = search rules in
    let differs : name.items ≢ node.name = search rules in
    let here : get_or names i name ≡ name = search rules in
    let front = ap (λ rest. map items (take i names) ++ map (λ other. other.name) rest) (sym left) ∙ c.loop-name.invariant in
    let other : (get_or names i name).items ≢ node.name = λ e. differs (sym (ap items here) ∙ e) in
    (λ never. absurd cc, λ same. absurd (names_differ names c.args.nodes.now others i name node.name below front other same))

pub returns : goal.returns
returns c =
    let all : length c.args.names.now ≤ c.loop-name.name-index = search rules in
    names_whole c.args.names.now c.loop-name.left.now c.args.nodes.now c.loop-name.name-index c.is_empty.result all c.loop-name.invariant c.is_empty.ensures
