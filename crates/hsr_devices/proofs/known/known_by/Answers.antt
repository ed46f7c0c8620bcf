use Rattle.std.proofs.Common.{◌≡◌, ◌+◌, ◌<◌, ◌∷◌, ◌∙◌, ℕ, List, length, map, reverse, take, slice_index_or, sym, ap, arith, rules, take_all}
use Rattle.std.specs.Prelude.{fold}
use Rattle.hsr_tables.specs.Known.{known}
use Rattle.hsr_tables.specs.Nodes.{Nodes, heard as node_heard}
use Rattle.hsr_tables.specs.Proxies.{Proxies}
use Rattle.hsr_table_demand.specs.Read.{heard_in, stations_of}
use Rattle.hsr_table_demand.proofs.Hearing.{stations_last}
use Rattle.hsr_finished_run.proofs.Places.{past_more}
use Rattle.hsr_node.specs.Record.{hearings_from, now, rows}
use Rattle.hsr_node.specs.declared.entry.Entry.{Entry}
use Rattle.hsr_node.specs.declared.place.Place.{Place}
use Rattle.hsr_devices.specs.Known.{nodes_of, stations_known}
use Rattle.hsr_devices.proofs.Hearing.{nodes_last, rows_same, stations_same}
use Rattle.hsr_devices.proofs.known.known_by.Goals as goal

pub hear_node-requires : goal.hear_node-requires
hear_node-requires c =
    let past : List Entry = reverse (take c.loop-i.i c.args.entries.now) in
    let last = nodes_last c.args.place.now past in
    let same = ap (λ (n : Nodes). n.last) c.loop-i.invariant.nodes in
    let moment = c.loop-i.invariant.moment in
    let most = c.max-at.ensures in
    omega (arith, last, same, moment, most)

pub hear-requires : goal.hear-requires
hear-requires c =
    let past : List Entry = reverse (take c.loop-i.i c.args.entries.now) in
    let last = stations_last c.args.place.now past in
    let same = ap (λ (s : Proxies). s.last) c.loop-i.invariant.stations in
    let moment = c.loop-i.invariant.moment in
    let most = c.max-at.ensures in
    omega (arith, last, same, moment, most)

pub loop-i-preserved : goal.loop-i-preserved
loop-i-preserved c =
    let place : Place = c.args.place.now in
    let entries : List Entry = c.args.entries.now in
    let i : ℕ = c.loop-i.i in
    let x : Entry = c.index-entries-i.result in
    let past : List Entry = reverse (take i entries) in
    let below : i < length entries = c.loop-i-test.true in
    let x_is : x ≡ slice_index_or entries i x = search rules in
    let more : reverse (take (i + 1) entries) ≡ x ∷ past = past_more entries i x below ∙ ap (λ (y : Entry). y ∷ past) (sym x_is) in
    let moment : c.max-at.result ≡ now (x ∷ past) = (let most = c.max-at.ensures in let before = c.loop-i.invariant.moment in omega (arith, most, before)) in
    let nodes : c.hear_node.new.nodes ≡ nodes_of place (x ∷ past) =
    c.hear_node.ensures
    ∙ (ap (λ (at : ℕ). fold node_heard c.loop-i.nodes (hearings_from place at x.event)) moment ∙ ap (λ (n : Nodes). fold node_heard n (hearings_from place (now (x ∷ past)) x.event)) c.loop-i.invariant.nodes) in
    let stations : c.hear.new.stations ≡ stations_of place (x ∷ past) =
    c.hear.ensures
    ∙ (ap (λ (at : ℕ). heard_in place at x.event c.loop-i.stations) moment ∙ ap (λ (s : Proxies). heard_in place (now (x ∷ past)) x.event s) c.loop-i.invariant.stations) in
    record {
      moment = moment ∙ ap now (sym more);
      nodes = nodes ∙ ap (nodes_of place) (sym more);
      stations = stations ∙ ap (stations_of place) (sym more);
    }

pub rows-requires : goal.rows-requires
rows-requires c =
    let past : List Entry = reverse (take c.loop-i.i c.args.entries.now) in
    let last = nodes_last c.args.place.now past in
    let same = ap (λ (n : Nodes). n.last) c.loop-i.invariant.nodes in
    let moment = c.loop-i.invariant.moment in
    omega (arith, last, same, moment)

pub list-requires : goal.list-requires
list-requires c =
    let past : List Entry = reverse (take c.loop-i.i c.args.entries.now) in
    let last = stations_last c.args.place.now past in
    let same = ap (λ (s : Proxies). s.last) c.loop-i.invariant.stations in
    let moment = c.loop-i.invariant.moment in
    omega (arith, last, same, moment)

pub returns-clause-nodes : goal.returns-clause-nodes
returns-clause-nodes c =
    let place : Place = c.args.place.now in
    let past : List Entry = reverse (take c.loop-i.i c.args.entries.now) in
    let whole : past ≡ reverse c.args.entries.now = ap reverse (take_all c.loop-i.i c.args.entries.now (search rules)) in
    c.rows.ensures
    ∙ (ap (λ (n : Nodes). map (λ r. r.0) (known c.loop-i.at n.rows)) c.loop-i.invariant.nodes
    ∙ (rows_same place past c.loop-i.at
    ∙ (ap (rows place past) c.loop-i.invariant.moment ∙ ap (λ (p : List Entry). rows place p (now p)) whole)))

pub returns-clause-stations : goal.returns-clause-stations
returns-clause-stations c =
    let place : Place = c.args.place.now in
    let past : List Entry = reverse (take c.loop-i.i c.args.entries.now) in
    let whole : past ≡ reverse c.args.entries.now = ap reverse (take_all c.loop-i.i c.args.entries.now (search rules)) in
    c.list.ensures
    ∙ (ap (λ (s : Proxies). known c.loop-i.at s.heard) c.loop-i.invariant.stations
    ∙ (ap (λ (at : ℕ). known at (stations_of place past).heard) c.loop-i.invariant.moment ∙ (stations_same place past ∙ ap (stations_known place) whole)))
