use Rattle.std.proofs.Common.{rules, ◌≡◌, ◌+◌, ◌≤◌, List, Option, max, reverse, take, subst, arith}
use Rattle.hsr_node.specs.declared.entry.Entry.{Entry}
use Rattle.hsr_node.specs.declared.event.Probe.{Probe}
use Rattle.hsr_run_laws.specs.Run.{Run, record_of}
use Rattle.hsr_tables.specs.Proxies.{is_known}
use Rattle.hsr_audit.specs.Missed.{IsLowest, IsUnknownOf}
use Rattle.hsr_audit.proofs.Missing.{heard_more, heard_up_to, missed_more}
use Rattle.hsr_audit.proofs.missed.missed_by.Goals as goal

pub hear-requires : goal.hear-requires
hear-requires g c =
    let run : Run = c.args.closed.now.run in
    let past : List Entry = reverse (take c.loop-place.place (record_of run c.args.node)) in
    let up : c.loop-place.stations.last ≤ c.loop-place.moment = heard_up_to run c.args.node past c.loop-place.stations c.loop-place.moment c.loop-place.invariant.stations c.loop-place.invariant.moment in
    let later : c.max-moment.result ≡ max c.loop-place.moment c.x-item.result.at = search rules in
    omega (arith, up, later)

pub unknown_of-requires : goal.unknown_of-requires
unknown_of-requires g c =
    let run : Run = c.args.closed.now.run in
    let x : Entry = c.x-item.result in
    let heard = heard_more run c.args.node c.loop-place.place x c.index-places-node.result c.loop-place.stations c.hear.new.stations c.loop-place.moment c.max-moment.result c.requires (search rules) (search rules) (search rules) (search rules) c.hear.ensures c.loop-place.invariant.moment c.loop-place.invariant.stations in
    (omega arith, (c.requires, heard_up_to run c.args.node (reverse (take (c.loop-place.place + 1) (record_of run c.args.node))) c.hear.new.stations c.max-moment.result heard.stations_is heard.moment_is))

pub loop-place-preserved : goal.loop-place-preserved
loop-place-preserved g c =
    let run : Run = c.args.closed.now.run in
    let x : Entry = c.x-item.result in
    let heard = heard_more run c.args.node c.loop-place.place x c.index-places-node.result c.loop-place.stations c.hear.new.stations c.loop-place.moment c.max-moment.result c.requires (search rules) (search rules) (search rules) (search rules) c.hear.ensures c.loop-place.invariant.moment c.loop-place.invariant.stations in
    let F : Option Probe → Type 0 = λ o. IsLowest (IsUnknownOf run c.args.node (is_known c.max-moment.result c.hear.new.stations.heard) o) c.unknown_of.result in
    record {
      moment = heard.moment_is;
      stations = heard.stations_is;
      lowest = missed_more run c.args.node c.loop-place.place x (search rules) (search rules) c.hear.new.stations c.max-moment.result c.loop-place.lowest c.unknown_of.result c.lower_of-lowest.result heard.moment_is heard.stations_is c.loop-place.invariant.lowest
          (subst F c.probe-send.ensures c.unknown_of.ensures) c.lower_of-lowest.ensures;
    }
