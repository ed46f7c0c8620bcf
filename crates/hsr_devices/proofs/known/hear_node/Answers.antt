use Rattle.std.proofs.Common.{◌≡◌, ◌∙◌, ℕ, List, Bool, Result, Some, sym, ap}
use Rattle.std.specs.Prelude.{fold}
use Rattle.hsr_frame.specs.declared.node.RingPort.{RingPort}
use Rattle.hsr_frame.specs.declared.fault.FrameFault.{FrameFault}
use Rattle.hsr_tag.specs.Seen.{classified}
use Rattle.hsr_tag.specs.declared.seen.Seen.{Seen}
use Rattle.hsr_forwarding.specs.Arrival.{heard_of}
use Rattle.hsr_tables.specs.Nodes.{Nodes, heard as node_heard}
use Rattle.hsr_node.specs.Record.{hearings_from}
use Rattle.hsr_node.specs.declared.event.Event.{Event}
use Rattle.hsr_node.specs.declared.place.Place.{Place}
use Rattle.hsr_devices.specs.Known.{hears_with}
use Rattle.hsr_devices.proofs.Hearing.{heard_with}
use Rattle.hsr_devices.proofs.known.hear_node.Goals as goal

pub returns-in-Some : goal.returns-in-Some
returns-in-Some c =
    let place : Place = c.args.place.now in
    let own : List ℕ = c.in-Some.ear.0 in
    let x : RingPort = c.in-Some.ear.1 in
    let hears : hears_with place c.in-Arrive.port ≡ Some (own, x) = sym c.hears_on.ensures ∙ c.in-Some.is in
    let seen : c.look_at.result ≡ classified c.in-Arrive.carried.octets = c.look_at.ensures.exact ∙ ap classified c.as_slice.ensures in
    let heard : c.hear.new.nodes ≡ (heard_of own c.args.nodes.now x c.look_at.result c.args.at).1 = ap (λ (s : Bool × Nodes). s.1) c.hear.ensures in
    let whole = heard_with place c.in-Arrive.port own x c.args.at (classified c.in-Arrive.carried.octets) c.args.nodes.now hears in
    heard
    ∙ (ap (λ (s : Result Seen FrameFault). (heard_of own c.args.nodes.now x s c.args.at).1) seen
    ∙ (whole ∙ ap (λ (e : Event). fold node_heard c.args.nodes.now (hearings_from place c.args.at e)) (sym c.in-Arrive.is)))
