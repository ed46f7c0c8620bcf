use Rattle.std.proofs.Common.{refl, sym, ap, ◌∙◌, inr, Option, option_map}
use Rattle.hsr_world_links.proofs.Places.{err_map, ok_map, or_map}
use Rattle.hsr_ring.proofs.Tried.{put_is, put_refused}
use Rattle.hsr_world_links.proofs.Ports.{is_there, out_there}
use Rattle.hsr_ring.specs.Views.{in_world}
use Rattle.hsr_world_links.specs.Views.{put_at_spot, spot_view}
use Rattle.hsr_world_links.specs.declared.port.Port.{Port}
use Rattle.hsr_world_laws.specs.Spans.{Spot}
use Rattle.hsr_ring.proofs.running.Running.put.Goals as goal

pub returns-in-Some-clause-err : goal.returns-in-Some-clause-err
returns-in-Some-clause-err g c = (refl, inr (put_refused g.row.C c.args.self.now c.args.node c.args.port c.in-Some.fault (sym c.fault_of_port.ensures.exact ∙ c.in-Some.is)))

pub returns-clause-ok : goal.returns-clause-ok
returns-clause-ok g c =
    let fault = sym c.fault_of_port.ensures.exact ∙ c.in_default.is in
    let w = c.args.self.now in
    let out = ap (λ (p : Port). option_map spot_view p.out) c.port_of.ensures ∙ out_there w.places w.spans c.args.ports.now c.args.node c.args.port c.requires (is_there w.places c.args.node c.args.port fault) in
    let is = put_is g.row.C w c.args.node c.args.port fault ∙ ap (λ (spot : Option Spot). in_world w (put_at_spot w.spans spot)) (sym out) in
    ok_map c.put_out.result (λ h. is ∙ h) c.put_out.ensures.ok

pub returns-clause-err : goal.returns-clause-err
returns-clause-err g c =
    let fault = sym c.fault_of_port.ensures.exact ∙ c.in_default.is in
    let w = c.args.self.now in
    let out = ap (λ (p : Port). option_map spot_view p.out) c.port_of.ensures ∙ out_there w.places w.spans c.args.ports.now c.args.node c.args.port c.requires (is_there w.places c.args.node c.args.port fault) in
    let is = put_is g.row.C w c.args.node c.args.port fault ∙ ap (λ (spot : Option Spot). in_world w (put_at_spot w.spans spot)) (sym out) in
    err_map c.put_out.result (λ f h. (h.0, or_map (λ e. is ∙ e) h.1)) c.put_out.ensures.err
