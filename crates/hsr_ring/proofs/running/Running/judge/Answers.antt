use Rattle.std.proofs.Common.{rules, ℕ, ◌<◌, refl, sym, ap, ◌∙◌, inr, length, map, Ok, None, option_map, subst}
use Rattle.hsr_topology.specs.declared.end.End.{End}
use Rattle.hsr_node.specs.declared.event.Event.TheVariants as event
use Rattle.hsr_world_laws.specs.World.{World, entered}
use Rattle.hsr_world_links.specs.Views.{spot_view}
use Rattle.hsr_world_links.specs.declared.port.Port.{Port}
use Rattle.hsr_world_links.proofs.Places.{or_map}
use Rattle.hsr_ring.proofs.Entered.{cleared_result, judged_none}
use Rattle.hsr_ring.proofs.Hands.{held_again, holds_nothing, judged_from, same_hand}
use Rattle.hsr_world_links.proofs.Ports.{ends_at, into_there, is_there}
use Rattle.hsr_ring.proofs.Ends.{entered_ends}
use Rattle.hsr_world_links.proofs.Touched.{hand_ends, touching_at, touching_same}
use Rattle.hsr_ring.proofs.Tried.{judge_is, judge_refused}
use Rattle.hsr_ring.proofs.running.Running.judge.Goals as goal

pub returns-in-Some-clause-err : goal.returns-in-Some-clause-err
returns-in-Some-clause-err g c = (refl, inr (judge_refused g.row.C c.args.self.now c.args.node c.args.port c.in-Some.fault (sym c.fault_of_port.ensures.exact ∙ c.in-Some.is)))

pub returns-in_default-change_hand-clause-err : goal.returns-in_default-change_hand-clause-err
returns-in_default-change_hand-clause-err g c =
    let end : End = record { node = c.args.node; port = c.args.port } in
    let w : World = c.args.self.now in
    let fault = sym c.fault_of_port.ensures.exact ∙ c.in_default.is in
    let is = judge_is g.row.C w c.args.node c.args.port fault in
    let spot = option_map spot_view c.port_of-spot.result.into in
    let at = ap (λ (p : Port). option_map spot_view p.into) c.port_of-spot.ensures ∙ into_there w.places w.spans c.args.ports.now c.args.node c.args.port c.requires.told (is_there w.places c.args.node c.args.port fault) in
    let nothing = sym c.change_hand.ensures.was ∙ c.in_default-change_hand.is in (
      c.change_hand.ensures.now ∙ same_hand w spot None nothing,
      inr (is ∙ judged_none g.row.C w end (holds_nothing w end spot at nothing)),
    )

pub returns-in-Ok-clause-ok : goal.returns-in-Ok-clause-ok
returns-in-Ok-clause-ok g c =
    let end : End = record { node = c.args.node; port = c.args.port } in
    let w : World = c.args.self.now in
    let fault = sym c.fault_of_port.ensures.exact ∙ c.in_default.is in
    let is = judge_is g.row.C w c.args.node c.args.port fault in
    let spot = option_map spot_view c.port_of-spot.result.into in
    let at = ap (λ (p : Port). option_map spot_view p.into) c.port_of-spot.ensures ∙ into_there w.places w.spans c.args.ports.now c.args.node c.args.port c.requires.told (is_there w.places c.args.node c.args.port fault) in
    let held = sym c.change_hand.ensures.was ∙ c.in-Some-change_hand.is in
    let copy = c.in-Some-change_hand.carried in
    let worker = ap (λ (k : ℕ). entered g.row.C c.change_hand.new.self k c.args.node (event.Arrive c.args.port copy)) (sym c.port_worker.ensures) in
    is ∙ (judged_from g.row.C w c.change_hand.new.self end spot copy at held c.change_hand.ensures.now ∙ (ap (cleared_result end) (worker ∙ c.in-Ok.ensures.ok) ∙ ap Ok (sym c.clear_at.ensures)))

pub returns-in-Err-clause-err : goal.returns-in-Err-clause-err
returns-in-Err-clause-err g c =
    let end : End = record { node = c.args.node; port = c.args.port } in
    let w : World = c.args.self.now in
    let fault = sym c.fault_of_port.ensures.exact ∙ c.in_default.is in
    let is = judge_is g.row.C w c.args.node c.args.port fault in
    let spot = option_map spot_view c.port_of-spot.result.into in
    let at = ap (λ (p : Port). option_map spot_view p.into) c.port_of-spot.ensures ∙ into_there w.places w.spans c.args.ports.now c.args.node c.args.port c.requires.told (is_there w.places c.args.node c.args.port fault) in
    let held = sym c.change_hand.ensures.was ∙ c.in-Some-change_hand.is in
    let copy = c.in-Some-change_hand.carried in
    let worker = ap (λ (k : ℕ). entered g.row.C c.change_hand.new.self k c.args.node (event.Arrive c.args.port copy)) (sym c.port_worker.ensures) in (
      held_again w c.enter_at.new.self c.give_back.new.self spot c.args.port copy c.in-Err.event (c.in-Err.ensures.err.0 ∙ c.change_hand.ensures.now) held c.in-Err.ensures.err.1 c.give_back.ensures,
      or_map (λ e. is ∙ (judged_from g.row.C w c.change_hand.new.self end spot copy at held c.change_hand.ensures.now ∙ ap (cleared_result end) (worker ∙ e))) c.in-Err.ensures.err.2,
    )

pub enter_at-requires : goal.enter_at-requires
enter_at-requires g c =
    let w : World = c.args.self.now in
    let v : World = c.change_hand.new.self in
    let there = is_there w.places c.args.node c.args.port (sym c.fault_of_port.ensures.exact ∙ c.in_default.is) in
    let ends = ap (λ (u : World). map ends_at u.spans) c.change_hand.ensures.now ∙ hand_ends None w.spans (option_map spot_view c.port_of-spot.result.into) in (
      search rules,
      (
        subst (λ (u : World). c.args.node < length u.places) (sym c.change_hand.ensures.now) there.node,
        c.touching_of-links.ensures
            ∙ touching_at w.places w.spans (map (λ links. links.items) c.args.touching.now) c.args.node c.requires.touching there.node
            ∙ sym (touching_same v.spans w.spans ends c.args.node),
      ),
    )

pub clear_at-requires : goal.clear_at-requires
clear_at-requires g c =
    let w : World = c.args.self.now in
    let v : World = c.change_hand.new.self in
    let after : World = c.enter_at.new.self in
    let there = is_there w.places c.args.node c.args.port (sym c.fault_of_port.ensures.exact ∙ c.in_default.is) in
    let ends = ap (λ (u : World). map ends_at u.spans) c.change_hand.ensures.now ∙ hand_ends None w.spans (option_map spot_view c.port_of-spot.result.into) in
    let still = entered_ends g.row.C v after c.port_worker.result c.args.node (event.Arrive c.args.port c.in-Some-change_hand.carried) c.in-Ok.ensures.ok in (
      search rules,
      c.touching_of-links.ensures
          ∙ touching_at w.places w.spans (map (λ links. links.items) c.args.touching.now) c.args.node c.requires.touching there.node
          ∙ sym (touching_same after.spans w.spans (still ∙ ends) c.args.node),
    )
