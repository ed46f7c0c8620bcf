use Rattle.std.proofs.Common.{arith, map}
use Rattle.hsr_world_links.specs.Views.{span_view}
use Rattle.hsr_ring.proofs.Ending.{closes, known_here, stays_open}
use Rattle.hsr_ring.proofs.running.Running.close.Goals as goal

pub closed_of-requires : goal.closed_of-requires
closed_of-requires g c =
    let own = c.self.inside in
    let known = known_here g.row.C c.args.topology own.moment own.nodes.items (map span_view own.spans.items) own.plan.items c.args.self c.self.view_is c.requires.tables c.places.ensures.wired c.self.invariant c.requires.reached in
    (omega arith, (omega arith, (omega arith, known)))

pub returns-in-Ok-clause-closed : goal.returns-in-Ok-clause-closed
returns-in-Ok-clause-closed g c =
    let own = c.self.inside in
    let is = c.self.view_is in
    (closes g.row.C c.args.topology own.moment own.nodes.items (map span_view own.spans.items) own.plan.items c.args.self is c.requires.tables c.places.ensures.wired c.self.invariant c.requires.reached c.in-Ok.closed c.in-Ok.ensures.closed).is

pub returns-in-Ok-clause-ended : goal.returns-in-Ok-clause-ended
returns-in-Ok-clause-ended g c =
    let own = c.self.inside in
    let is = c.self.view_is in
    (closes g.row.C c.args.topology own.moment own.nodes.items (map span_view own.spans.items) own.plan.items c.args.self is c.requires.tables c.places.ensures.wired c.self.invariant c.requires.reached c.in-Ok.closed c.in-Ok.ensures.closed).ended

pub returns-in-Ok-clause-numbered : goal.returns-in-Ok-clause-numbered
returns-in-Ok-clause-numbered g c =
    let own = c.self.inside in
    let is = c.self.view_is in
    (closes g.row.C c.args.topology own.moment own.nodes.items (map span_view own.spans.items) own.plan.items c.args.self is c.requires.tables c.places.ensures.wired c.self.invariant c.requires.reached c.in-Ok.closed c.in-Ok.ensures.closed).numbered

pub returns-in-Ok-clause-no_storm : goal.returns-in-Ok-clause-no_storm
returns-in-Ok-clause-no_storm g c =
    let own = c.self.inside in
    let is = c.self.view_is in
    (closes g.row.C c.args.topology own.moment own.nodes.items (map span_view own.spans.items) own.plan.items c.args.self is c.requires.tables c.places.ensures.wired c.self.invariant c.requires.reached c.in-Ok.closed c.in-Ok.ensures.closed).calm

pub returns-in-Err-clause-refused : goal.returns-in-Err-clause-refused
returns-in-Err-clause-refused g c =
    let own = c.self.inside in
    let is = c.self.view_is in
    (stays_open g.row.C c.args.topology own.moment own.nodes.items (map span_view own.spans.items) own.plan.items c.args.self is c.requires.tables c.places.ensures.wired c.self.invariant c.requires.reached c.in-Err.open.fault c.in-Err.ensures.open).refused

pub returns-in-Err-clause-first : goal.returns-in-Err-clause-first
returns-in-Err-clause-first g c =
    let own = c.self.inside in
    let is = c.self.view_is in
    (stays_open g.row.C c.args.topology own.moment own.nodes.items (map span_view own.spans.items) own.plan.items c.args.self is c.requires.tables c.places.ensures.wired c.self.invariant c.requires.reached c.in-Err.open.fault c.in-Err.ensures.open).first
