use Rattle.std.proofs.Common.{◌≤◌, ◌<◌, ◌∙◌, ap, arith}
use Rattle.hsr_frame.specs.Counters.{step_limit}
use Rattle.hsr_forwarding.specs.Tables.{Notes}
use Rattle.hsr_forwarding.proofs.Keeping.{AreEarlier-within, AreRoomy-within}
use Rattle.hsr_redbox.proofs.Steps.{marked-there, notes-marked}
use Rattle.hsr_redbox.proofs.redbox.RedBox.leave.Goals as goal

pub mark_numbered-requires : goal.mark_numbered-requires
mark_numbered-requires g c =
    let later : c.self.inside.moment ≤ c.args.now = rw (← c.self.view_is) at c.requires.later in
    let some : c.self.inside.accepted < step_limit = rw (← c.self.view_is) at c.requires.steps in (
      omega arith,
      (
        rw c.self.invariant.there c.requires.there,
        (
          AreEarlier-within c.self.inside.tables c.self.inside.moment c.args.now c.self.inside.accepted later c.self.invariant.notes,
          AreRoomy-within c.self.inside.tables c.self.inside.moment c.self.inside.accepted some c.self.invariant.notes,
        ),
      ),
    )

pub invariant_of-self : goal.invariant_of-self
invariant_of-self g c =
    let later : c.self.inside.moment ≤ c.args.now = rw (← c.self.view_is) at c.requires.later in
    record {
      station = c.self.invariant.station;
      there = ap (λ (n : Notes). n.there) c.mark_numbered.ensures ∙ marked-there g.row.C c.self.inside.tables c.args.exits c.args.source c.self.inside.next c.args.now ∙ c.self.invariant.there;
      notes = rw c.mark_numbered.ensures (notes-marked g.row.C c.self.inside.tables c.args.exits c.args.source c.self.inside.next c.self.inside.moment c.args.now c.self.inside.accepted later c.self.invariant.notes);
      proxies = omega (arith, c.self.invariant.proxies);
      nodes = omega (arith, c.self.invariant.nodes);
      steps = let some = rw (← c.self.view_is) at c.requires.steps in omega (arith, some);
      counters = rw (← c.self.view_is) at c.requires.within;
    }
