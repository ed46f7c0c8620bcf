use Rattle.std.proofs.Common.{◌≡◌, List, Some, sym, subst, rules, true, false}
use Rattle.hsr_timeline.specs.declared.stamp.Stamp.{Stamp}
use Rattle.hsr_timeline.specs.Fronts.{IsFront, lists_of, next_of}
use Rattle.hsr_timeline.proofs.Growing.{below_rows, front_more}
use Rattle.hsr_timeline.proofs.timing.catch_up.Goals as goal

pub loop-preserved : goal.loop-preserved
loop-preserved c =
    let P : List (List Stamp) → Type 0 = λ rows. IsFront (lists_of c.args.records.now) rows in
    let ready : next_of (lists_of c.args.records.now) (lists_of c.loop.stamps.items) c.args.node ≡ Some c.in-Some.stamp = search rules in
    record {
      front = subst P (sym c.in_ok-push-in-Some.ensures)
          (front_more (lists_of c.args.records.now) (lists_of c.loop.stamps.items) c.args.node c.in-Some.stamp c.loop.invariant.front (below_rows c.args.stamps.now.items c.args.records.now c.loop.stamps.items c.args.node c.requires.front.nodes c.loop.invariant.front.nodes c.requires.below) ready);
      still = λ (h : true ≡ false). absurd (cc);
    }
