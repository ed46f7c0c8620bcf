use Rattle.std.proofs.Common.{◌≡◌, ◌+◌, ◌∷◌, ◌++◌, ◌∙◌, [], map, drop, get_or, subst, arith, true}
use Rattle.std.proofs.lemmas.Grind.{common_steps}
use Rattle.std.proofs.lemmas.List.{drop_all}
use Rattle.hsr_transcript.specs.Order.{Turned}
use Rattle.hsr_transcript.specs.Items.{entry_items}
use Rattle.hsr_transcript_lines.proofs.Grown.{drop_next}
use Rattle.hsr_transcript.proofs.Orders.{way_on, way_stops, way_leaves}
use Rattle.hsr_transcript.proofs.order.plan_of.Goals as goal

pub returns-in-Ok-None : goal.returns-in-Ok-None
returns-in-Ok-None c =
    let main = c.args.main.now in
    let i = c.loop-turn.turn-index in
    way_stops main (map entry_items c.args.records.now) c.loop-turn.plan.items c.loop-turn.slots c.take_turn.new.passed (drop i main) (drop (i + 1) main) (get_or main i 0)
    (drop_next main i 0 c.loop-turn-test.true) c.loop-turn.invariant.way
    (subst (Turned (map entry_items c.args.records.now) c.loop-turn.slots c.take_turn.new.passed (get_or main i 0)) c.in-Ok-None.field-0-is c.in-Ok-None.ensures)

pub loop-turn-preserved : goal.loop-turn-preserved
loop-turn-preserved c =
    let main = c.args.main.now in
    let i = c.loop-turn.turn-index in
    let pushed : c.push.new.self.items ≡ c.loop-turn.plan.items ++ c.in-Ok-Some.planned ∷ [] = grind (arith, common_steps) in
    record {
      way = way_on main (map entry_items c.args.records.now) c.loop-turn.plan.items c.push.new.self.items c.loop-turn.slots c.take_turn.new.passed (drop i main) (drop (i + 1) main) (get_or main i 0) c.in-Ok-Some.planned
          (drop_next main i 0 c.loop-turn-test.true) pushed c.loop-turn.invariant.way
          (subst (Turned (map entry_items c.args.records.now) c.loop-turn.slots c.take_turn.new.passed (get_or main i 0)) c.in-Ok-Some.field-0-is c.in-Ok-Some.ensures);
      paired = c.take_turn.auto.passed ∙ c.loop-turn.invariant.paired;
    }

pub returns-else-is_used_up : goal.returns-else-is_used_up
returns-else-is_used_up c =
    let main = c.args.main.now in
    let i = c.loop-turn.turn-index in
    way_leaves main (map entry_items c.args.records.now) c.loop-turn.plan.items c.loop-turn.slots (drop i main) (drop_all i main c.loop-turn-test.false) c.loop-turn.invariant.way
    (λ none. let used : c.is_used_up.result ≡ true = c.is_used_up.ensures.1 none in absurd (cc))
