use Rattle.std.proofs.Common.{List, ℕ, sym, subst}
use Rattle.hsr_run_laws.specs.Run.{Run}
use Rattle.hsr_routes.specs.Search.{IsSearched}
use Rattle.hsr_routes.specs.Routes.{heading, sender_at}
use Rattle.hsr_routes.specs.Numbered.{is_found, is_in}
use Rattle.hsr_routes.proofs.Spreading.{front_start, searched, went_on}
use Rattle.hsr_routes.proofs.search.Routes.search.Goals as goal

pub loop-number-init : goal.loop-number-init
loop-number-init c =
    front_start c.args.self.now (sender_at c.args.frame.now.sender) (heading c.args.frame.now.dst c.args.frame.now.kind) (is_in c.args.avoid.now) c.spread.ensures.few
    c.new-front.result.found c.new-front.result.waiting c.spread.new.front.found c.spread.new.front.waiting
    c.new-front.ensures.found c.new-front.ensures.waiting c.spread.ensures.spread

pub loop-number-smaller : goal.loop-number-smaller
loop-number-smaller c =
    (went_on c.args.self.now (sender_at c.args.frame.now.sender) (heading c.args.frame.now.dst c.args.frame.now.kind) (is_in c.args.avoid.now) c.spread-in-Some.ensures.few _ c.in-Some.number c.next.new.self.found c.loop-number.front.found
    c.loop-number.front.waiting c.next.new.self.waiting c.spread-in-Some.new.front.found c.spread-in-Some.new.front.waiting
    c.at.ensures c.in-Some.ensures.found c.loop-number.invariant c.in-Some.ensures.taken c.spread-in-Some.ensures.spread).1

pub loop-number-preserved : goal.loop-number-preserved
loop-number-preserved c =
    (went_on c.args.self.now (sender_at c.args.frame.now.sender) (heading c.args.frame.now.dst c.args.frame.now.kind) (is_in c.args.avoid.now) c.spread-in-Some.ensures.few _ c.in-Some.number c.next.new.self.found c.loop-number.front.found
    c.loop-number.front.waiting c.next.new.self.waiting c.spread-in-Some.new.front.found c.spread-in-Some.new.front.waiting
    c.at.ensures c.in-Some.ensures.found c.loop-number.invariant c.in-Some.ensures.taken c.spread-in-Some.ensures.spread).0

pub returns : goal.returns
returns c =
    let run : Run = c.args.self.now in
    subst (λ (f : List ℕ). IsSearched run (sender_at c.args.frame.now.sender) (heading c.args.frame.now.dst c.args.frame.now.kind) (is_in c.args.avoid.now) (is_found run f)) (sym c.in_default.ensures.found)
    (searched run (sender_at c.args.frame.now.sender) (heading c.args.frame.now.dst c.args.frame.now.kind) (is_in c.args.avoid.now) c.spread.ensures.few c.loop-number.front.found c.loop-number.front.waiting c.loop-number.invariant c.in_default.ensures.none)
