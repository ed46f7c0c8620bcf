use Rattle.std.proofs.Common.{◌≡◌, ℕ, ◌<◌, ◌≤◌, ⊎_elim, None, get_or, length, ap, sym, subst, ◌∙◌, arith, rules}
use Rattle.std.proofs.lemmas.Bool.{cases_lt}
use Rattle.hsr_node.specs.Record.{Owner}
use Rattle.hsr_run_index.specs.InOrder.{passed_by}
use Rattle.hsr_timeline.specs.Hops.{passed_from}
use Rattle.hsr_timeline.proofs.Walked.{passed_here, passed_long}
use Rattle.hsr_timeline.proofs.walk.next_pass.Goals as goal

pub returns-in-This-clause-next : goal.returns-in-This-clause-next
returns-in-This-clause-next c =
    let owner : Owner = record { number = c.args.number; place = c.args.place.now } in
    let at : ℕ = c.loop-at.at in
    let low : at < length c.args.entries.now = search rules in
    let long = passed_long owner c.args.port 0 c.args.entries.now in
    record {
      behind = c.loop-at.invariant.behind;
      below = omega (arith, low, long);
      nothing = c.loop-at.invariant.nothing;
      passes = passed_here owner c.args.port c.args.entries.now at c.index-entries-at.result low
          ∙ (ap (passed_by owner c.args.port at) (sym c.index-entries-at.is) ∙ c.in-This.ensures);
    }

pub loop-at-preserved : goal.loop-at-preserved
loop-at-preserved c =
    let owner : Owner = record { number = c.args.number; place = c.args.place.now } in
    let at : ℕ = c.loop-at.at in
    let low : at < length c.args.entries.now = search rules in
    let behind : c.args.from ≤ at = c.loop-at.invariant.behind in
    let here : get_or (passed_from owner c.args.port 0 c.args.entries.now) at None ≡ None =
    passed_here owner c.args.port c.args.entries.now at c.index-entries-at.result low
    ∙ (ap (passed_by owner c.args.port at) (sym c.index-entries-at.is) ∙ c.in-Nothing.ensures) in
    record {
      behind = omega (arith, behind);
      nothing = λ k less after.
          ⊎_elim (λ lower. c.loop-at.invariant.nothing k lower after)
          (λ last.
          let same : at ≡ k = omega (arith, less, last) in
          subst (λ m. get_or (passed_from owner c.args.port 0 c.args.entries.now) m None ≡ None) same here)
          (cases_lt k at);
    }
