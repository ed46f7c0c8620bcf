use Rattle.std.proofs.Common.{◌≡◌, ◌++◌, [], List, Option, ap, sym, ◌∙◌}
use Rattle.std.specs.List.{cons_option, range_with_len}
use Rattle.std.specs.Prelude.{filter_map}
use Rattle.hsr_timeline.specs.declared.origin.Spot.{Spot}
use Rattle.hsr_timeline.specs.Fronts.{lists_of}
use Rattle.hsr_timeline.specs.Causes.{main_at, main_pair, pair_of}
use Rattle.hsr_timeline.proofs.Pairing.{before_more, counts_more, main_is, pairs_more}
use Rattle.hsr_timeline.proofs.mains.main_pairs.Goals as goal

pub loop-i-preserved : goal.loop-i-preserved
loop-i-preserved g c =
    let run = c.args.closed.now.run in
    let plan = c.plan-plan.result.now in
    let i = c.loop-i.i in
    let x = c.index-plan-i.result in
    let below = c.loop-i-test.true in
    let counted = c.at-count.ensures ∙ c.loop-i.invariant.counts x.node in
    let entry : c.main_by-entry.result ≡ main_at run plan i =
    c.main_by-entry.ensures
    ∙ main_is run plan i x c.at-count.result (lists_of c.as_slice.result.now) below c.index-plan-i.is (ap lists_of c.as_slice.ensures.value ∙ c.in_ok-records.ensures.places) counted in
    let pair : pair_of c.main_by-entry.result c.loop-i.before ≡ main_pair run plan i =
    ap (λ (e : Option Spot). pair_of e c.loop-i.before) entry ∙ ap (λ (b : Option Spot). pair_of (main_at run plan i) b) c.loop-i.invariant.before in
    record {
      counts = λ node. c.in_ok-put.ensures.ok node ∙ counts_more plan i x node c.at-count.result _ below c.index-plan-i.is counted (c.loop-i.invariant.counts node);
      before = entry ∙ sym (before_more run plan i);
      pairs =
          c.in_ok-list_pair.ensures
          ∙ (ap (λ (ps : List (Spot × Spot)). ps ++ cons_option (pair_of c.main_by-entry.result c.loop-i.before) []) c.loop-i.invariant.pairs
          ∙ (ap (λ (p : Option (Spot × Spot)). filter_map (main_pair run plan) (range_with_len 0 i) ++ cons_option p []) pair ∙ sym (pairs_more run plan i)));
    }
