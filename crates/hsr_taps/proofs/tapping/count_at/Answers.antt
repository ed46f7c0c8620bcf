use Rattle.std.proofs.Common.{◌++◌, ◌∷◌, [], ap, arith, get_or, inl, set, subst, sym}
use Rattle.hsr_taps.specs.Came.{AreLaneCounts}
use Rattle.hsr_taps.proofs.Coming.{put_lane, still_lanes}
use Rattle.hsr_taps.proofs.tapping.count_at.Goals as goal

pub returns-then-direction-len-clause-counts : goal.returns-then-direction-len-clause-counts
returns-then-direction-len-clause-counts c = λ lane copies few is all.
    let p = c.args.caught.now in
    let counts = c.args.counts.now.items in
    let place = c.direction-direction.ensures in
    let own = ap (λ n. get_or counts n c.index.result.now) place in
    subst (λ n. AreLaneCounts lane (copies ++ p ∷ []) (set counts n c.saturating_add.result)) (sym place)
    (put_lane lane copies p counts c.index.result.now c.saturating_add.result (omega (arith, place)) is few (λ room. omega (arith, own)) all)

pub returns-else-direction-len-clause-counts : goal.returns-else-direction-len-clause-counts
returns-else-direction-len-clause-counts c = λ lane copies few is all. still_lanes lane copies c.args.caught.now c.args.counts.now.items (inl (omega (arith, c.direction-direction.ensures))) all
