use Rattle.std.proofs.Common.{◌≡◌, length, sym, arith, subst}
use Rattle.hsr_run_index.specs.Turns.{AreBehindIn, IsBehind, place_at}
use Rattle.hsr_run_index.proofs.Turning.{behind_more, latest_more}
use Rattle.hsr_run_index.proofs.turns.behind_in.Goals as goal

pub loop-place-preserved : goal.loop-place-preserved
loop-place-preserved c =
    let entries = c.args.entries.now in
    let place = c.loop-place.place in
    let x = c.index-entries-place.result in
    let old = c.loop-place.invariant in
    let worker = c.from-worker.result in
    record {
      behind = behind_more entries place c.at.result c.loop-place.behind.items c.add.new.places.items x old.behind
          (subst (IsBehind x.worker entries place) (sym c.at.ensures) (subst (λ w. IsBehind x.worker entries place (place_at c.loop-place.latest w)) (sym c.from-worker.ensures) (old.latest x.worker)))
          c.loop-place-test.true c.index-entries-place.is c.in_ok-add.ensures;
      latest = latest_more entries place worker x (place_at c.loop-place.latest) (place_at c.put.new.self) c.loop-place-test.true c.index-entries-place.is c.from-worker.ensures old.latest
          c.in_ok-put.ensures.ok;
    }

pub returns : goal.returns
returns c =
    let end : c.loop-place.place ≡ length c.args.entries.now = omega arith in
    subst (AreBehindIn c.args.entries.now c.loop-place.behind.items) end c.loop-place.invariant.behind
