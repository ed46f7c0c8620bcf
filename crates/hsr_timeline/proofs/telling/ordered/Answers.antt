use Rattle.std.proofs.Common.{List, subst}
use Rattle.std.specs.Global.{Global}
use Rattle.std.specs.Prelude.{Vec}
use Rattle.hsr_timeline.specs.declared.stamp.Stamp.{Stamp}
use Rattle.hsr_timeline.specs.Fronts.{lists_of}
use Rattle.hsr_timeline.specs.Stamps.{at_spot}
use Rattle.hsr_timeline.specs.Story.{AreShown}
use Rattle.hsr_timeline.proofs.Showing.{no_rows, no_stamps}
use Rattle.hsr_timeline.proofs.telling.ordered.Goals as goal

pub returns-in-Err-clause-circle : goal.returns-in-Err-clause-circle
returns-in-Err-clause-circle c = no_stamps (lists_of c.args.origins.now) c.args.list.now c.in-Err.fault c.in-Err.ensures.circle

pub returns-in-Ok-all_shown-clause-story : goal.returns-in-Ok-all_shown-clause-story
returns-in-Ok-all_shown-clause-story c =
    let P : List (Vec Stamp Global) → Type 0 = λ xs. AreShown (at_spot (lists_of xs)) c.args.list.now c.in-Ok-all_shown.rows.items in
    record {
      stamp = at_spot (lists_of c.in-Ok.stamps.items);
      stamps = c.in-Ok.ensures.stamps;
      rows = c.in-Ok-all_shown.rows.items;
      shown = subst P c.as_slice.ensures.value c.in-Ok-all_shown.ensures.shown;
      once = c.sort.ensures.same;
      sorted = c.sort.ensures.rise;
    }

pub returns-clause-circle : goal.returns-clause-circle
returns-clause-circle c =
    no_rows (lists_of c.args.origins.now) c.args.list.now c.in-Ok.stamps.items c.as_slice.result.now c.in-Err-all_shown.fault c.as_slice.ensures.value c.in-Ok.ensures.stamps c.in-Err-all_shown.ensures.circle
