use Rattle.std.proofs.Common.{rules, ◌<◌, [], length, slice_index_or}
use Rattle.hsr_routes.specs.Addressed.{AreLike}
use Rattle.hsr_routes.proofs.Networked.{like_more}
use Rattle.hsr_routes.proofs.sides.first_unlike.Goals as goal

pub loop-l-preserved : goal.loop-l-preserved
loop-l-preserved c =
    let below : c.loop-l.l < length c.args.links.now = search rules in
    let like : AreLike c.args.places.now (slice_index_or c.args.links.now c.loop-l.l []) = search rules in
    like_more c.args.places.now c.args.links.now c.loop-l.l below like c.loop-l.invariant
