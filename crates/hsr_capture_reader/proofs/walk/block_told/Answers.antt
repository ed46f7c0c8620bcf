use Rattle.std.proofs.Common.{◌+◌, ◌≤◌, IfSome, ap, arith, length, subst, sym}
use Rattle.hsr_capture_reader.specs.Rooms.{StandAt}
use Rattle.hsr_capture_reader.proofs.Places.{body_stands}
use Rattle.hsr_capture_reader.proofs.walk.block_told.Goals as goal

pub told-requires : goal.told-requires
told-requires c =
    let file = c.args.reading.file in
    let left = c.args.left.now in
    let start = c.in-Some.start in
    let shortest : 12 ≤ start.len = subst (λ s. IfSome s (λ t. 12 ≤ t.len)) c.in-Some.is c.in_ok-start.ensures.shortest in
    let room : start.len ≤ length left = subst (λ s. IfSome s (λ t. t.len ≤ length left)) c.in-Some.is c.in_ok-start.ensures.room in
    record {
      stands = subst (λ b. StandAt file (b.offset + 8) b.body) (sym c.block_of-block.ensures.value) (body_stands file left c.args.offset start c.requires.left shortest room);
      behind = omega (arith, c.requires.behind, ap (λ b. b.offset) c.block_of-block.ensures.value);
    }
