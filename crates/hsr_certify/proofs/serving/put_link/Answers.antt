use Rattle.std.proofs.Common.{◌+◌, ◌*◌, ◌==◌}
use Rattle.hsr_bitset.specs.Numbers.{has}
use Rattle.hsr_certify.proofs.Serves.{put_both}
use Rattle.hsr_certify.proofs.serving.put_link.Goals as goal

pub returns : goal.returns
returns c = λ n low.
    put_both (n == 2 * c.args.link) (n == 2 * c.args.link + 1) c.args.is_down (has c.args.set.now n) (has c.put.new.self n) (has c.put-2.new.self n) (c.put.ensures n low) (c.put-2.ensures n low)
