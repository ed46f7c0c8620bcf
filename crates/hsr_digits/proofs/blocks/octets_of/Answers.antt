use Rattle.std.proofs.Common.{◌≡◌, length, arith}
use Rattle.hsr_digits.proofs.Lanes.{octets_joined}
use Rattle.hsr_digits.proofs.blocks.octets_of.Goals as goal

pub returns : goal.returns
returns c =
    let long : length c.joined.result ≡ 16 = omega arith in
    octets_joined c.args.first c.args.second c.joined.result c.joined-2.result c.fits-first.0 long c.joined.ensures c.joined-2.ensures
