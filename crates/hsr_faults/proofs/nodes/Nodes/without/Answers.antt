use Rattle.std.proofs.Common.{rules, ◌<◌, ◌^◌}
use Rattle.hsr_faults.proofs.Words.{without_bit}
use Rattle.hsr_faults.proofs.nodes.Nodes.without.Goals as goal

pub returns : goal.returns
returns c = λ k below.
    let fits : c.args.other.bits < 2 ^ 64 = search rules in
    without_bit c.args.self.bits c.args.other.bits k fits below
