use Rattle.hsr_tag.proofs.Frames.{read_one_way}
use Rattle.hsr_tag.proofs.seen.look_at.Goals as goal

pub returns-clause-one_way : goal.returns-clause-one_way
returns-clause-one_way c =
    read_one_way c.args.octets.now c.read_seen.result c.read_seen.ensures.exact c.read_seen.ensures.found c.read_seen.ensures.only_plain c.read_seen.ensures.only_tagged
