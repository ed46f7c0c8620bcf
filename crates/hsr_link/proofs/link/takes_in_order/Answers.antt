use Rattle.hsr_link.proofs.Order as order
use Rattle.hsr_link.proofs.link.takes_in_order.Goals as goal

pub returns : goal.returns
returns c = order.takes_in_order
