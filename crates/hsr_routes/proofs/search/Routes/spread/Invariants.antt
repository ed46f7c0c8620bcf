use Rattle.hsr_routes.proofs.Spreading.{IsSpreadBelow}
use Rattle.hsr_routes.specs.Routes.{heading, sender_at}
use Rattle.hsr_routes.specs.Numbered.{is_in}
use Rattle.hsr_routes.specs.Spread.{next_node}
use Rattle.hsr_routes.specs.Started.{channels_from}
use Rattle.hsr_routes.proofs.search.Routes.spread.Given as goal

abbrev pub invariant-loop-channel : goal.invariant-loop-channel
invariant-loop-channel l = IsSpreadBelow l.fn.self (sender_at l.fn.frame.sender) (heading l.fn.frame.dst l.fn.frame.kind) (is_in l.fn.avoid) l.fn.from (channels_from (next_node l.fn.self (sender_at l.fn.frame.sender) l.fn.from) 0 l.fn.self.links) l.channel-index l.initial.front.found l.initial.front.waiting l.front.found l.front.waiting
