use Rattle.hsr_plan_payload.proofs.kinds.+longest_sampled.Given as goal

abbrev pub decreases-longest_sampled : goal.decreases-longest_sampled
decreases-longest_sampled l = l.most
