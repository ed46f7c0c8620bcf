use Rattle.hsr_plan_payload.proofs.kinds.+longest_goose.Given as goal

abbrev pub decreases-longest_goose : goal.decreases-longest_goose
decreases-longest_goose l = l.most
