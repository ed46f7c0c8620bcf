use Rattle.hsr_plan_schedule.proofs.publishing.+grown.Given as goal

abbrev pub decreases-grown : goal.decreases-grown
decreases-grown l = l.more
