use Rattle.hsr_plan_certify.proofs.Listed as listed
use Rattle.hsr_plan_certify.proofs.law.orders_come_from_occasions.Goals as goal

pub returns : goal.returns
returns c = listed.orders_come_from_occasions
