use Rattle.hsr_node.proofs.Finer.{answers_in_finer_unit, legal_from_milliseconds, legal_in_finer_unit}
use Rattle.hsr_node.proofs.units.same_in_finer_unit.Goals as goal

pub returns-clause-answers : goal.returns-clause-answers
returns-clause-answers c = answers_in_finer_unit

pub returns-clause-legal : goal.returns-clause-legal
returns-clause-legal c = legal_in_finer_unit

pub returns-clause-records : goal.returns-clause-records
returns-clause-records c = legal_from_milliseconds
