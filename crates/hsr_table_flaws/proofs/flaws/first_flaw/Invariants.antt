use Rattle.hsr_table_flaws.specs.Flaws.{IsFirstPlaceOf}
use Rattle.hsr_table_flaws.specs.Looked.{forgets_of, lates_of, mistakes_of}
use Rattle.hsr_table_flaws.proofs.flaws.first_flaw.Given as goal

abbrev pub invariant-loop-node : goal.invariant-loop-node
invariant-loop-node g l = record {
  forgot : IsFirstPlaceOf forgets_of l.closed.run l.node l.forgot;
  mistaken : IsFirstPlaceOf mistakes_of l.closed.run l.node l.mistaken;
  late : IsFirstPlaceOf lates_of l.closed.run l.node l.late;
}
