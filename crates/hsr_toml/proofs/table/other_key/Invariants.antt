use Rattle.std.proofs.Common.{◌≡◌}
use Rattle.toml.specs.View.{members_view}
use Rattle.hsr_toml.specs.Tables.{other_key}
use Rattle.hsr_toml.proofs.table.other_key.Given as goal

abbrev pub invariant-loop-word : goal.invariant-loop-word
invariant-loop-word g l = other_key g.K.TableKey.faults l.keys (members_view l.word-iterator) ≡ other_key g.K.TableKey.faults l.keys (members_view l.table.entries)
