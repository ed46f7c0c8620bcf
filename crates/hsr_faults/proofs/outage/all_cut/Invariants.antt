use Rattle.std.proofs.Common.{◌≡◌}
use Rattle.std.specs.Prelude.{count_by}
use Rattle.hsr_faults.specs.CutOff.{is_cut}
use Rattle.hsr_faults.specs.Lines.{told_at}
use Rattle.hsr_faults.proofs.Counting.{is_below}
use Rattle.hsr_faults.proofs.outage.all_cut.Given as goal

abbrev pub invariant-loop-j : goal.invariant-loop-j
invariant-loop-j l = l.sends ≡ count_by (is_below (λ x. is_cut (told_at l.fn.groups l.missed x)) l.j) l.fn.of
