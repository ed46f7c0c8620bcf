use Rattle.std.proofs.Common.{◌≡◌, length, take}
use Rattle.hsr_health.specs.Counted.{ArePassed, HaveNoOvertaken}
use Rattle.hsr_health.proofs.directions.put_all_overtaken.Given as goal

-- those so far are counted
abbrev pub invariant-loop-i : goal.invariant-loop-i
invariant-loop-i l = record {
  long : length l.all.items ≡ length l.fn.all.items;
  all : HaveNoOvertaken l.fn.all.items → ArePassed l.copies (take l.i l.overtaken) l.fn.all.items l.all.items;
}
