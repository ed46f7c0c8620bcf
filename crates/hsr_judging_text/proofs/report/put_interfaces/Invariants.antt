use Rattle.std.proofs.Common.{◌≡◌, ◌++◌, drop}
use Rattle.hsr_tap_passages.specs.Shown.{shown_view}
use Rattle.hsr_judging_text.specs.Report.{interfaces_from}
use Rattle.hsr_judging_text.proofs.report.put_interfaces.Given as goal

abbrev pub invariant-loop-i : goal.invariant-loop-i
invariant-loop-i l =
    l.text.items ++ interfaces_from (shown_view l.shown) l.i (drop l.i l.interfaces) ≡ l.initial.text.items ++ interfaces_from (shown_view l.shown) 0 l.interfaces
