-- The texts that are formed for a page.
use Rattle.std.specs.Prelude.{ℕ, ◌≡◌, List, string_bytes}
use Rattle.hsr_plan_report.specs.Report.{IsShown, sum_of}
use Rattle.hsr_plan_report.specs.declared.own.Own.{Own}
use Rattle.hsr_plan_report.specs.declared.paper.Texts.{Texts}

-- the sum of the plan's text, and the lines of both verdicts and of the budget
pub record AreTexts (text : List ℕ) (own : Own) (texts : Texts) : Type 0 where
  pub sum : string_bytes texts.sum ≡ sum_of text
  pub any_order : IsShown own.certification.line.items (string_bytes texts.any_order)
  pub found : IsShown own.run.found.items (string_bytes texts.found)
  pub budget : IsShown own.run.budget.items (string_bytes texts.budget)
