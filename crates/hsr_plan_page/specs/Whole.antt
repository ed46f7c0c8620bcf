-- The page of a plan.
--     IsPlanPage   octets are one page that stands alone, with these numbers in its data
use Rattle.std.specs.Prelude.{ℕ, ◌≡◌, List, Some}
use Rattle.hsr_page.specs.Frame.{whole_text}
use Rattle.hsr_page.specs.declared.frame.Kind.TheVariants.{Plan}
use Rattle.hsr_plan_page.specs.Data.{data_text, numbers_of}
use Rattle.hsr_plan_page.specs.declared.facts.Facts.{Facts}

-- what its body says and what stands at the foot of each sheet is told by no definition
pub record IsPlanPage (facts : Facts) (octets : List ℕ) : Type 0 where
  pub body : List ℕ
  pub foot : List ℕ
  pub is : octets ≡ whole_text (record { kind = Plan; title = facts.title.now; foot = Some foot; body = body; json = data_text (numbers_of facts) })
