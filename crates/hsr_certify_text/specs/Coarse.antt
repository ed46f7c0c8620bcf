-- A scenario without its own moves of copies.
use Rattle.std.specs.Prelude.{not, List, [], ◌∷◌, ◌++◌, filter}
use Rattle.hsr_scenario.specs.declared.steps.Order.{Order}
use Rattle.hsr_scenario.specs.declared.steps.Order.TheVariants.{Drain}
use Rattle.hsr_plays.specs.Conditions.{is_fine}

-- the steps that move no copy and inject none, and a drain behind them
abbrev pub coarse : List Order → List Order
coarse orders = filter (λ order. not (is_fine order)) orders ++ Drain ∷ []
