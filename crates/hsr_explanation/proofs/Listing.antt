-- Lines, one after another.
use Rattle.std.proofs.Common.{◌≡◌, ℕ, ◌+◌, ◌<◌, ◌++◌, length, get_or, drop, List, ap}
use Rattle.std.proofs.lemmas.List.{drop_more}
use Rattle.hsr_explanation.specs.Lines.{line_of, lines_of}

pub lines_step : (lines : List (List ℕ)) (i : ℕ) (d : List ℕ) → i < length lines
    → lines_of (drop i lines) ≡ line_of (get_or lines i d) ++ lines_of (drop (i + 1) lines)
lines_step lines i d h = ap lines_of (drop_more lines i d h)
