-- Octets since the last line feed.
use Rattle.std.proofs.Common.{◌≡◌, ℕ, ◌+◌, ◌<◌, ◌==◌, length, get_or, drop, List, ap}
use Rattle.std.specs.Prelude.{if◌then◌else◌}
use Rattle.std.proofs.lemmas.List.{drop_more}
use Rattle.hsr_toml.specs.Position.{column}

pub column_step : (n : ℕ) (text : List ℕ) (i d : ℕ) → i < length text
    → column n (drop i text) ≡ column (if get_or text i d == 10 then 0 else n + 1) (drop (i + 1) text)
column_step n text i d h = ap (column n) (drop_more text i d h)
