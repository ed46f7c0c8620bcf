-- The whole report on the health of a ring.
--     report_text   brief, with what may be a doubt, or in full
use Rattle.std.specs.Prelude.{ℕ, Bool, if◌then◌else◌, List, ◌++◌}
use Rattle.hsr_health.specs.declared.health.Health.{Health}
use Rattle.hsr_health_text.specs.Breaks.{breaks_text}
use Rattle.hsr_health_text.specs.Interfaces.{head_line, interfaces_text}
use Rattle.hsr_health_text.specs.Kinds.{kinds_text, table_line}
use Rattle.hsr_health_text.specs.Points.{all_spans, points_text}
use Rattle.hsr_health_text.specs.Reasons.{reasons_text}
use Rattle.hsr_health_text.specs.Sources.{nodes_text, sources_text}

-- all lines between the first and the reasons, of these interfaces, or of all where there is none, for tables of so many entries
unfoldable pub full_text : Health → List ℕ → ℕ → List ℕ
full_text health asked table =
    interfaces_text asked health ++ points_text health ++ breaks_text health ++ sources_text health ++ nodes_text health ++ kinds_text health
    ++ table_line health table

-- when the ring was broken, and where
unfoldable pub brief_text : Health → List ℕ
brief_text health = all_spans health ++ breaks_text health

abbrev pub middle_text : Health → List ℕ → ℕ → Bool → List ℕ
middle_text health asked table is_full = if is_full then full_text health asked table else brief_text health

unfoldable pub report_text : Health → List ℕ → ℕ → Bool → List ℕ
report_text health asked table is_full = head_line is_full health ++ middle_text health asked table is_full ++ reasons_text health
