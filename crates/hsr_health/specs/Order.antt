-- Which reason comes first: those of the capture, those of the tap, sources that are absent, a silence or a restart that covers a
-- break, and then the order of the table. The verdict is the first of them.
use Rattle.std.specs.Prelude.{ℕ, ◌==◌, ◌&&◌, not, nat_le, Bool, if◌then◌else◌, List, filter}
use Rattle.std.specs.List.{flat_map, list_any, range_with_len, sum_by}
use Rattle.hsr_health.specs.Broken.{is_thin_by}
use Rattle.hsr_heard.specs.declared.abouts.Silence.{Silence}
use Rattle.hsr_health.specs.declared.broken.Span.{Span}
use Rattle.hsr_health.specs.declared.counts.Counts.{Counts}
use Rattle.hsr_health.specs.declared.order.Facts.{Facts}
use Rattle.hsr_health.specs.declared.reason.Reason.{Reason}
use Rattle.hsr_health.specs.declared.reason.Word.{Word}
use Rattle.hsr_health.specs.declared.reason.Word.TheVariants as word
use Rattle.hsr_number_runs.specs.declared.run.Restart.{Restart}

abbrev pub rank_of : Word → Facts → ℕ
rank_of word.Empty facts = 0
rank_of word.Unjudged facts = 1
rank_of word.Dropped facts = 2
rank_of word.OneSided facts = 3
rank_of word.Lane facts = if facts.lane_is_common then 4 else 23
rank_of word.Absent facts = 5
rank_of word.Silent facts = if facts.silence_covers then 6 else 18
rank_of word.Restart facts = if facts.restart_covers then 7 else 16
rank_of word.Storm facts = 8
rank_of word.Again facts = 9
rank_of word.Clash facts = 10
rank_of word.Late facts = 11
rank_of word.OneWay facts = if facts.one_source then 12 else 15
rank_of word.Lost facts = 13
rank_of word.Overtaken facts = 14
rank_of word.Crowded facts = 17
rank_of word.Life facts = 19
rank_of word.Malformed facts = 20
rank_of word.Untagged facts = 21
rank_of word.Size facts = 22

-- by rank; those of one rank stay as they stood
abbrev pub in_order : Facts → List Reason → List Reason
in_order facts reasons = flat_map (λ rank. filter (λ reason. rank_of reason.word facts == rank) reasons) (range_with_len 0 24)

-- ---- what decides the order, beside the table

-- a break began in a time
abbrev pub begins_in : ℕ → ℕ → Span → Bool
begins_in from until span = not (is_thin_by span.by_0.items span.by_1.items) && (nat_le from span.first && nat_le span.first until)

abbrev pub began_in : List Span → ℕ → ℕ → Bool
began_in spans from until = list_any (begins_in from until) spans

-- a break began in one of the silences, or before numbers began anew, since the last one before
abbrev pub silence_covers : List Span → List Silence → Bool
silence_covers spans silences = list_any (λ s. began_in spans s.from s.until) silences

abbrev pub restart_covers : List Span → List Restart → Bool
restart_covers spans restarts = list_any (λ r. began_in spans r.since r.at) restarts

-- how many copies have another lane than their direction
abbrev pub wrong_lanes : List Counts → ℕ
wrong_lanes counts = sum_by (λ own. own.lane) counts
