-- What the options of `report` choose.
use Rattle.std.specs.Prelude.{Option, codes}
use Rattle.clap.specs.Words.{App, Text, new_app, with_rule}
use Rattle.hsr_cli.specs.Flags.{IsGiven, word_rule}
use Rattle.hsr_cli.specs.Sweeping.{IsLimit, IsMoment, at_rule, with_limits}
use Rattle.hsr_cli.specs.Within.{IsWithin}
use Rattle.hsr_cli.specs.declared.task.ReportWords.{ReportWords}

-- ---- the command line

abbrev pub report_app : App
report_app = with_limits (with_rule (with_rule (with_rule (new_app (codes "report")) (word_rule (codes "date"))) at_rule) (word_rule (codes "within")))

-- ---- what is chosen

-- a page is what the values of its options choose; any text is a date
abbrev pub IsReport : (Text → Option Text) → ReportWords → Type 0
IsReport found words = IsGiven found (codes "date") words.date × IsMoment (found (codes "at-us")) words.at × IsWithin (found (codes "within")) words.within
    × IsLimit (found (codes "limit-load")) words.limit_load × IsLimit (found (codes "limit-latency")) words.limit_latency
