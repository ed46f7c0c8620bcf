-- What the options of `sweep` choose.
use Rattle.std.specs.Prelude.{◌≡◌, ◌≤◌, ◌^◌, ◌==◌, ℕ, Option, Some, None, codes}
use Rattle.std.specs.List.{after_first, before_first}
use Rattle.clap.specs.Words.{App, Rule, Text, new_app, with_rule}
use Rattle.hsr_text.specs.Words.{decimal_of}
use Rattle.hsr_cli.specs.Flags.{IsSet, default_rule, flag_rule, word_rule}
use Rattle.hsr_cli.specs.declared.task.Part.{Part}
use Rattle.hsr_cli.specs.declared.task.SweepWords.{SweepWords}

-- ---- the command line

-- `--at-us`, with its default
abbrev pub at_rule : Rule
at_rule = default_rule (codes "at-us") (codes "0")

-- with the limits that its verdict may have
abbrev pub with_limits : App → App
with_limits app = with_rule (with_rule app (word_rule (codes "limit-load"))) (word_rule (codes "limit-latency"))

abbrev pub sweep_app : App
sweep_app =
    with_limits (with_rule (with_rule (with_rule (with_rule (new_app (codes "sweep")) at_rule) (flag_rule (codes "without-events"))) (flag_rule (codes "pairs"))) (word_rule (codes "part")))

-- ---- what is chosen

-- a moment that a plan may name, in decimal
abbrev pub IsMoment : Option Text → ℕ → Type 0
IsMoment None at = ⊥
IsMoment (Some word) at = (decimal_of word ≡ Some at) × (at ≤ 2 ^ 40)

-- a limit by a word: none without one, else a number up to 2^40, in decimal
abbrev pub IsLimit : Option Text → Option ℕ → Type 0
IsLimit None limit = limit ≡ None
IsLimit (Some word) None = ⊥
IsLimit (Some word) (Some limit) = IsMoment (Some word) limit

-- a part by a word: none without one, else two numbers in decimal with a slash between, the first from 1 to the second
abbrev pub IsPart : Option Text → Option Part → Type 0
IsPart None part = part ≡ None
IsPart (Some word) None = ⊥
IsPart (Some word) (Some part) =
    (decimal_of (before_first (λ b. b == 47) word) ≡ Some part.number) × (decimal_of (after_first (λ b. b == 47) word) ≡ Some part.of)
    × (1 ≤ part.number) × (part.number ≤ part.of)

-- a sweep is what the values of its options choose
abbrev pub IsSweep : (Text → Option Text) → SweepWords → Type 0
IsSweep found asked = IsMoment (found (codes "at-us")) asked.at × IsSet found (codes "without-events") asked.without_events × IsSet found (codes "pairs") asked.pairs
    × IsPart (found (codes "part")) asked.part × IsLimit (found (codes "limit-load")) asked.limit_load × IsLimit (found (codes "limit-latency")) asked.limit_latency
