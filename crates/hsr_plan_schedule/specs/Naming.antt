-- The names of a plan's streams: a kind and a number, as goose1, sv2 and other1.
use Rattle.std.specs.Prelude.{ℕ, ◌+◌, List, [], ◌∷◌, ◌++◌, codes}
use Rattle.std.specs.Fmt.{decimal}
use Rattle.hsr_plan_text.specs.Plan.{Stream}
use Rattle.hsr_plan_text.specs.declared.plan.Kind.{Kind}
use Rattle.hsr_plan_text.specs.declared.plan.Kind.TheVariants.{Goose, SampledValues, Number}
use Rattle.hsr_plan_schedule.specs.declared.naming.Counts.{Counts}

abbrev pub kind_word : Kind → List ℕ
kind_word Goose = codes "goose"
kind_word SampledValues = codes "sv"
kind_word (Number n) = codes "other"

-- how many streams there are of a kind
abbrev pub count_of : Kind → Counts → ℕ
count_of Goose counts = counts.goose
count_of SampledValues counts = counts.sampled
count_of (Number n) counts = counts.other

abbrev pub none : Counts
none = record { goose = 0; sampled = 0; other = 0 }

abbrev pub with_more : Kind → ℕ → Counts → Counts
with_more Goose more counts = record counts { goose = counts.goose + more }
with_more SampledValues more counts = record counts { sampled = counts.sampled + more }
with_more (Number n) more counts = record counts { other = counts.other + more }

-- the name of the last stream of a kind, where there are so many
abbrev pub stream_name : Kind → Counts → List ℕ
stream_name kind counts = kind_word kind ++ decimal (count_of kind counts)

-- the names of streams, before which there are so many
abbrev pub names_from : Counts → List Stream → List (List ℕ)
names_from counts [] = []
names_from counts (s ∷ ss) = stream_name s.framing.kind (with_more s.framing.kind 1 counts) ∷ names_from (with_more s.framing.kind 1 counts) ss

-- the names of a plan's streams: those of each kind are numbered from 1
abbrev pub stream_names : List Stream → List (List ℕ)
stream_names streams = names_from none streams
