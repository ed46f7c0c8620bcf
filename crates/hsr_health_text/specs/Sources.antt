-- Sources and whom supervision tells of.
use Rattle.std.specs.Prelude.{ℕ, ◌-◌, ◌==◌, ◌&&◌, nat_lt, if◌then◌else◌, List, [], ◌++◌, codes, length, Option, Some, None, option_map, slice_get, unwrap_or}
use Rattle.std.specs.List.{flat_map, range_with_len}
use Rattle.hsr_supervision.specs.declared.payload.SupKind.{SupKind}
use Rattle.hsr_supervision.specs.declared.payload.SupKind.TheVariants as kind
use Rattle.hsr_text.specs.Words.{mac_text}
use Rattle.hsr_heard.specs.declared.abouts.About.{About}
use Rattle.hsr_health.specs.declared.counts.Counts.{Counts}
use Rattle.hsr_health.specs.declared.counts.Fates.{Fates}
use Rattle.hsr_health.specs.declared.health.Health.{Health}
use Rattle.hsr_health.specs.declared.ledger.GroupNumbers.{GroupNumbers}
use Rattle.hsr_health_text.specs.Words.{mac_or_dash, maybe_text, pair_text, spread_text, us_since}

-- ---- sources

unfoldable pub fates_text : Fates → List ℕ
fates_text fates =
    pair_text (codes "twice") fates.twice ++ pair_text (codes "once") fates.once ++ pair_text (codes "more") fates.more
    ++ pair_text (codes "open") fates.open

abbrev pub numbers_if : Option GroupNumbers → GroupNumbers
numbers_if (Some numbers) = numbers
numbers_if None = record { gaps = 0; missing = 0; restarts = 0 }

-- what is told of a source's frames: how many, the first number and the last
unfoldable pub frames_text : Counts → List ℕ
frames_text own = pair_text (codes "frames") own.frames ++ pair_text (codes "first") own.first ++ pair_text (codes "last") own.last

-- its numbers are those of its group, which a RedBox and its stations share; elsewhere are those that others of the group had
unfoldable pub gaps_text : GroupNumbers → ℕ → List ℕ
gaps_text numbers elsewhere =
    pair_text (codes "gaps") numbers.gaps ++ pair_text (codes "missing") numbers.missing ++ pair_text (codes "elsewhere") elsewhere
    ++ pair_text (codes "restarts") numbers.restarts

unfoldable pub flaws_text : Counts → List ℕ
flaws_text own =
    pair_text (codes "clashes") own.clashes ++ pair_text (codes "late") own.late ++ pair_text (codes "size") own.size
    ++ pair_text (codes "lane") own.lane

unfoldable pub source_line : List ℕ → Counts → GroupNumbers → ℕ → List ℕ
source_line mac own numbers elsewhere =
    codes "source " ++ mac_text mac ++ frames_text own ++ gaps_text numbers elsewhere ++ flaws_text own ++ codes "\n"

unfoldable pub copies_line : List ℕ → Counts → List ℕ
copies_line mac own =
    codes "copies " ++ mac_text mac ++ codes " group" ++ fates_text own.group ++ codes " single" ++ fates_text own.single ++ codes "\n"

unfoldable pub skew_line : List ℕ → Counts → List ℕ
skew_line mac own = codes "skew " ++ mac_text mac ++ spread_text own.skew ++ codes "\n"

-- supervision frames that can be read, their numbers that are missing, and those that can't be read
unfoldable pub lives_text : Counts → ℕ → List ℕ
lives_text own missing =
    pair_text (codes "frames") own.lives ++ pair_text (codes "missing") missing ++ pair_text (codes "unreadable") own.unreadable

unfoldable pub supervision_name : List ℕ → List ℕ
supervision_name mac = codes "supervision " ++ mac_text mac

unfoldable pub supervision_line : List ℕ → Counts → ℕ → List ℕ
supervision_line mac own missing = supervision_name mac ++ lives_text own missing ++ codes "\n"

-- where there were any
abbrev pub supervision_if : List ℕ → Counts → ℕ → List ℕ
supervision_if mac own missing = if (own.lives == 0) && (own.unreadable == 0) then [] else supervision_line mac own missing

-- the numbers of a source's group, by its index
abbrev pub numbers_at : Health → ℕ → GroupNumbers
numbers_at health i = numbers_if (slice_get health.numbers.items (unwrap_or (slice_get health.groups.items i) 0))

abbrev pub missing_at : Health → ℕ → ℕ
missing_at health i = (numbers_if (slice_get health.life_numbers.items i)).missing

unfoldable pub source_text : Health → ℕ → List ℕ → Counts → List ℕ
source_text health i mac own =
    source_line mac own (numbers_at health i) (unwrap_or (slice_get health.elsewhere.items i) 0) ++ copies_line mac own ++ skew_line mac own
    ++ supervision_if mac own (missing_at health i)

abbrev pub source_if : Health → ℕ → Option (List ℕ) → Option Counts → List ℕ
source_if health i (Some mac) (Some own) = source_text health i mac own
source_if health i (Some mac) None = []
source_if health i None own = []

abbrev pub source_at : Health → ℕ → List ℕ
source_at health i = source_if health i (slice_get health.sources.items i) (slice_get health.counts.items i)

unfoldable pub sources_text : Health → List ℕ
sources_text health = flat_map (source_at health) (range_with_len 0 (length health.sources.items))

-- ---- nodes

abbrev pub kind_word : SupKind → List ℕ
kind_word kind.PrpDiscard = codes "prp"
kind_word kind.PrpAccept = codes "prp-accept"
kind_word kind.Hsr = codes "hsr"

-- a node is known for 60 s after supervision about it
abbrev pub known_word : ℕ → About → List ℕ
known_word end about = if nat_lt (end - about.last) 60000000000 then codes " known kind " else codes " forgotten kind "

unfoldable pub who_text : About → List ℕ
who_text about = codes " redbox " ++ mac_or_dash about.redbox ++ codes " from " ++ mac_text about.source

-- when supervision about it came, by each way
unfoldable pub heard_text : ℕ → About → List ℕ
heard_text start about =
    pair_text (codes "heard") about.heard ++ codes " every" ++ spread_text about.every ++ codes " last"
    ++ maybe_text (codes "way-0") (option_map (us_since start) about.by_0) ++ maybe_text (codes "way-1") (option_map (us_since start) about.by_1)

unfoldable pub node_line : ℕ → ℕ → About → List ℕ
node_line start end about =
    codes "node " ++ mac_text about.mac ++ known_word end about ++ kind_word about.kind ++ who_text about ++ heard_text start about ++ codes "\n"

unfoldable pub nodes_text : Health → List ℕ
nodes_text health = flat_map (node_line health.outline.start health.outline.end) health.abouts.items
