-- The first line, and the lines of interfaces.
use Rattle.std.specs.Prelude.{ℕ, ◌+◌, ◌-◌, ◌/◌, ◌^◌, ◌==◌, ◌||◌, min, nat_lt, Bool, if◌then◌else◌, List, [], ◌++◌, codes, length, Option, Some, None, slice_get}
use Rattle.std.specs.Fmt.{decimal}
use Rattle.std.specs.List.{flat_map, list_any, range_with_len}
use Rattle.hsr_capture_reader.specs.Fields.{InterfaceFields, dropped}
use Rattle.hsr_capture_reader.specs.declared.fields.Losses.{Losses}
use Rattle.hsr_packet_order.specs.declared.disorder.Disorder.{Disorder}
use Rattle.hsr_taps.specs.declared.direction.Taps.{Taps}
use Rattle.hsr_taps.specs.declared.direction.Taps.TheVariants as taps
use Rattle.hsr_taps.specs.declared.tally.Tally.{Tally}
use Rattle.hsr_health.specs.declared.health.Health.{Health}
use Rattle.hsr_health.specs.declared.load.Load.{Load}
use Rattle.hsr_health_text.specs.Words.{maybe_text, name_text, pair_text, rate_text, time_text, us_since}

-- ---- the first line

-- the first packet's moment
abbrev pub start_text : Health → List ℕ
start_text health = if health.outline.packets == 0 then codes "-" else time_text health.outline.start

-- how far the file is out of the order of time; a brief report tells it where it is
abbrev pub disorder_text : Bool → Disorder → List ℕ
disorder_text is_full disorder =
    if is_full || nat_lt 0 disorder.packets then pair_text (codes "disorder") disorder.packets ++ pair_text (codes "by") (disorder.most / 1000)
    else []

abbrev pub end_text : Bool → List ℕ
end_text is_short = if is_short then codes " end short\n" else codes " end whole\n"

unfoldable pub head_line : Bool → Health → List ℕ
head_line is_full health =
    codes "health 1" ++ pair_text (codes "packets") (health.outline.packets)
    ++ pair_text (codes "interfaces") (length health.outline.interfaces.items) ++ pair_text (codes "us") (us_since health.outline.start health.outline.end)
    ++ codes " start " ++ start_text health ++ disorder_text is_full health.outline.disorder ++ end_text health.outline.is_short

-- ---- interfaces

-- how the directions of an interface are told apart
abbrev pub taps_word : Taps → List ℕ
taps_word taps.One = codes " taps one"
taps_word taps.Both = codes " taps both"
taps_word taps.Flags = codes " taps flags"

abbrev pub taps_if : Option Taps → List ℕ
taps_if (Some taps) = taps_word taps
taps_if None = []

-- copies of tagged frames, as far as a number of 64 bits counts them
abbrev pub tagged_of : Tally → ℕ
tagged_of tally = min (tally.lane_a + tally.lane_b) (2 ^ 64 - 1)

unfoldable pub tally_text : Tally → List ℕ
tally_text tally =
    pair_text (codes "packets") tally.packets ++ pair_text (codes "tagged") (tagged_of tally) ++ pair_text (codes "untagged") tally.untagged
    ++ pair_text (codes "malformed") tally.malformed ++ pair_text (codes "unread") tally.unread ++ pair_text (codes "cut") tally.cut

-- what the capture itself lost; none where it doesn't say
abbrev pub dropped_if : Option Losses → Option ℕ
dropped_if (Some losses) = dropped losses
dropped_if None = None

-- how much came, on average over so many microseconds, and the most in a millisecond and in a second
unfoldable pub load_text : ℕ → Load → List ℕ
load_text us load =
    codes " load average " ++ rate_text load.all us ++ codes " peak-1ms " ++ rate_text load.in_1ms 1000 ++ codes " peak-1s "
    ++ rate_text load.in_1s 1000000

abbrev pub load_if : ℕ → Option Load → List ℕ
load_if us (Some load) = load_text us load
load_if us None = []

-- what is told of an interface that is looked at
unfoldable pub looked_text : Health → ℕ → Tally → List ℕ
looked_text health i tally =
    tally_text tally ++ maybe_text (codes "dropped") (dropped_if (slice_get health.outline.losses.items i)) ++ taps_if (slice_get health.tapped.taps.items i)
    ++ load_if (us_since health.outline.start health.outline.end) (slice_get health.loads.items i)

-- one that isn't
unfoldable pub skipped_text : ℕ → List ℕ
skipped_text link = pair_text (codes "link") link ++ codes " skipped"

abbrev pub seen_text : Health → ℕ → ℕ → Option (Option Tally) → List ℕ
seen_text health i link (Some (Some tally)) = looked_text health i tally
seen_text health i link (Some None) = skipped_text link
seen_text health i link None = skipped_text link

unfoldable pub interface_line : Health → ℕ → InterfaceFields → List ℕ
interface_line health i interface =
    codes "interface " ++ decimal i ++ seen_text health i interface.link (slice_get health.tapped.tallies.items i) ++ codes " name "
    ++ name_text interface.name ++ codes "\n"

-- whether an interface is among those that are asked for; all are where none is named
abbrev pub is_asked : List ℕ → ℕ → Bool
is_asked asked i = (length asked == 0) || list_any (λ j. j == i) asked

abbrev pub line_if : Health → ℕ → Option InterfaceFields → List ℕ
line_if health i (Some interface) = interface_line health i interface
line_if health i None = []

abbrev pub line_at : List ℕ → Health → ℕ → List ℕ
line_at asked health i = if is_asked asked i then line_if health i (slice_get health.outline.interfaces.items i) else []

abbrev pub interfaces_text : List ℕ → Health → List ℕ
interfaces_text asked health = flat_map (line_at asked health) (range_with_len 0 (length health.outline.interfaces.items))
