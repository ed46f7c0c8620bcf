-- What becomes of each copy, and whether a device conforms: nothing is left over, and something was compared.
use Rattle.std.specs.Prelude.{ℕ, ◌+◌, ◌-◌, ◌/◌, ◌==◌, ◌&&◌, ◌||◌, not, nat_le, nat_lt, slice_get, slice_index, unwrap_or, Bool, true, false, List, [], ◌∷◌, Option, Some, None, Result, Ok, Err, if◌then◌else◌}
use Rattle.std.specs.List.{list_all, list_any}
use Rattle.hsr_frame.specs.Address.{is_group}
use Rattle.hsr_frame.specs.Cases.{first_of}
use Rattle.hsr_frame.specs.Egress.{is_supervision}
use Rattle.hsr_frame.specs.declared.fault.FrameFault.{FrameFault}
use Rattle.hsr_tag.specs.Seen.{classified}
use Rattle.hsr_tag.specs.declared.seen.Seen.{Seen}
use Rattle.hsr_tag.specs.declared.seen.Seen.TheVariants.{Plain, Tagged}
use Rattle.hsr_tap_device.specs.Device.{DeviceFields}
use Rattle.hsr_tap_device.specs.Words.{is_same_end}
use Rattle.hsr_tap_device.specs.declared.device.Down.{Down}
use Rattle.hsr_tap_device.specs.declared.device.End.{End}
use Rattle.hsr_tap_device.specs.declared.device.End.TheVariants as at
use Rattle.hsr_tap_device.specs.declared.device.Ignored.{Ignored}
use Rattle.hsr_playback.specs.Passages.{us}
use Rattle.hsr_playback.specs.declared.expected.Expected.{Expected}
use Rattle.hsr_playback.specs.declared.passage.Passage.{Passage}
use Rattle.hsr_playback.specs.Taken.{goes_on}
use Rattle.hsr_playback.specs.declared.taken.Jump.{Jump}
use Rattle.hsr_judging.specs.Matching.{Matched}
use Rattle.hsr_judging.specs.Numbers.{jumps_in}
use Rattle.hsr_judging.specs.Windows.{us_from}
use Rattle.hsr_judging.specs.declared.fates.ExpectedFate.{ExpectedFate}
use Rattle.hsr_judging.specs.declared.fates.ExpectedFate.TheVariants as expected
use Rattle.hsr_judging.specs.declared.fates.ObservedFate.{ObservedFate}
use Rattle.hsr_judging.specs.declared.fates.ObservedFate.TheVariants as observed
use Rattle.hsr_judging.specs.declared.matching.Got.{Got}
use Rattle.hsr_judging.specs.declared.matching.Word.{Word}
use Rattle.hsr_judging.specs.declared.matching.Word.TheVariants.{Same, Late, Altered}

-- ---- a copy that nothing caused

-- 01-80-C2-00-00-00 to 0F
abbrev pub is_link_local : List ℕ → Bool
is_link_local mac =
    (slice_index mac 0 == 1) && ((slice_index mac 1 == 128) && ((slice_index mac 2 == 194)
    && ((slice_index mac 3 == 0) && ((slice_index mac 4 == 0) && nat_le (slice_index mac 5) 15))))

abbrev pub may_leave : Ignored → End → List ℕ → ℕ → Bool → Bool
may_leave ignored at.Up dst kind is_plain = ignored.life_up && is_supervision dst kind
may_leave ignored at.I dst kind is_plain = ignored.interlink_flood && not (is_group dst)
may_leave ignored _ dst kind is_plain = ignored.link_local && (is_plain && is_link_local dst)

-- a frame that nothing caused may leave by an end
abbrev pub is_let_pass : Ignored → End → Result Seen FrameFault → Bool
is_let_pass ignored out (Ok (Plain f)) = may_leave ignored out f.dst f.kind true
is_let_pass ignored out (Ok (Tagged f)) = may_leave ignored out f.dst f.kind false
is_let_pass ignored out (Err fault) = false

abbrev pub unmatched_fate : DeviceFields → Passage → ObservedFate
unmatched_fate device s = first_of
    ((nat_lt (us s.moment) device.times.warm, observed.Open)
    ∷ (is_let_pass device.ignored s.end (classified s.octets), observed.Ignored)
    ∷ [])
    observed.Extra

-- ---- a copy that was matched

-- a number that isn't the next comes before lateness
abbrev pub matched_fate : Word → Jump → ObservedFate
matched_fate Same jump = if goes_on jump then observed.Same else observed.Altered
matched_fate Late jump = if goes_on jump then observed.Late else observed.Altered
matched_fate Altered jump = observed.Altered

-- ---- observed copies

abbrev pub observed_fate : DeviceFields → Passage → Option Got → Jump → ObservedFate
observed_fate device s None jump = unmatched_fate device s
observed_fate device s (Some got) jump = matched_fate got.word jump

abbrev pub got_at : List (Option Got) → ℕ → Option Got
got_at gots k = unwrap_or (slice_get gots k) None

-- of those from an index on
abbrev pub observed_from : DeviceFields → List (Option Got) → List Jump → ℕ → List Passage → List ObservedFate
observed_from device gots jumps k [] = []
observed_from device gots jumps k (s ∷ ss) = observed_fate device s (got_at gots k) (jumps_in jumps k) ∷ observed_from device gots jumps (k + 1) ss

abbrev pub observed_fates : DeviceFields → List Passage → List (Option Got) → List Jump → List ObservedFate
observed_fates device ss gots jumps = observed_from device gots jumps 0 ss

-- ---- expected copies

-- copies by an end may be missing at a moment
abbrev pub is_down : List Down → End → ℕ → Bool
is_down downs out at = list_any (λ d. is_same_end d.port out && (nat_le d.from at && nat_lt at d.until)) downs

abbrev pub is_life : Result Seen FrameFault → Bool
is_life (Ok (Plain f)) = is_supervision f.dst f.kind
is_life (Ok (Tagged f)) = is_supervision f.dst f.kind
is_life (Err fault) = false

abbrev pub goes_up : End → Bool
goes_up at.Up = true
goes_up _ = false

-- supervision that goes up
abbrev pub is_life_up : Expected → Bool
is_life_up e = goes_up e.out && is_life (classified e.octets)

-- it may have come outside of the capture: it was caused before the device was warm, or its window ends behind the last moment
abbrev pub is_open : DeviceFields → ℕ → Expected → Bool
is_open device last e = nat_lt (us e.moment) device.times.warm || (not device.whole && nat_lt (us_from e.moment last) device.times.within)

abbrev pub may_be_missing : DeviceFields → Expected → Bool
may_be_missing device e = is_down device.downs e.out (us e.moment) || (device.ignored.life_up && is_life_up e)

abbrev pub expected_fate : DeviceFields → ℕ → Expected → Bool → ExpectedFate
expected_fate device last e is_alone = first_of
    ((not is_alone, expected.Matched)
    ∷ (is_open device last e, expected.Open)
    ∷ (may_be_missing device e, expected.Ignored)
    ∷ [])
    expected.Missing

-- of those from an index on
abbrev pub expected_from : DeviceFields → ℕ → List Bool → ℕ → List Expected → List ExpectedFate
expected_from device last alone i [] = []
expected_from device last alone i (e ∷ es) =
    expected_fate device last e (unwrap_or (slice_get alone i) true) ∷ expected_from device last alone (i + 1) es

abbrev pub expected_fates : DeviceFields → ℕ → List Expected → List Bool → List ExpectedFate
expected_fates device last es alone = expected_from device last alone 0 es

-- ---- the verdict

-- it is the same, or need not be
abbrev pub is_well : ObservedFate → Bool
is_well observed.Same = true
is_well observed.Ignored = true
is_well observed.Open = true
is_well observed.Late = false
is_well observed.Altered = false
is_well observed.Extra = false

abbrev pub is_same : ObservedFate → Bool
is_same observed.Same = true
is_same _ = false

-- it was matched, or need not be
abbrev pub is_found : ExpectedFate → Bool
is_found expected.Missing = false
is_found _ = true

abbrev pub conforms : List ObservedFate → List ExpectedFate → Bool
conforms os es = list_all is_well os && (list_all is_found es && list_any is_same os)
