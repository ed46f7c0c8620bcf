-- The rules that stimuli try: their words, and what a device that follows them does.
use Rattle.std.specs.Prelude.{ℕ, List, codes}
use Rattle.hsr_frame.specs.declared.fault.FrameFault.TheVariants as fault
use Rattle.hsr_frame.specs.declared.node.Cause.{Cause}
use Rattle.hsr_frame.specs.declared.node.Cause.TheVariants as cause
use Rattle.hsr_frame.specs.declared.node.Mode.{Mode}
use Rattle.hsr_frame.specs.declared.node.Mode.TheVariants.{H, N, U}
use Rattle.hsr_stimuli.specs.declared.rule.Rule.{Rule}
use Rattle.hsr_stimuli.specs.declared.rule.Rule.TheVariants as rule

abbrev pub rule_word : Rule → List ℕ
rule_word rule.ToGroup = codes "to-group"
rule_word rule.ToGroupSecond = codes "to-group-second"
rule_word rule.ToGroupAgain = codes "to-group-again"
rule_word rule.ToAnother = codes "to-another"
rule_word rule.ToAnotherSecond = codes "to-another-second"
rule_word rule.ToAnotherAgain = codes "to-another-again"
rule_word rule.ToDevice = codes "to-device"
rule_word rule.ToDeviceSecond = codes "to-device-second"
rule_word rule.ToDeviceAgain = codes "to-device-again"
rule_word rule.FromDevice = codes "from-device"
rule_word rule.InVlan = codes "vlan-tag"
rule_word rule.OtherPath = codes "other-path"
rule_word rule.WrongSize = codes "wrong-size"
rule_word rule.LeastPayload = codes "least-payload"
rule_word rule.LongestPayload = codes "longest-payload"
rule_word rule.Untagged = codes "untagged"
rule_word rule.SupervisionHsr = codes "supervision-hsr"
rule_word rule.SupervisionRedBox = codes "supervision-redbox"
rule_word rule.SupervisionDiscard = codes "supervision-prp"
rule_word rule.SupervisionAccept = codes "supervision-prp-accept"
rule_word rule.SupervisionCutOff = codes "supervision-cut-off"
rule_word rule.SupervisionKind = codes "supervision-kind"
rule_word rule.SupervisionLength = codes "supervision-length"
rule_word rule.SupervisionRedBoxLength = codes "supervision-redbox-length"
rule_word rule.Short = codes "short"
rule_word rule.Long = codes "long"
rule_word rule.LongUntagged = codes "long-untagged"
rule_word rule.GroupSource = codes "group-source"
rule_word rule.TwoVlanTags = codes "two-vlan-tags"
rule_word rule.VlanTagBehind = codes "vlan-tag-behind"
rule_word rule.ShortTag = codes "short-tag"
rule_word rule.NestedTag = codes "nested-tag"
rule_word rule.First = codes "first"
rule_word rule.Remembered = codes "remembered"
rule_word rule.Forgotten = codes "forgotten"
rule_word rule.Fill = codes "table"
rule_word rule.Full = codes "table-full"
rule_word rule.OneMore = codes "table-one-more"
rule_word rule.Kept = codes "table-kept"
rule_word rule.PushedOut = codes "table-pushed-out"
rule_word rule.NumberWraps = codes "number-wraps"
rule_word rule.NumberAgain = codes "number-again"
rule_word rule.NumberOfAnother = codes "number-of-another"
rule_word rule.Node = codes "node"
rule_word rule.StationToAnother = codes "station-to-another"
rule_word rule.StationToGroup = codes "station-to-group"
rule_word rule.StationToDevice = codes "station-to-device"
rule_word rule.StationToStation = codes "station-to-station"
rule_word rule.StationInVlan = codes "station-vlan-tag"
rule_word rule.DeviceAtInterlink = codes "device-at-interlink"
rule_word rule.TaggedAtInterlink = codes "tagged-at-interlink"
rule_word rule.ToStation = codes "to-station"
rule_word rule.ToStationSecond = codes "to-station-second"
rule_word rule.ToStationAgain = codes "to-station-again"
rule_word rule.StationOnRing = codes "station-on-ring"
rule_word rule.CameBack = codes "came-back"
rule_word rule.GroupCameBack = codes "group-came-back"
rule_word rule.Station = codes "station"
rule_word rule.ToOldestStation = codes "to-oldest-station"
rule_word rule.StationMore = codes "station-one-more"
rule_word rule.ToStationPushedOut = codes "to-station-pushed-out"
rule_word rule.ToStationKept = codes "to-station-kept"
rule_word rule.ToStationRemembered = codes "to-station-remembered"
rule_word rule.ToStationForgotten = codes "to-station-forgotten"

-- what goes on round the ring passes there, but not in mode N
abbrev pub onward : Mode → Cause → Cause
onward H otherwise = cause.Passed
onward U otherwise = cause.Passed
onward N otherwise = otherwise

-- what only goes on round the ring, and comes again
abbrev pub again : Mode → Cause
again H = cause.Duplicate
again U = cause.Duplicate
again N = cause.Foreign

-- the second copy of what was delivered goes on in mode U alone
abbrev pub delivered : Mode → Cause
delivered H = cause.Duplicate
delivered N = cause.Duplicate
delivered U = cause.Passed

-- the cause of the answer in a mode
abbrev pub awaited : Rule → Mode → Cause
awaited rule.ToGroupSecond mode = onward mode cause.Duplicate
awaited rule.ToGroupAgain mode = cause.Duplicate
awaited rule.ToAnother mode = onward mode cause.Foreign
awaited rule.ToAnotherSecond mode = onward mode cause.Foreign
awaited rule.ToAnotherAgain mode = again mode
awaited rule.ToDeviceSecond mode = delivered mode
awaited rule.ToDeviceAgain mode = cause.Duplicate
awaited rule.FromDevice mode = cause.Returned
awaited rule.Untagged mode = cause.Untagged
awaited rule.Short mode = cause.Malformed fault.Short
awaited rule.Long mode = cause.Malformed fault.Long
awaited rule.LongUntagged mode = cause.Malformed fault.Long
awaited rule.GroupSource mode = cause.Malformed fault.GroupSource
awaited rule.TwoVlanTags mode = cause.Malformed fault.DoubleVlan
awaited rule.VlanTagBehind mode = cause.Malformed fault.DoubleVlan
awaited rule.ShortTag mode = cause.Malformed fault.ShortTag
awaited rule.NestedTag mode = cause.Malformed fault.NestedTag
awaited rule.Remembered mode = cause.Duplicate
awaited rule.Full mode = cause.Duplicate
awaited rule.Kept mode = cause.Duplicate
awaited rule.NumberAgain mode = cause.Duplicate
awaited rule.StationToStation mode = cause.Local
awaited rule.DeviceAtInterlink mode = cause.Returned
awaited rule.TaggedAtInterlink mode = cause.Tagged
awaited rule.ToStationSecond mode = delivered mode
awaited rule.ToStationAgain mode = cause.Duplicate
awaited rule.CameBack mode = again mode
awaited rule.GroupCameBack mode = cause.Duplicate
awaited rule.ToStationPushedOut mode = onward mode cause.Foreign
awaited rule.ToStationForgotten mode = onward mode cause.Foreign
awaited _ mode = cause.Passed
