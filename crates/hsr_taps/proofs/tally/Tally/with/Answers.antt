use Rattle.std.proofs.Common.{◌∙◌, ap, arith, rules}
use Rattle.std.specs.Prelude.{is_some}
use Rattle.hsr_taps.specs.Tallies.{has_lane, is_cut, is_flagged, is_malformed, is_unread, is_untagged}
use Rattle.hsr_taps.proofs.Tallying.{kind_more, length_more, same_tally, such_more}
use Rattle.hsr_taps.proofs.tally.Tally.with.Goals as goal

pub returns : goal.returns
returns c = λ packets few is.
    let p = c.args.packet.now in
    let kind = c.copy_of-kind.result in
    let kind_is = c.copy_of-kind.ensures.found in
    same_tally _ _ (length_more packets p c.args.self.packets _ (ap (λ t. t.packets) is) (omega (arith, few, ap (λ t. t.packets) is)))
    (kind_more is_untagged packets p c.args.self.untagged _ _ kind few (ap (λ t. t.untagged) is) c.more-untagged.ensures c.is_untagged.ensures kind_is)
    (kind_more is_malformed packets p c.args.self.malformed _ _ kind few (ap (λ t. t.malformed) is) c.more-malformed.ensures c.is_malformed.ensures kind_is)
    (kind_more is_unread packets p c.args.self.unread _ _ kind few (ap (λ t. t.unread) is) c.more-unread.ensures c.is_unread.ensures kind_is)
    (such_more is_cut packets p c.args.self.cut _ _ few (ap (λ t. t.cut) is) c.more-cut.ensures (search rules))
    (kind_more (has_lane 0) packets p c.args.self.lane_a _ _ kind few (ap (λ t. t.lane_a) is) c.more-lane_a.ensures c.has_lane.ensures kind_is)
    (kind_more (has_lane 1) packets p c.args.self.lane_b _ _ kind few (ap (λ t. t.lane_b) is) c.more-lane_b.ensures c.has_lane-2.ensures kind_is)
    (such_more is_flagged packets p c.args.self.flagged _ _ few (ap (λ t. t.flagged) is) c.more-flagged.ensures (c.is_some.ensures ∙ ap is_some c.way.ensures))
