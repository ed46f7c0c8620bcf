use Rattle.std.proofs.Common.{◌≡◌, ◌∙◌}
use Rattle.hsr_judging.proofs.Parted.{parted, three_turns}
use Rattle.hsr_judging.specs.Matching.{Matched, matched, views}
use Rattle.hsr_judging.proofs.matching.matching_of.Goals as goal

pub returns : goal.returns
returns c =
    let times = c.args.times.now in
    let rule = c.args.rule in
    let es = c.args.expected.now in
    let seen = c.args.observed.now in
    let value : ◌≡◌ {A = Matched} (c.in_ok-gots.gots.items, c.take_turn-3.new.alone.items) (matched times rule es (views seen)) =
    three_turns times rule es seen _ _ _ _ _ _ _ _ _ _ _ _ _ c.turn_of-same.ensures c.turn_of-late.ensures c.turn_of-altered.ensures
    (c.in_ok-alone.ensures.items_if_clones_equal (λ y same. same)) (c.as_slice-nothing.ensures.value ∙ c.in_ok-none.ensures) c.as_slice-firsts.ensures.value c.as_slice-seconds.ensures.value
    c.in_ok-first.ensures.value c.in_ok-second.ensures.value c.in_ok-gots.ensures.value in
    record { value = value; partition = parted times rule es (views seen) _ value; long = c.in_ok-gots.ensures.long }
