use Rattle.std.proofs.Common.{◌≤◌, ◌∙◌, List, length, ap, sym, arith, drop_of_length-le}
use Rattle.std.specs.Prelude.{fold}
use Rattle.hsr_load.specs.Sums.{more}
use Rattle.hsr_load.specs.declared.load.ChannelLoad.{ChannelLoad}
use Rattle.hsr_load.proofs.Most.{most_is}
use Rattle.hsr_load.proofs.load.most_of.Goals as goal

pub returns : goal.returns
returns c =
    let loads : List ChannelLoad = c.args.loads.now in
    let all : length loads ≤ c.loop-load.load-index = omega arith in
    sym (ap (λ (rest : List ChannelLoad). fold more c.loop-load.most rest) (drop_of_length-le loads all)) ∙ (c.loop-load.invariant ∙ most_is loads)
