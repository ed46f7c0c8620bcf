use Rattle.std.proofs.Common.{◌∙◌, List, [], subst}
use Rattle.hsr_node.specs.Kept.{Receipts, Record}
use Rattle.hsr_finished_run.specs.Reached.{AllFollow}
use Rattle.hsr_finished_run.proofs.Reaching.{start_follow, told_all}
use Rattle.hsr_finished_run.proofs.reached.reached_by.Goals as goal

pub returns : goal.returns
returns g c =
    let kept = c.args.kept.now in
    let passes = c.args.passes.now in
    let old = c.in_ok-all.all.items in
    let new = c.follow_passes.new.all.items in
    let Goes : List Record → Type 0 = λ rs. (whole : List Receipts) → AllFollow rs whole passes old → AllFollow rs whole [] new in
    let goes = subst Goes c.in_ok-turns.ensures c.in_ok-follow_passes.ensures.follow in
    told_all kept passes _ new c.mark_records.new.all.items (c.in_ok-follow_passes.ensures.count ∙ c.in_ok-all.ensures.count)
    (goes passes (start_follow kept passes old c.in_ok-all.ensures.start)) c.mark_records.ensures
