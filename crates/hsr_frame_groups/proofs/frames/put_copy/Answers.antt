use Rattle.std.proofs.Common.{◌∷◌, subst}
use Rattle.hsr_recent_table.specs.Recent.{Knows, Put}
use Rattle.hsr_frame_groups.proofs.Grouping.{put_same}
use Rattle.hsr_frame_groups.proofs.frames.put_copy.Goals as goal

pub returns-clause-knows : goal.returns-clause-knows
returns-clause-knows c = λ puts known.
    subst (λ (put : Put). Knows c.put.new.self (put ∷ puts)) (put_same c.at.result c.key_of.result c.args.first c.args.caught.now c.at.ensures c.key_of.ensures)
    (c.in_ok-put.ensures.knows puts known)
