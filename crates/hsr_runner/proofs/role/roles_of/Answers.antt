use Rattle.std.proofs.Common.{[], ◌++◌, ◌∙◌, sym}
use Rattle.std.specs.List.{cons_option}
use Rattle.hsr_runner.proofs.Roles.{one_more}
use Rattle.hsr_runner.proofs.role.roles_of.Goals as goal

pub loop-number-preserved : goal.loop-number-preserved
loop-number-preserved c =
    c.in_ok-push_if.ensures
    ∙ ((λ j. c.loop-number.invariant j ++ cons_option (c.role_at.ensures j) []) ∙ sym (one_more c.args.topology.now c.loop-number.number))
