use Rattle.std.proofs.Common.{◌≡◌, ◌↔◌, IsTrue, ℕ, List, [], drop, length, sym, subst}
use Rattle.hsr_finished_run.specs.Reached.{AreUsedUp}
use Rattle.hsr_finished_run.specs.Told.{IsRest}
use Rattle.hsr_finished_run.proofs.MainPass.{drop_all}
use Rattle.hsr_finished_run.proofs.Telling.{rest_none}
use Rattle.hsr_finished_run.proofs.told.is_told.Goals as goal

pub returns : goal.returns
returns g c =
    let kept = c.args.kept.now in
    let next = c.loop-i.next.items in
    let none : drop c.loop-i.i c.args.plan.now ≡ [] = drop_all c.args.plan.now c.loop-i.i c.loop-i-test.false in
    let Used : List ℕ → Type 0 = λ xs. IsTrue c.are_used_up.result ↔ AreUsedUp kept 0 xs (length kept) in
    let used = subst Used c.as_slice.ensures.value c.are_used_up.ensures in
    let rest = rest_none kept next in (
      λ up. c.loop-i.invariant.left.0 (subst (IsRest kept next) (sym none) (rest.0 (used.0 up))),
      λ told. used.1 (rest.1 (subst (IsRest kept next) none (c.loop-i.invariant.left.1 told))),
    )
