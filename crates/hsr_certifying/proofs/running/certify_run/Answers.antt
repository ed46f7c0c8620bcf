use Rattle.std.proofs.Common.{ℕ, ◌^◌, IfSome, List, subst, sym}
use Rattle.hsr_text.specs.Whole.{IsWhole}
use Rattle.hsr_certifying.proofs.Ending.{told_text}
use Rattle.hsr_certifying.proofs.running.certify_run.Goals as goal

pub returns-in-Ok : goal.returns-in-Ok
returns-in-Ok g c =
    let all = g.R.Read.remaining c.args.reader.now in
    told_text c.args.question all c.as_slice.result.now _ _ c.tell.result
    (subst (λ (read : List ℕ). IfSome all (λ text. IsWhole (2 ^ 24) text read)) (sym c.as_slice.ensures.value) c.in-Ok.ensures.ok) c.tell.ensures
