use Rattle.std.proofs.Common.{rules, ◌≡◌, List, length, subst}
use Rattle.std.specs.Prelude.{IfErr, IfOk}
use Rattle.hsr_plays.specs.Spans.{spans_from}
use Rattle.hsr_plays.specs.declared.span.SendSpan.{SendSpan}
use Rattle.hsr_certify.specs.Tested.{IsFirstFound, IsPassed}
use Rattle.hsr_certify.specs.Verdict.{subject_in}
use Rattle.hsr_certify.specs.declared.certifying.Certified.{Certified}
use Rattle.hsr_certify.proofs.certifying.tested.Goals as goal

pub returns-clause-certified : goal.returns-clause-certified
returns-clause-certified c =
    let are : c.as_slice.result.now ≡ spans_from c.args.within 0 0 c.args.orders.now = search rules in
    subst (λ (xs : List SendSpan). IfOk c.certify_spans.result (λ (r : Certified). IsPassed (subject_in c.args.topology.now c.args.room c.args.table c.args.orders.now xs) × (r.sends ≡ length xs)))
    are c.certify_spans.ensures.certified

pub returns-clause-first : goal.returns-clause-first
returns-clause-first c =
    let are : c.as_slice.result.now ≡ spans_from c.args.within 0 0 c.args.orders.now = search rules in
    subst (λ (xs : List SendSpan). IfErr c.certify_spans.result (IsFirstFound (subject_in c.args.topology.now c.args.room c.args.table c.args.orders.now xs)))
    are c.certify_spans.ensures.first
