use Rattle.std.proofs.Common.{List, Bool, ℕ, false, sym, subst}
use Rattle.std.specs.Global.{Global}
use Rattle.std.specs.Prelude.{IsTrue, Vec}
use Rattle.hsr_timeline.specs.declared.stamp.Stamp.{Stamp}
use Rattle.std.proofs.lemmas.List.{length-map}
use Rattle.hsr_timeline.specs.Fronts.{AreAllKnown, AreBlocked, items_of, lists_of}
use Rattle.hsr_timeline.proofs.Circles.{none_left}
use Rattle.hsr_timeline.proofs.timing.stamps.Goals as goal

pub returns-else-are_all_known-clause-circle : goal.returns-else-are_all_known-clause-circle
returns-else-are_all_known-clause-circle c =
    let records = lists_of c.args.records.now in
    let stamps = lists_of c.settle.new.stamps.items in
    let P : ℕ → Type 0 = λ n. AreBlocked records stamps n in
    none_left records stamps c.in_ok-settle.ensures.front (subst P (sym (length-map c.args.records.now items_of)) c.in_ok-settle.ensures.blocked)
    (λ (all : AreAllKnown records stamps).
    let Q : List (Vec Stamp Global) → Type 0 = λ rows. AreAllKnown records (lists_of rows) in
    let told : IsTrue c.are_all_known.result = c.are_all_known.ensures.1 (subst Q (sym c.as_slice.ensures.value) all) in
    let B : Bool → Type 0 = λ b. IsTrue b in
    let h : IsTrue false = subst B c.if-are_all_known.false told in
    absurd (cc))
