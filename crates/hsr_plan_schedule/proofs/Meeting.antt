-- What publishes nothing has no APPID of another's.
use Rattle.std.proofs.Common.{◌≡◌, List, [], ◌∷◌, false, refl, arith}
use Rattle.std.specs.List.{list_any}
use Rattle.std.proofs.lemmas.Bool.Decides.{nat_tests}
use Rattle.hsr_plan_schedule.specs.Publishing.{meets}
use Rattle.hsr_plan_schedule.specs.declared.publication.Publication.{Publication}

one : (p q : Publication) → p.behind ≡ 0 → meets p q ≡ false
one p q e = grind (arith, nat_tests, e)

pub none_met : (p : Publication) (earlier : List Publication) → p.behind ≡ 0 → false ≡ list_any (meets p) earlier
none_met p [] e = refl
none_met p (q ∷ qs) e =
    let here = one p q e in
    let there = none_met p qs e in
    cc
