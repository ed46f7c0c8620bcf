-- Samples, one after the other.
use Rattle.std.proofs.Common.{◌≡◌, ℕ, ◌+◌, ◌∙◌, ◌++◌, suc, Option, List, [], refl, ap, arith}
use Rattle.hsr_plan_payload.specs.Publishing.{Publisher}
use Rattle.hsr_plan_payload.specs.Payload.{sampled_asdu, sampled_asdus}

pub none : (p : Publisher) (rate : Option ℕ) (first spare : ℕ) → sampled_asdus p rate first spare 0 ≡ []
none p rate first spare = refl

pub one_more : (p : Publisher) (rate : Option ℕ) (first spare n : ℕ)
    → sampled_asdus p rate first spare (n + 1) ≡ sampled_asdus p rate first spare n ++ sampled_asdu p rate (first + n) spare
one_more p rate first spare n =
    let e : n + 1 ≡ suc n = omega arith in
    ap (sampled_asdus p rate first spare) e
