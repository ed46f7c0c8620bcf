use Rattle.std.proofs.Common.{◌≡◌, List, ap, subst, ◌∙◌, length}
use Rattle.std.specs.Prelude.{IfOk, filter_map}
use Rattle.hsr_timeline.specs.declared.origin.Origin.{Origin}
use Rattle.hsr_timeline.specs.declared.origin.Spot.{Spot}
use Rattle.hsr_timeline.specs.Fronts.{lists_of}
use Rattle.hsr_timeline.specs.Causes.{cause_in, hop_pair, hop_pairs, main_pairs, origins, origins_below}
use Rattle.hsr_timeline.specs.IndexedCauses.{value_of}
use Rattle.hsr_timeline.proofs.telling.origins.Goals as goal

pub returns : goal.returns
returns g c =
    let run = c.args.closed.now.run in
    let plan = c.args.closed.now.plan in
    let at_planned : (spot : Spot) → value_of c.in_ok-planned.planned spot ≡ cause_in (main_pairs run plan) spot =
    λ spot. c.in_ok-planned.ensures spot ∙ ap (λ (ps : List (Spot × Spot)). cause_in ps spot) (c.as_slice.ensures.value ∙ c.in_ok-mains.ensures) in
    let at_passed : (spot : Spot) → value_of c.in_ok-passed.passed spot ≡ cause_in (hop_pairs run) spot =
    λ spot. c.in_ok-passed.ensures spot ∙ ap (λ (ps : List (Spot × Spot)). cause_in ps spot) (c.as_slice-2.ensures.value ∙ (c.in_ok-copies.ensures ∙ ap (filter_map hop_pair) c.requires)) in
    let planned : (λ (spot : Spot). value_of c.in_ok-planned.planned spot) ≡ cause_in (main_pairs run plan) = λ i. λ (spot : Spot). at_planned spot i in
    let passed : (λ (spot : Spot). value_of c.in_ok-passed.passed spot) ≡ cause_in (hop_pairs run) = λ i. λ (spot : Spot). at_passed spot i in
    let whole : origins_below run (value_of c.in_ok-planned.planned) (value_of c.in_ok-passed.passed) (length run.places) ≡ origins run plan =
    λ i. origins_below run (planned i) (passed i) (length run.places) in
    let P : List (List Origin) → Type 0 = λ os. IfOk c.all_origins.result (λ records. lists_of records.items ≡ os) in
    subst P whole c.all_origins.ensures
