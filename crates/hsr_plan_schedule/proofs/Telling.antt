-- Links that change, occasions that are told, and supervision about stations.
use Rattle.std.proofs.Common.{◌≡◌, ℕ, ◌+◌, ◌<◌, ◌∙◌, ◌++◌, Bool, length, get_or, drop, List, [], ◌∷◌, ap, sym, append_assoc}
use Rattle.std.proofs.lemmas.List.{drop_more}
use Rattle.hsr_topology.specs.declared.end.End.{End}
use Rattle.hsr_scenario.specs.declared.steps.Order.{Order}
use Rattle.hsr_plan_schedule.specs.Orders.{Told, change, changes, downs, flag, is_down, speak, speak_of, tell_occasion, tell_all}
use Rattle.hsr_plan_schedule.specs.Setting.{Setting}
use Rattle.hsr_plan_schedule.specs.declared.occasion.Occasion.{Occasion}

pub downs_step : (seen off cut : List Bool) (links : List (List End)) (i : ℕ) (d : List End) → i < length links
    → seen ++ downs off cut i (drop i links) ≡ (seen ++ is_down off cut i (get_or links i d) ∷ []) ++ downs off cut (i + 1) (drop (i + 1) links)
downs_step seen off cut links i d h =
    ap (λ ls. seen ++ downs off cut i ls) (drop_more links i d h)
    ∙ sym (append_assoc seen (is_down off cut i (get_or links i d) ∷ []) (downs off cut (i + 1) (drop (i + 1) links)))

pub changes_step : (seen : List Order) (after before : List Bool) (i : ℕ) (d : Bool) → i < length before
    → seen ++ changes after i (drop i before) ≡ (seen ++ change (get_or before i d) (flag after i) i) ++ changes after (i + 1) (drop (i + 1) before)
changes_step seen after before i d h =
    ap (λ bs. seen ++ changes after i bs) (drop_more before i d h)
    ∙ sym (append_assoc seen (change (get_or before i d) (flag after i) i) (changes after (i + 1) (drop (i + 1) before)))

pub tell_step : (g : Setting) (told : Told) (os : List Occasion) (i : ℕ) (d : Occasion) → i < length os
    → tell_all g told (drop i os) ≡ tell_all g (tell_occasion g (get_or os i d) told) (drop (i + 1) os)
tell_step g told os i d h = ap (tell_all g told) (drop_more os i d h)

pub speak_step : (g : Setting) (k : ℕ) (told : Told) (macs : List (List ℕ)) (i : ℕ) (d : List ℕ) → i < length macs
    → speak_of g k (drop i macs) told ≡ speak_of g k (drop (i + 1) macs) (speak g k (get_or macs i d) told)
speak_step g k told macs i d h = ap (λ ms. speak_of g k ms told) (drop_more macs i d h)
