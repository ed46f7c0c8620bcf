-- Lists, one after another.
use Rattle.std.proofs.Common.{◌≡◌, ℕ, ◌+◌, ◌<◌, ◌∙◌, ◌++◌, ◌∷◌, [], length, get_or, drop, slice_get, Bool, true, false, refl, List, Option, Some, None, ap, sym, append_assoc}
use Rattle.std.specs.Prelude.{find, fold}
use Rattle.std.specs.List.{cons_option}
use Rattle.std.specs.Option.{option_or}
use Rattle.std.proofs.lemmas.List.{drop_more}
use Rattle.hsr_deliveries.specs.Delivered.{Delivery}
use Rattle.hsr_scenario.specs.declared.steps.Order.{Order}
use Rattle.hsr_report.specs.declared.spending.Spending.{Spending}
use Rattle.hsr_plan_text.specs.declared.plan.Event.{Event}
use Rattle.hsr_plan_sweep.specs.Audience.{Audience, first_in_need, last_turn, needs, next_turn}
use Rattle.hsr_plan_sweep.specs.Cases.{in_part, is_in_part, one_if}
use Rattle.hsr_plan_sweep.specs.Counting.{first_missed, miss_at, outcome_of, outcomes, stream_if}
use Rattle.hsr_plan_sweep.specs.Sendings.{behind, sending_by, sendings}
use Rattle.hsr_plan_sweep.specs.Verdict.{needed_with, spent_with}
use Rattle.hsr_plan_sweep.specs.declared.asked.Part.{Part}
use Rattle.hsr_plan_sweep.specs.declared.audience.Turn.{Turn}
use Rattle.hsr_plan_sweep.specs.declared.cases.Case.{Case}
use Rattle.hsr_plan_sweep.specs.declared.counting.Miss.{Miss}
use Rattle.hsr_plan_sweep.specs.declared.counting.Outcome.{Outcome}
use Rattle.hsr_plan_sweep.specs.declared.playing.Played.{Played}
use Rattle.hsr_plan_sweep.specs.declared.sendings.Sending.{Sending}

skip : {X : Type 0} (p : X → Bool) (x : X) (xs : List X) → p x ≡ false → find p (x ∷ xs) ≡ find p xs
skip p x xs fails = rw fails refl

hit : {X : Type 0} (p : X → Bool) (x : X) (xs : List X) → p x ≡ true → find p (x ∷ xs) ≡ Some x
hit p x xs passes = rw passes refl

pub part_step : (seen : List Case) (part : Part) (cases : List Case) (i : ℕ) (d : Case) → i < length cases
    → seen ++ in_part part i (drop i cases) ≡ (seen ++ one_if (is_in_part part i) (get_or cases i d)) ++ in_part part (i + 1) (drop (i + 1) cases)
part_step seen part cases i d h =
    ap (λ cs. seen ++ in_part part i cs) (drop_more cases i d h)
    ∙ sym (append_assoc seen (one_if (is_in_part part i) (get_or cases i d)) (in_part part (i + 1) (drop (i + 1) cases)))

pub turn_step : (now : ℕ) (name : List ℕ) (last : Option Turn) (es : List Event) (i : ℕ) (d : Event) → i < length es
    → last_turn now name last (drop i es) ≡ last_turn now name (next_turn now name last (get_or es i d)) (drop (i + 1) es)
turn_step now name last es i d h = ap (last_turn now name last) (drop_more es i d h)

module _ (a : Audience) (stream : Option ℕ) (at : ℕ) (ks : List ℕ) (i d : ℕ) where
  pub need_skip : i < length ks → needs a stream at (get_or ks i d) ≡ false → first_in_need a stream at (drop i ks) ≡ first_in_need a stream at (drop (i + 1) ks)
  need_skip h fails = ap (first_in_need a stream at) (drop_more ks i d h) ∙ skip (needs a stream at) (get_or ks i d) (drop (i + 1) ks) fails

  pub need_hit : i < length ks → needs a stream at (get_or ks i d) ≡ true → first_in_need a stream at (drop i ks) ≡ Some (get_or ks i d)
  need_hit h passes = ap (first_in_need a stream at) (drop_more ks i d h) ∙ hit (needs a stream at) (get_or ks i d) (drop (i + 1) ks) passes

pub sendings_step : (seen : List Sending) (streams : List ℕ) (os : List Order) (i : ℕ) (d : Order) → i < length os
    → seen ++ sendings streams (drop i os)
    ≡ (seen ++ cons_option (sending_by streams (get_or os i d)) []) ++ sendings (behind streams (get_or os i d)) (drop (i + 1) os)
sendings_step seen streams os i d h =
    ap (λ xs. seen ++ sendings streams xs) (drop_more os i d h)
    ∙ sym (append_assoc seen (cons_option (sending_by streams (get_or os i d)) []) (sendings (behind streams (get_or os i d)) (drop (i + 1) os)))

pub outcomes_step : (seen : List Outcome) (a : Audience) (streams : List (Option ℕ)) (ds : List Delivery) (i : ℕ) (d : Delivery) → i < length ds
    → seen ++ outcomes a streams i (drop i ds)
    ≡ (seen ++ outcome_of a (stream_if (slice_get streams i)) (get_or ds i d) ∷ []) ++ outcomes a streams (i + 1) (drop (i + 1) ds)
outcomes_step seen a streams ds i d h =
    ap (λ xs. seen ++ outcomes a streams i xs) (drop_more ds i d h)
    ∙ sym (append_assoc seen (outcome_of a (stream_if (slice_get streams i)) (get_or ds i d) ∷ []) (outcomes a streams (i + 1) (drop (i + 1) ds)))

module _ (a : Audience) (streams : List (Option ℕ)) (ds : List Delivery) (i : ℕ) (d : Delivery) where
  pub missed_step : i < length ds → miss_at a (stream_if (slice_get streams i)) (get_or ds i d) ≡ None
      → first_missed a streams i (drop i ds) ≡ first_missed a streams (i + 1) (drop (i + 1) ds)
  missed_step h none = ap (first_missed a streams i) (drop_more ds i d h) ∙ ap (λ m. option_or m (first_missed a streams (i + 1) (drop (i + 1) ds))) none

  pub missed_found : (m : Miss) → i < length ds → miss_at a (stream_if (slice_get streams i)) (get_or ds i d) ≡ Some m → first_missed a streams i (drop i ds) ≡ Some m
  missed_found m h some = ap (first_missed a streams i) (drop_more ds i d h) ∙ ap (λ m. option_or m (first_missed a streams (i + 1) (drop (i + 1) ds))) some

pub needed_step : (most : ℕ) (plays : List Played) (i : ℕ) (d : Played) → i < length plays
    → fold needed_with most (drop i plays) ≡ fold needed_with (needed_with most (get_or plays i d)) (drop (i + 1) plays)
needed_step most plays i d h = ap (fold needed_with most) (drop_more plays i d h)

pub spent_step : (most : Spending) (plays : List Played) (i : ℕ) (d : Played) → i < length plays
    → fold spent_with most (drop i plays) ≡ fold spent_with (spent_with most (get_or plays i d)) (drop (i + 1) plays)
spent_step most plays i d h = ap (fold spent_with most) (drop_more plays i d h)
