-- The counts of cases, one after another, or why there are none.
use Rattle.std.proofs.Common.{◌≡◌, ◌<◌, ℕ, zero, suc, arith, slice_index_or, ◌++◌, ◌∷◌, [], List, length, map, Result, Ok, Err, IfErr, IfOk, OnOk, subst, sym, ap, ◌∙◌, append-nil, append_assoc, refl}
use Rattle.std.specs.Prelude.{MatchResult, Vec}
use Rattle.std.specs.Global.{Global}
use Rattle.std.specs.List.{AllZip, Contains}
use Rattle.std.proofs.lemmas.List.Elements.{Contains-append_left, Contains-append_right}
use Rattle.rayon.proofs.ListFacts.{AllZip-append}
use Rattle.hsr_plan_text.specs.Plan.{Plan}
use Rattle.hsr_plan_text.specs.declared.fault.PlanFault.{PlanFault}
use Rattle.hsr_plan_sweep.specs.Refusals.{IsKnown, IsUncounted, IsUnplayed, IsUnplayedAmong, TellsCase}
use Rattle.hsr_plan_sweep.specs.Runs.{AddsPlays, ArePlayed, IfSays, IsCountOf, IsPlayed}
use Rattle.hsr_plan_sweep.specs.Variants.{Ground, varied}
use Rattle.hsr_plan_sweep.specs.declared.cases.Case.{Case}
use Rattle.hsr_plan_sweep.specs.declared.playing.Played.{Played}
use Rattle.hsr_plan_sweep.specs.declared.running.Trouble.{Trouble}
use Rattle.hsr_plan_sweep.specs.declared.running.Trouble.TheVariants.{Memory}

-- the plan of a case is counted as that of the case
pub told_by_count : (said : Result Plan PlanFault) (g : Ground) (case : Case) (plan : Plan) (r : Result Played Trouble) → IfSays said (λ first. plan ≡ varied g case first)
    → IfOk r (λ played. played.case ≡ case) → IfOk r (λ played. IsCountOf plan played.count) → IfErr r (λ trouble. IsKnown trouble → IsUncounted plan) → TellsCase said g case r
told_by_count (Ok first) g case plan (Ok played) same is count none = (is, subst (λ p. IsCountOf p played.count) same count)
told_by_count (Ok first) g case plan (Err trouble) same is count none = λ known. subst IsUncounted same (none known)
told_by_count (Err fault) g case plan r same is count none = absurd same

pub told_no_memory : (said : Result Plan PlanFault) (g : Ground) (case : Case) (trouble : Trouble) → trouble ≡ Memory → TellsCase said g case (Err trouble)
told_no_memory said g case trouble none = λ known. absurd (subst IsKnown none known)

module _ (said : Result Plan PlanFault) (g : Ground) where
  -- all are counted
  pub all_played : (cases : List Case) (plays : List Played) → AllZip (TellsCase said g) cases (map Ok plays) → ArePlayed said g cases plays
  all_played [] [] told = tt
  all_played [] (p ∷ ps) told = absurd told
  all_played (c ∷ cs) [] told = absurd told
  all_played (c ∷ cs) (p ∷ ps) (this, more) = (this, all_played cs ps more)

  -- so it is with more cases
  pub unplayed_front : (some others : List Case) → IsUnplayedAmong said g some → IsUnplayedAmong said g (some ++ others)
  unplayed_front some others none = (none.0, Contains-append_left some others none.0 none.1, none.2)

  pub unplayed_back : (seen rest : List Case) → IsUnplayedAmong said g rest → IsUnplayedAmong said g (seen ++ rest)
  unplayed_back seen rest none = (none.0, Contains-append_right seen rest none.0 none.1, none.2)

  -- one isn't counted
  unplayed_at : (cases : List Case) (all : List (Result Played Trouble)) (trouble : Trouble) (k : ℕ) → AllZip (TellsCase said g) cases all → k < length all
      → slice_index_or all k (Err trouble) ≡ Err trouble → IsKnown trouble → IsUnplayedAmong said g cases
  unplayed_at [] [] trouble k told below at known = absurd (omega (arith, below))
  unplayed_at [] (r ∷ rs) trouble k told below at known = absurd told
  unplayed_at (c ∷ cs) [] trouble k told below at known = absurd told
  unplayed_at (c ∷ cs) (r ∷ rs) trouble zero (this, more) below at known = (c, (0, omega arith, refl), subst (TellsCase said g c) at this known)
  unplayed_at (c ∷ cs) (r ∷ rs) trouble (suc k) (this, more) below at known = unplayed_back (c ∷ []) cs (unplayed_at cs rs trouble k more (omega (arith, below)) at known)

  -- what all cases tell
  pub all_told : (cases : List Case) (all : List (Result Played Trouble)) (r : Result (Vec Played Global) Trouble) → AllZip (TellsCase said g) cases all
      → MatchResult r (λ plays. (ys : List Played) × (all ≡ map Ok ys) × (plays.items ≡ ys)) (λ trouble. Contains all (Err trouble))
      → MatchResult r (λ plays. ArePlayed said g cases plays.items) (λ trouble. IsKnown trouble → IsUnplayedAmong said g cases)
  all_told cases all (Ok plays) told (ys, are, items) =
      let P : List (Result Played Trouble) → Type 0 = λ rs. AllZip (TellsCase said g) cases rs in
      subst (ArePlayed said g cases) (sym items) (all_played cases ys (subst P are told))
  all_told cases all (Err trouble) told there = unplayed_at cases all trouble there.0 told there.1 there.2

  -- counts are put behind others, or memory ran out
  pub appended : (cases : List Case) (before after more : List Played) (r : Result (Unit {0}) Trouble) → ArePlayed said g cases more → OnOk r (after ≡ before ++ more)
      → IfErr r (λ trouble. trouble ≡ Memory)
      → MatchResult r (λ _. AddsPlays said g cases before after) (λ trouble. IsKnown trouble → IsUnplayedAmong said g cases)
  appended cases before after more (Ok u) played same none = (more, same, played)
  appended cases before after more (Err trouble) played same none = λ known. absurd (subst IsKnown none known)

  -- what was counted before, and what comes next
  abbrev pub IsSoFar : List Case → List Case → List Played → Type 0
  IsSoFar cases rest plays = (seen : List Case) × (seen ++ rest ≡ cases) × ArePlayed said g seen plays

  pub none_so_far : (cases : List Case) → IsSoFar cases cases []
  none_so_far cases = ([], refl, tt)

  pub more_so_far : (cases rest some others : List Case) (plays after : List Played) → IsSoFar cases rest plays → some ++ others ≡ rest → AddsPlays said g some plays after
      → IsSoFar cases others after
  more_so_far cases rest some others plays after (seen, are, played) next (more, same, now) = (
    seen ++ some,
    append_assoc seen some others ∙ ap (λ cs. seen ++ cs) next ∙ are,
    subst (ArePlayed said g (seen ++ some)) (sym same) (AllZip-append (IsPlayed said g) seen some plays more played now),
  )

  pub all_so_far : (cases rest : List Case) (plays : List Played) → IsSoFar cases rest plays → rest ≡ [] → ArePlayed said g cases plays
  all_so_far cases rest plays (seen, are, played) none =
      let P : List Case → Type 0 = λ cs. ArePlayed said g cs plays in
      subst P (sym (append-nil seen) ∙ ap (λ cs. seen ++ cs) (sym none) ∙ are) played

  pub unplayed_so_far : (cases rest some others : List Case) (plays : List Played) → IsSoFar cases rest plays → some ++ others ≡ rest → IsUnplayedAmong said g some → IsUnplayedAmong said g cases
  unplayed_so_far cases rest some others plays (seen, are, played) next none =
      subst (IsUnplayedAmong said g) (ap (λ cs. seen ++ cs) next ∙ are) (unplayed_back seen (some ++ others) (unplayed_front some others none))

-- so it is of the same cases on the same ground
pub unplayed_there : {X : Type 0} (r : Result X Trouble) (said : Result Plan PlanFault) (g h : Ground) (cases others : List Case) → g ≡ h → cases ≡ others
    → IfErr r (λ trouble. IsKnown trouble → IsUnplayedAmong said g cases) → IfErr r (λ trouble. IsKnown trouble → IsUnplayedAmong said h others)
unplayed_there (Ok x) said g h cases others here same none = tt
unplayed_there (Err e) said g h cases others here same none = λ known. subst (IsUnplayedAmong said h) same (subst (λ x. IsUnplayedAmong said x cases) here (none known))
