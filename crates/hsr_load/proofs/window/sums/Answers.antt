use Rattle.std.proofs.Common.{◌≡◌, ◌+◌, ◌<◌, ◌++◌, ◌∷◌, [], ◌∙◌, List, ℕ, length, take, get_or, ap, sym, subst, rules}
use Rattle.std.specs.List.{sum_by}
use Rattle.std.proofs.lemmas.List.Sums.{sum_by_more}
use Rattle.hsr_load.specs.Sums.{AreSums}
use Rattle.hsr_load.specs.Windows.{octets_of}
use Rattle.hsr_load.specs.declared.transit.Transit.{Transit}
use Rattle.hsr_load.proofs.Summing.{no_sums, sums_more}
use Rattle.hsr_load.proofs.window.sums.Goals as goal

pub loop-transit-init : goal.loop-transit-init
loop-transit-init c =
    let items = c.in_ok-push.ensures.items ∙ ap (λ (xs : List ℕ). xs ++ 0 ∷ []) c.new-sums.ensures.items in
    record {
      sum = search rules;
      sums = subst (λ (xs : List ℕ). AreSums c.args.transits.now 0 xs) (sym items) (no_sums c.args.transits.now);
    }

pub loop-transit-preserved : goal.loop-transit-preserved
loop-transit-preserved c =
    let ts : List Transit = c.args.transits.now in
    let i : ℕ = c.loop-transit.transit-index in
    let d : Transit = record { moment = 0; octets = 0 } in
    let below : i < length ts = search rules in
    let sum : c.in_ok-next.next ≡ sum_by octets_of (take i ts) + (get_or ts i d).octets =
    c.in_ok-next.ensures ∙ ap (λ (n : ℕ). n + (get_or ts i d).octets) c.loop-transit.invariant.sum in
    record {
      sum = sum ∙ sym (sum_by_more octets_of ts i d below);
      sums = subst (λ (xs : List ℕ). AreSums ts (i + 1) xs) (sym c.in_ok-push-2.ensures.items)
          (sums_more ts i c.loop-transit.sums.items d c.in_ok-next.next below c.loop-transit.invariant.sums sum);
    }
