-- What indexes have of sends: counts, and lists of losses.
use Rattle.std.proofs.Common.{◌≡◌, ℕ, ◌+◌, ◌&&◌, Bool, true, false, cond, nat_eq, [], ◌∷◌, ◌++◌, Option, Some, None, unwrap_or, refl, sym, ap, ◌∙◌, arith, eqb-true}
use Rattle.std.specs.Prelude.{Vec}
use Rattle.std.specs.Global.{Global}
use Rattle.std.proofs.lemmas.Bool.{and_parts}
use Rattle.std.proofs.lemmas.List.{append-nil}
use Rattle.indexmap.specs.IndexMap.{IndexMap, Updates}
use Rattle.hsr_node.specs.declared.event.Probe.{Probe}
use Rattle.hsr_run_laws.specs.Run.{is_of}
use Rattle.hsr_run_laws.proofs.Same.{probes_same}
use Rattle.hsr_deliveries.specs.Counted.{items_if, losses_in, times_in, value_of}
use Rattle.hsr_deliveries.specs.declared.loss.Loss.{Loss}

-- ---- indexes

abbrev pub is_same_key : ℕ × ℕ → ℕ × ℕ → Bool
is_same_key x y = nat_eq x.0 y.0 && nat_eq x.1 y.1

of_itself : (send other : Probe) → (nat_eq send.node other.node && nat_eq send.place other.place) ≡ true → send ≡ other
of_itself send other is =
    let both = and_parts (nat_eq send.node other.node) (nat_eq send.place other.place) is in
    probes_same send other (eqb-true send.node other.node both.0) (eqb-true send.place other.place both.1)

-- a send counted once more
pub one_counted : {S : Type 0} (old new : IndexMap (ℕ × ℕ) ℕ S) (send : Probe) (count : ℕ) → count ≡ times_in old send + 1 → Updates is_same_key old new (send.node, send.place) (Some count) →
    (other : Probe) → times_in new other ≡ times_in old other + cond (is_of other (Some send)) 1 0
one_counted old new send count more updates other =
    ap (λ o. unwrap_or o 0) (updates.0 (other.node, other.place)) ∙ by_same (nat_eq send.node other.node && nat_eq send.place other.place) refl
  where
    by_same : (b : Bool) → (nat_eq send.node other.node && nat_eq send.place other.place) ≡ b → unwrap_or (cond b (Some count) (value_of old other)) 0 ≡ times_in old other + cond b 1 0
    by_same true is = let e : times_in old send ≡ times_in old other = ap (times_in old) (of_itself send other is) in omega (arith, more, e)
    by_same false is = omega arith

-- one more loss of a send
pub one_kept : {S : Type 0} (old new : IndexMap (ℕ × ℕ) (Vec Loss Global) S) (send : Probe) (loss : Loss) (losses : Vec Loss Global) → losses.items ≡ losses_in old send ++ loss ∷ [] → Updates is_same_key old new (send.node, send.place) (Some losses) →
    (other : Probe) → losses_in new other ≡ losses_in old other ++ cond (is_of other (Some send)) (loss ∷ []) []
one_kept old new send loss losses more updates other =
    ap items_if (updates.0 (other.node, other.place)) ∙ by_same (nat_eq send.node other.node && nat_eq send.place other.place) refl
  where
    by_same : (b : Bool) → (nat_eq send.node other.node && nat_eq send.place other.place) ≡ b → items_if (cond b (Some losses) (value_of old other)) ≡ losses_in old other ++ cond b (loss ∷ []) []
    by_same true is = more ∙ ap (λ ls. ls ++ loss ∷ []) (ap (losses_in old) (of_itself send other is))
    by_same false is = sym (append-nil (losses_in old other))

pub items_kept : (o : Option (Vec Loss Global)) (none : Vec Loss Global) → none.items ≡ [] → (unwrap_or o none).items ≡ items_if o
items_kept None none is = is
items_kept (Some losses) none is = refl
