-- The most that was needed at one node.
use Rattle.std.proofs.Common.{◌≡◌, ⊎_elim, ℕ, zero, suc, ◌<◌, ◌≤◌, Bool, true, false, nat_lt, if◌then◌else◌, length, Option, Some, None, Result, Ok, Err, refl, sym, ap, ◌∙◌, subst, arith}
use Rattle.std.specs.Prelude.{IfOk}
use Rattle.hsr_frame.specs.declared.fault.NoMemory.{NoMemory}
use Rattle.std.proofs.lemmas.Bool.{cases_lt, ltb-false}
use borrow.Author.Tests.{ltb-true}
use Rattle.hsr_run_laws.specs.Run.{Run, record_of}
use Rattle.hsr_table_demand.specs.Needs.{IsMetAt, IsMostAt}
use Rattle.hsr_table_demand.specs.Walked.{needs_at, nothing_needed, or_more, walked}
use Rattle.hsr_table_demand.specs.declared.most.Needed.{Needed}
use Rattle.hsr_table_demand.proofs.Walking.{each_needs, there_met, there_most}

module _ (run : Run) (k : ℕ) where
  -- at this place below another n are needed, and before it fewer
  record IsFound (top n i : ℕ) : Type 0 where
    some : 0 < n
    low : i < top
    needs : needs_at run k i ≡ n
    first : (j : ℕ) → j < i → needs_at run k j < n

  abbrev IsSeen : ℕ → ℕ → Option (ℕ × ℕ) → Type 0
  IsSeen top n None = n ≡ 0
  IsSeen top n (Some at) = (at.0 ≡ k) × IsFound top n at.1

  record IsTop (top : ℕ) (m : Needed) : Type 0 where
    most : (j : ℕ) → j < top → needs_at run k j ≤ m.entries
    seen : IsSeen top m.entries m.at

  more : (i : ℕ) (m : Needed) → IsTop i m → IsTop (suc i) (or_more m (needs_at run k i) k i)
  more i m so_far = by_more (nat_lt m.entries (needs_at run k i)) refl
    where
      at_most : (top : ℕ) → m.entries ≤ top → needs_at run k i ≤ top → (j : ℕ) → j < suc i → needs_at run k j ≤ top
      at_most top old new j low =
          ⊎_elim
          (λ before. let h = so_far.most j before in omega (arith, h, old))
          (λ high. let e : j ≡ i = omega (arith, low, high) in let same = ap (needs_at run k) e in omega (arith, same, new))
          (cases_lt j i)

      later : (top : ℕ) (at : Option (ℕ × ℕ)) → IsSeen i top at → IsSeen (suc i) top at
      later top None h = h
      later top (Some at) h = (h.0, let low = h.1.low in record { some = h.1.some; low = omega (arith, low); needs = h.1.needs; first = h.1.first })

      by_more : (b : Bool) → nat_lt m.entries (needs_at run k i) ≡ b → IsTop (suc i) (if b then record { entries = needs_at run k i; at = Some (k, i) } else m)
      by_more true is =
          let less = ltb-true m.entries (needs_at run k i) is in
          record {
            most = at_most (needs_at run k i) (omega (arith, less)) (omega arith);
            seen = (refl, record { some = omega (arith, less); low = omega arith; needs = refl; first = λ j low. let h = so_far.most j low in omega (arith, h, less) });
          }
      by_more false is =
          let no_more = ltb-false m.entries (needs_at run k i) is in
          record { most = at_most m.entries (omega arith) no_more; seen = later m.entries m.at so_far.seen }

  all : (i : ℕ) → IsTop i (walked run k nothing_needed i)
  all zero = record { most = λ j low. absurd (omega (arith, low)); seen = refl }
  all (suc i) = more i (walked run k nothing_needed i) (all i)

  met : (n : ℕ) (at : Option (ℕ × ℕ)) → IsSeen (length (record_of run k)) n at → IsMetAt run k n at
  met n None h = h
  met n (Some at) h =
      let place = h.1.low in (
        h.0,
        record {
          place = place;
          needs = there_met run k at.1 n place h.1.some h.1.needs;
          before = λ j low needs.
              let most = there_most run k j n (omega (arith, low, place)) needs in
              let fewer = h.1.first j low in
              omega (arith, most, fewer);
        },
      )

  most_at : (m : Needed) → m ≡ walked run k nothing_needed (length (record_of run k)) → IsMostAt run k m
  most_at m is =
      let P : Needed → Type 0 = λ w. IsTop (length (record_of run k)) w in
      let top = subst P (sym is) (all (length (record_of run k))) in
      record {
        most = each_needs run k m.entries top.most;
        met = met m.entries m.at top.seen;
      }

  pub most_if : (r : Result Needed NoMemory) (start : Needed) → start ≡ nothing_needed → IfOk r (λ m. m ≡ walked run k start (length (record_of run k))) → IfOk r (λ m. IsMostAt run k m)
  most_if (Ok m) start none is = most_at m (is ∙ ap (λ (s : Needed). walked run k s (length (record_of run k))) none)
  most_if (Err refused) start none is = tt
