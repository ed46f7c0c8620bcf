-- The effective moments of a run, read from lists.
use Rattle.std.proofs.Common.{◌≡◌, ℕ, ◌+◌, ◌<◌, ◌==◌, List, [], ◌∷◌, ◌++◌, length, map, reverse, get_or, slice_index_or, refl, sym, ap, ◌∙◌, arith, zero, suc, ⊎_elim, eq-eqb, ne_eqb}
use Rattle.std.proofs.lemmas.Bool.{cases_order, cond-false, cond-true}
use Rattle.std.proofs.lemmas.List.{get_or_append_left, get_or_past, get_or_push, length_push}
use Rattle.hsr_node.specs.Record.{now}
use Rattle.hsr_node.specs.declared.entry.Entry.{Entry}
use Rattle.hsr_node.specs.declared.event.Probe.{Probe}
use Rattle.hsr_run_laws.specs.Budget.{moment_at, moment_of}
use Rattle.hsr_run_laws.specs.Run.{Run, past_of}
use Rattle.hsr_moments.specs.Recorded.{moment_in, moments_in, moments_of, moments_recorded}

length_moments : (past : List Entry) → length (moments_in past) ≡ length past
length_moments [] = refl
length_moments (x ∷ past) = let e = length_moments past in let more = length_push (moments_in past) (now (x ∷ past)) in omega arith

moment_there : (past : List Entry) (n : ℕ) → get_or (moments_in past) n 0 ≡ moment_at n past
moment_there [] n = refl
moment_there (x ∷ past) n =
    let many = length_moments past in
    ⊎_elim
    (λ last. get_or_push (moments_in past) (now (x ∷ past)) 0 n (many ∙ sym last) ∙ sym (cond-true (n == length past) (now (x ∷ past)) (moment_at n past) (eq-eqb n (length past) last)))
    (λ other.
    let earlier : moment_at n (x ∷ past) ≡ moment_at n past = cond-false (n == length past) (now (x ∷ past)) (moment_at n past) (ne_eqb n (length past) (λ same. ⊎_elim (λ low. omega (arith, low, same)) (λ high. omega (arith, high, same)) other)) in
    ⊎_elim
    (λ low. get_or_append_left (moments_in past) (now (x ∷ past) ∷ []) 0 n (omega (arith, low, many)) ∙ (moment_there past n ∙ sym earlier))
    (λ high.
    let more = length_push (moments_in past) (now (x ∷ past)) in
    get_or_past (moments_in past ++ now (x ∷ past) ∷ []) n 0 (omega (arith, high, many, more)) ∙ (sym (get_or_past (moments_in past) n 0 (omega (arith, high, many))) ∙ (moment_there past n ∙ sym earlier)))
    other)
    (cases_order n (length past))

recorded_at : (records : List (List Entry)) (k : ℕ) → slice_index_or (map moments_recorded records) k [] ≡ moments_in (reverse (slice_index_or records k []))
recorded_at [] k = refl
recorded_at (xs ∷ records) zero = refl
recorded_at (xs ∷ records) (suc k) = recorded_at records k

pub moment_is : (run : Run) (here : Probe) → moment_in (moments_of run) here ≡ moment_of run here
moment_is run here = ap (λ ms. slice_index_or ms here.place 0) (recorded_at run.records here.node) ∙ moment_there (past_of run here.node) here.place
