-- Sends that words mean, one more.
use Rattle.std.proofs.Common.{◌≡◌, ℕ, ◌+◌, ◌<◌, List, [], ◌∷◌, ◌++◌, length, map, slice_get, slice_index_or, take, zero, suc, Option, None, Some, arith, refl, sym, ap, ◌∙◌}
use Rattle.std.specs.Borrow.{Bor}
use Rattle.std.proofs.lemmas.List.{map-append, take_more}
use Rattle.hsr_node.specs.declared.event.Probe.{Probe}
use Rattle.hsr_view.specs.Refusals.{HasStray}
use Rattle.hsr_view.specs.Viewing.{AreSends, probe_of}

-- a send, where one has to be named
abbrev pub no_send : Bor (List ℕ) × ℕ
no_send = (record { ref_ptr = (0, 0); now = [] }, 0)

pub sends_more : (names : List (List ℕ)) (asked : List (Bor (List ℕ) × ℕ)) (i : ℕ) (probes : List Probe) (probe : Probe) → i < length asked →
    probe_of names (slice_index_or asked i no_send) ≡ Some probe → AreSends names (take i asked) probes → AreSends names (take (i + 1) asked) (probes ++ probe ∷ [])
sends_more names asked i probes probe below means so_far =
    let one = slice_index_or asked i no_send in
    ap (map (probe_of names)) (take_more asked i no_send below)
    ∙ (map-append (probe_of names) (take i asked) (one ∷ [])
    ∙ (ap (λ (os : List (Option Probe)). os ++ probe_of names one ∷ []) so_far
    ∙ (ap (λ (o : Option Probe). map (λ p. Some p) probes ++ o ∷ []) means ∙ sym (map-append (λ (p : Probe). Some p) probes (probe ∷ [])))))

got : {A : Type 0} (xs : List A) (i : ℕ) (d : A) → i < length xs → slice_get xs i ≡ Some (slice_index_or xs i d)
got [] i d h = absurd (omega arith)
got (x ∷ xs) zero d h = refl
got (x ∷ xs) (suc i) d h = got xs i d (omega (arith, h))

pub stray_at : (names : List (List ℕ)) (asked : List (Bor (List ℕ) × ℕ)) (i : ℕ) → i < length asked → probe_of names (slice_index_or asked i no_send) ≡ None → HasStray names asked
stray_at names asked i below none = (i, slice_index_or asked i no_send, got asked i no_send below, none)
