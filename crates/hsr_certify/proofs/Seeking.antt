-- The loop that looks for the first send that fails a test: what is left answers for all.
use Rattle.std.proofs.Common.{◌≡◌, ℕ, ◌+◌, ◌<◌, Bool, true, false, if◌then◌else◌, List, [], ◌∷◌, length, get_or, drop, Some, None, refl, ap, sym, ◌∙◌}
use Rattle.std.proofs.lemmas.List.{drop_more}
use Rattle.hsr_plays.specs.declared.span.SendSpan.{SendSpan}
use Rattle.hsr_certify.specs.Firsts.{first_send}

module _ (passes : SendSpan → Bool) (spans : List SendSpan) (i : ℕ) (span : SendSpan) (below : i < length spans) (read : span ≡ get_or spans i span)
    (before : first_send passes (drop i spans) ≡ first_send passes spans) where
  split : first_send passes (drop i spans) ≡ first_send passes (span ∷ drop (i + 1) spans)
  split = ap (first_send passes) (drop_more spans i span below ∙ ap (λ (x : SendSpan). x ∷ drop (i + 1) spans) (sym read))

  -- this one passes
  pub seek_more : passes span ≡ true → first_send passes (drop (i + 1) spans) ≡ first_send passes spans
  seek_more is =
      let on : first_send passes (span ∷ drop (i + 1) spans) ≡ first_send passes (drop (i + 1) spans) =
      ap (λ (b : Bool). if b then first_send passes (drop (i + 1) spans) else Some span.index) is in
      sym on ∙ (sym split ∙ before)

  -- this one fails
  pub seek_found : passes span ≡ false → Some span.index ≡ first_send passes spans
  seek_found is =
      let off : first_send passes (span ∷ drop (i + 1) spans) ≡ Some span.index =
      ap (λ (b : Bool). if b then first_send passes (drop (i + 1) spans) else Some span.index) is in
      sym off ∙ (sym split ∙ before)

-- all pass
pub seek_none : (passes : SendSpan → Bool) (spans : List SendSpan) → ((span : SendSpan) → passes span ≡ true) → None ≡ first_send passes spans
seek_none passes [] all = refl
seek_none passes (span ∷ later) all =
    let on : first_send passes (span ∷ later) ≡ first_send passes later = ap (λ (b : Bool). if b then first_send passes later else Some span.index) (all span) in
    seek_none passes later all ∙ sym on
