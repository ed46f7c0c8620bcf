use Rattle.std.proofs.Common.{◌≡◌, ◌∙◌, ℕ, List, [], ◌∷◌, None, Some, ap, refl, sym}
use Rattle.hsr_health.specs.Told.{earlier_of, first_from, silent_count}
use Rattle.hsr_health.specs.What.{silent_what}
use Rattle.hsr_heard.specs.declared.abouts.Silence.{Silence}
use Rattle.hsr_health.proofs.silent_reason.silent_reason.Goals as goal

some_from : (first : Silence) (silences : List Silence) → (found : Silence) × (first_from (Some first) silences ≡ Some found)
some_from first [] = (first, refl)
some_from first (silence ∷ silences) = some_from (earlier_of (Some first) silence) silences

none_untold : (untold : List (List ℕ)) → silent_what None untold ≡ None → silent_count [] untold ≡ 0
none_untold [] none = refl
none_untold (mac ∷ untold) none = absurd cc

none_silent : (silences : List Silence) (untold : List (List ℕ)) → silent_what (first_from None silences) untold ≡ None → silent_count silences untold ≡ 0
none_silent [] untold none = none_untold untold none
none_silent (silence ∷ silences) untold none =
    let found = some_from silence silences in
    let told = sym (ap (λ first. silent_what first untold) found.1) ∙ none in
    absurd cc

pub returns-in-None : goal.returns-in-None
returns-in-None c =
    none_silent c.args.silences.now _ (ap (silent_what _) (sym (c.as_slice.ensures.value ∙ c.in_ok-untold.ensures)) ∙ ap (λ first. silent_what first c.as_slice.result.now) (sym c.first_silence-first.ensures)
    ∙ sym c.silent_what.ensures ∙ c.in-None.is)
