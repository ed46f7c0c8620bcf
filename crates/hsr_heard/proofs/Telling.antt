-- What is told of copies, one after the other.
use Rattle.std.proofs.Common.{◌≡◌, ℕ, ◌+◌, ◌≤◌, List, ◌∷◌, ◌++◌, append_assoc, length, drop, sym, ap, ◌∙◌, Option, Some}
use Rattle.std.specs.Prelude.{option_to_list, slice_get}
use Rattle.std.proofs.lemmas.List.{append-nil, drop_all, drop_more}
use Rattle.std.proofs.lemmas.Option.{get_or_from_slice_get, slice_get_within}
use Rattle.hsr_frame_groups.specs.Frames.{CaughtFields, past_of}
use Rattle.hsr_heard.specs.Hearing.{those_from}

pub those_more : {X : Type 0} (tell : ℕ → List CaughtFields → CaughtFields → Option X) (copies : List CaughtFields) (i : ℕ) (c : CaughtFields) (old new all : List X) (own : Option X)
    → slice_get copies i ≡ Some c → own ≡ tell i (past_of copies i) c → new ≡ old ++ option_to_list own → old ++ those_from tell copies i (drop i copies) ≡ all
    → new ++ those_from tell copies (i + 1) (drop (i + 1) copies) ≡ all
those_more tell copies i c old new all own here own_is is told =
    ap (λ l. l ++ those_from tell copies (i + 1) (drop (i + 1) copies)) is
    ∙ append_assoc old (option_to_list own) (those_from tell copies (i + 1) (drop (i + 1) copies))
    ∙ ap (λ o. old ++ (option_to_list o ++ those_from tell copies (i + 1) (drop (i + 1) copies))) own_is
    ∙ sym (ap (λ l. old ++ those_from tell copies i l) (drop_more copies i c (slice_get_within copies i c here)
    ∙ ap (λ x. x ∷ drop (i + 1) copies) (get_or_from_slice_get copies i c c here))) ∙ told

pub those_end : {X : Type 0} (tell : ℕ → List CaughtFields → CaughtFields → Option X) (copies : List CaughtFields) (n : ℕ) (old all : List X) → length copies ≤ n
    → old ++ those_from tell copies n (drop n copies) ≡ all → old ≡ all
those_end tell copies n old all past told = sym (append-nil old) ∙ sym (ap (λ l. old ++ those_from tell copies n l) (drop_all n copies past)) ∙ told
