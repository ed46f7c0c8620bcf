-- Pasts, by the places of copies.
use Rattle.std.proofs.Common.{◌≡◌, ℕ, ◌+◌, ◌<◌, List, ◌∷◌, [], length, reverse, take, get_or, ap, ◌∙◌, Some}
use Rattle.std.specs.Prelude.{slice_get}
use Rattle.std.proofs.lemmas.List.{reverse-append, take_more}
use Rattle.std.proofs.lemmas.Option.{get_or_from_slice_get, slice_get_within}
use Rattle.hsr_frame_groups.specs.Frames.{CaughtFields, past_of}

pub past_more : (copies : List CaughtFields) (i : ℕ) (c : CaughtFields) → slice_get copies i ≡ Some c → past_of copies (i + 1) ≡ c ∷ past_of copies i
past_more copies i c here =
    let below : i < length copies = slice_get_within copies i c here in
    ap reverse (take_more copies i c below) ∙ reverse-append (take i copies) (get_or copies i c ∷ []) ∙ ap (λ x. x ∷ past_of copies i) (get_or_from_slice_get copies i c c here)
