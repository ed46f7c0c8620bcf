-- One more event whose numbers may not go on by one.
use Rattle.std.proofs.Common.{◌≡◌, ℕ, ◌+◌, ◌<◌, ◌≤◌, ◌∙◌, ◌++◌, append_assoc, List, [], ◌∷◌, length, get_or, drop, ap, sym}
use Rattle.std.proofs.lemmas.List.{at_drop_more, at_drop_all}
use Rattle.hsr_playback.specs.Taken.{jump_at, jumps_from, last_at}
use Rattle.hsr_playback.specs.declared.taken.Jump.{Jump}
use Rattle.hsr_playback.specs.declared.taken.Taken.{Taken}

pub jumps_more : (last after : Taken) (taken : List Taken) (i : ℕ) (d : Taken) (jump : Jump) (jumps next whole : List Jump) → i < length taken
    → jump ≡ jump_at last (get_or taken i d) → after ≡ last_at last (get_or taken i d) → next ≡ jumps ++ jump ∷ []
    → jumps ++ jumps_from last (drop i taken) ≡ whole → next ++ jumps_from after (drop (i + 1) taken) ≡ whole
jumps_more last after taken i d jump jumps next whole h here later put same =
    let left : List Taken = drop (i + 1) taken in
    ap (λ (front : List Jump). front ++ jumps_from after left) put ∙ append_assoc jumps (jump ∷ []) (jumps_from after left)
    ∙ ap (λ (x : Jump). jumps ++ x ∷ jumps_from after left) here ∙ ap (λ (t : Taken). jumps ++ jump_at last (get_or taken i d) ∷ jumps_from t left) later
    ∙ ap (λ (rest : List Jump). jumps ++ rest) (sym (at_drop_more (jumps_from last) taken i d h)) ∙ same

pub jumps_all : (last : Taken) (taken : List Taken) (i : ℕ) → length taken ≤ i → jumps_from last (drop i taken) ≡ []
jumps_all last taken i h = at_drop_all (jumps_from last) taken i h
