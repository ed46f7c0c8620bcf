-- One more passage that is played.
use Rattle.std.proofs.Common.{◌≡◌, ℕ, ◌+◌, ◌<◌, ◌≤◌, ◌∙◌, Bool, List, [], ◌∷◌, length, get_or, drop, Option, ap, sym}
use Rattle.std.proofs.lemmas.List.{at_drop_more, at_drop_all}
use Rattle.hsr_playback.specs.Playing.{RunFields, begins_at, played_from, played_one, taken_at}
use Rattle.hsr_playback.specs.declared.passage.Passage.{Passage}
use Rattle.hsr_playback.specs.declared.taken.Taken.{Taken}
use Rattle.hsr_playback.specs.declared.taps.Taps.{Taps}

pub played_more : (capacity : ℕ) (taps : Taps) (own : Option (List ℕ)) (begins : List Bool) (taken : List Taken) (run next whole : RunFields capacity)
    (ps : List Passage) (i : ℕ) (p : Passage) (begun : Bool) (took : Taken) → i < length ps → p ≡ get_or ps i p
    → begun ≡ begins_at begins i → took ≡ taken_at taken i → next ≡ played_one capacity taps own run i p begun took
    → played_from capacity taps own begins taken run i (drop i ps) ≡ whole
    → played_from capacity taps own begins taken next (i + 1) (drop (i + 1) ps) ≡ whole
played_more capacity taps own begins taken run next whole ps i p begun took h here is_begun is_taken is same =
    ap (λ (n : RunFields capacity). played_from capacity taps own begins taken n (i + 1) (drop (i + 1) ps)) is
    ∙ ap (λ (b : Bool). played_from capacity taps own begins taken (played_one capacity taps own run i p b took) (i + 1) (drop (i + 1) ps)) is_begun
    ∙ ap (λ (t : Taken). played_from capacity taps own begins taken (played_one capacity taps own run i p (begins_at begins i) t) (i + 1) (drop (i + 1) ps)) is_taken
    ∙ ap (λ (x : Passage). played_from capacity taps own begins taken run i (x ∷ drop (i + 1) ps)) here
    ∙ sym (at_drop_more (played_from capacity taps own begins taken run i) ps i p h) ∙ same

pub played_all : (capacity : ℕ) (taps : Taps) (own : Option (List ℕ)) (begins : List Bool) (taken : List Taken) (run : RunFields capacity) (ps : List Passage) (i : ℕ)
    → length ps ≤ i → played_from capacity taps own begins taken run i (drop i ps) ≡ run
played_all capacity taps own begins taken run ps i h = at_drop_all (played_from capacity taps own begins taken run i) ps i h
