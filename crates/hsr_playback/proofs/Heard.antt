-- One more station that is heard.
use Rattle.std.proofs.Common.{◌≡◌, ℕ, ◌+◌, ◌<◌, ◌≤◌, ◌∙◌, List, [], ◌∷◌, length, get_or, drop, ap, sym}
use Rattle.std.proofs.lemmas.List.{at_drop_more, at_drop_all}
use Rattle.hsr_playback.specs.Answers.{Machine}
use Rattle.hsr_playback.specs.Playing.{heard, heard_one}

pub heard_more : (capacity : ℕ) (m next whole : Machine capacity) (macs : List (List ℕ)) (i : ℕ) (mac d : List ℕ) → i < length macs → mac ≡ get_or macs i d
    → next ≡ heard_one capacity m mac → heard capacity m (drop i macs) ≡ whole → heard capacity next (drop (i + 1) macs) ≡ whole
heard_more capacity m next whole macs i mac d h item is same =
    ap (λ (n : Machine capacity). heard capacity n (drop (i + 1) macs)) (is ∙ ap (heard_one capacity m) item) ∙ sym (at_drop_more (heard capacity m) macs i d h) ∙ same

pub heard_all : (capacity : ℕ) (m : Machine capacity) (macs : List (List ℕ)) (i : ℕ) → length macs ≤ i → heard capacity m (drop i macs) ≡ m
heard_all capacity m macs i h = at_drop_all (heard capacity m) macs i h
