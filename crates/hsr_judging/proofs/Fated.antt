-- One more copy whose fate is told.
use Rattle.std.proofs.Common.{◌≡◌, ℕ, ◌+◌, ◌<◌, ◌≤◌, ◌∙◌, ◌++◌, append_assoc, Bool, true, List, [], ◌∷◌, length, get_or, drop, Option, Bor, ap, slice_get, sym, unwrap_or}
use Rattle.std.proofs.lemmas.List.{at_drop_more, at_drop_all}
use Rattle.hsr_tap_device.specs.Device.{DeviceFields}
use Rattle.hsr_playback.specs.declared.expected.Expected.{Expected}
use Rattle.hsr_playback.specs.declared.passage.Passage.{Passage}
use Rattle.hsr_playback.specs.declared.taken.Jump.{Jump}
use Rattle.hsr_judging.specs.Fates.{expected_fate, expected_from, got_at, observed_fate, observed_from}
use Rattle.hsr_judging.specs.Matching.{views}
use Rattle.hsr_judging.specs.Numbers.{jumps_in}
use Rattle.hsr_judging.specs.declared.fates.ExpectedFate.{ExpectedFate}
use Rattle.hsr_judging.specs.declared.fates.ObservedFate.{ObservedFate}
use Rattle.hsr_judging.specs.declared.matching.Got.{Got}

pub observed_more : (device : DeviceFields) (gots : List (Option Got)) (jumps : List Jump) (ps : List (Bor Passage)) (k : ℕ) (p : Bor Passage) (got : Option Got) (jump : Jump)
    (fate : ObservedFate) (fates next whole : List ObservedFate) → k < length ps → p ≡ get_or ps k p → got ≡ got_at gots k → jump ≡ jumps_in jumps k
    → fate ≡ observed_fate device p.now got jump → next ≡ fates ++ fate ∷ [] → fates ++ observed_from device gots jumps k (views (drop k ps)) ≡ whole
    → next ++ observed_from device gots jumps (k + 1) (views (drop (k + 1) ps)) ≡ whole
observed_more device gots jumps ps k p got jump fate fates next whole h here is_got is_jump is put same =
    let rest : List ObservedFate = observed_from device gots jumps (k + 1) (views (drop (k + 1) ps)) in
    ap (λ (l : List ObservedFate). l ++ rest) put ∙ append_assoc fates (fate ∷ []) rest
    ∙ ap (λ (x : ObservedFate). fates ++ x ∷ rest) is
    ∙ ap (λ (g : Option Got). fates ++ observed_fate device p.now g jump ∷ rest) is_got
    ∙ ap (λ (j : Jump). fates ++ observed_fate device p.now (got_at gots k) j ∷ rest) is_jump
    ∙ ap (λ (q : Bor Passage). fates ++ observed_from device gots jumps k (q.now ∷ views (drop (k + 1) ps))) here
    ∙ ap (λ (l : List ObservedFate). fates ++ l) (sym (at_drop_more (λ (l : List (Bor Passage)). observed_from device gots jumps k (views l)) ps k p h)) ∙ same

pub observed_all : (device : DeviceFields) (gots : List (Option Got)) (jumps : List Jump) (ps : List (Bor Passage)) (k : ℕ) → length ps ≤ k
    → observed_from device gots jumps k (views (drop k ps)) ≡ []
observed_all device gots jumps ps k h = at_drop_all (λ rest. observed_from device gots jumps k (views rest)) ps k h

pub expected_more : (device : DeviceFields) (last : ℕ) (alone : List Bool) (es : List Expected) (i : ℕ) (e : Expected) (left : Bool) (fate : ExpectedFate) (fates next whole : List ExpectedFate)
    → i < length es → e ≡ get_or es i e → left ≡ unwrap_or (slice_get alone i) true → fate ≡ expected_fate device last e left → next ≡ fates ++ fate ∷ []
    → fates ++ expected_from device last alone i (drop i es) ≡ whole → next ++ expected_from device last alone (i + 1) (drop (i + 1) es) ≡ whole
expected_more device last alone es i e left fate fates next whole h here is_left is put same =
    let rest : List ExpectedFate = expected_from device last alone (i + 1) (drop (i + 1) es) in
    ap (λ (l : List ExpectedFate). l ++ rest) put ∙ append_assoc fates (fate ∷ []) rest
    ∙ ap (λ (x : ExpectedFate). fates ++ x ∷ rest) is
    ∙ ap (λ (b : Bool). fates ++ expected_fate device last e b ∷ rest) is_left
    ∙ ap (λ (x : Expected). fates ++ expected_from device last alone i (x ∷ drop (i + 1) es)) here
    ∙ ap (λ (l : List ExpectedFate). fates ++ l) (sym (at_drop_more (expected_from device last alone i) es i e h)) ∙ same

pub expected_all : (device : DeviceFields) (last : ℕ) (alone : List Bool) (es : List Expected) (i : ℕ) → length es ≤ i
    → expected_from device last alone i (drop i es) ≡ []
expected_all device last alone es i h = at_drop_all (expected_from device last alone i) es i h
