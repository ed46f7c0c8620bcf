-- Lists that are gone over from their end.
use Rattle.std.proofs.Common.{◌≡◌, ℕ, zero, suc, ◌+◌, ◌-◌, ◌<◌, ◌≤◌, ◌∙◌, Bool, true, false, List, [], ◌∷◌, length, get_or, drop, nat_le, slice_get, Option, Some, None, Bor, refl, ap, sym, arith, if◌then◌else◌}
use Rattle.std.specs.Prelude.{reverse}
use Rattle.hsr_frame.specs.Cases.{first_of}
use Rattle.hsr_playback.proofs.Backwards.{back_all, back_more}
use Rattle.hsr_playback.specs.declared.passage.Passage.{Passage}
use Rattle.hsr_playback.specs.declared.playing.Answer.{Answer}
use Rattle.hsr_judging.proofs.Turning.{views_long}
use Rattle.hsr_judging.specs.Matching.{views}
use Rattle.hsr_judging.specs.Reasons.{is_again, looked_at, reason_by, reason_from, twice_from}
use Rattle.hsr_judging.specs.declared.reason.Looked.{Looked}
use Rattle.hsr_judging.specs.declared.reason.Looked.TheVariants.{Next, Old, Found}
use Rattle.hsr_judging.specs.declared.reason.Reason.{Reason}

-- ---- answers

or_any : {A : Type 0} (xs : List A) (n : ℕ) (d e : A) → n < length xs → get_or xs n d ≡ get_or xs n e
or_any [] n d e h = absurd (omega (arith, h))
or_any (x ∷ xs) zero d e h = refl
or_any (x ∷ xs) (suc n) d e h = or_any xs n d e (omega (arith, h))

looked_more : (passages : List Passage) (early : ℕ) (copy : Passage) (answers : List Answer) (j : ℕ) (a : Answer) (looked : Looked)
    → j < length answers → a ≡ get_or answers (length answers - 1 - j) a → looked ≡ looked_at early copy a (slice_get passages a.passage)
    → reason_from passages early copy (drop j (reverse answers)) ≡ reason_by looked (reason_from passages early copy (drop (j + 1) (reverse answers)))
looked_more passages early copy answers j a looked h here is =
    ap (reason_from passages early copy) (back_more answers j a h here)
    ∙ ap (λ (l : Looked). reason_by l (reason_from passages early copy (drop (j + 1) (reverse answers)))) (sym is)

pub looked_next : (passages : List Passage) (early : ℕ) (copy : Passage) (answers : List Answer) (j : ℕ) (d : Answer) → j < length answers
    → Next ≡ looked_at early copy (get_or answers (length answers - 1 - j) d) (slice_get passages (get_or answers (length answers - 1 - j) d).passage)
    → reason_from passages early copy (drop j (reverse answers)) ≡ reason_from passages early copy (drop (j + 1) (reverse answers))
looked_next passages early copy answers j d h is =
    let a : Answer = get_or answers (length answers - 1 - j) d in
    looked_more passages early copy answers j a Next h (or_any answers (length answers - 1 - j) d a (omega (arith, h))) is

pub looked_old : (passages : List Passage) (early : ℕ) (copy : Passage) (answers : List Answer) (j : ℕ) (d : Answer) → j < length answers
    → Old ≡ looked_at early copy (get_or answers (length answers - 1 - j) d) (slice_get passages (get_or answers (length answers - 1 - j) d).passage)
    → reason_from passages early copy (drop j (reverse answers)) ≡ None
looked_old passages early copy answers j d h is =
    let a : Answer = get_or answers (length answers - 1 - j) d in
    looked_more passages early copy answers j a Old h (or_any answers (length answers - 1 - j) d a (omega (arith, h))) is

pub looked_found : (passages : List Passage) (early : ℕ) (copy : Passage) (answers : List Answer) (j : ℕ) (d : Answer) (reason : Reason) → j < length answers
    → Found reason ≡ looked_at early copy (get_or answers (length answers - 1 - j) d) (slice_get passages (get_or answers (length answers - 1 - j) d).passage)
    → reason_from passages early copy (drop j (reverse answers)) ≡ Some reason
looked_found passages early copy answers j d reason h is =
    let a : Answer = get_or answers (length answers - 1 - j) d in
    looked_more passages early copy answers j a (Found reason) h (or_any answers (length answers - 1 - j) d a (omega (arith, h))) is

pub looked_all : (passages : List Passage) (early : ℕ) (copy : Passage) (answers : List Answer) (j : ℕ) → length answers ≤ j
    → reason_from passages early copy (drop j (reverse answers)) ≡ None
looked_all passages early copy answers j h = ap (reason_from passages early copy) (back_all answers j h)

-- ---- copies

view_at : (ps : List (Bor Passage)) (k : ℕ) (p : Bor Passage) → k < length ps → p ≡ get_or ps k p → p.now ≡ get_or (views ps) k p.now
view_at [] k p h e = absurd (omega arith)
view_at (x ∷ ps) zero p h e = ap (λ (b : Bor Passage). b.now) e
view_at (x ∷ ps) (suc k) p h e = view_at ps k p (omega arith) e

twice_more : (copy : Passage) (ps : List (Bor Passage)) (j : ℕ) (p : Bor Passage) → j < length ps → p ≡ get_or ps (length ps - 1 - j) p
    → twice_from copy (drop j (reverse (views ps)))
    ≡ (if nat_le 400000000 (copy.moment - p.now.moment) then false else (if is_again p.now copy then true else twice_from copy (drop (j + 1) (reverse (views ps)))))
twice_more copy ps j p h here =
    let within : j < length (views ps) = omega (arith, views_long ps, h) in
    let place : length ps - 1 - j ≡ length (views ps) - 1 - j = omega (arith, views_long ps) in
    let at : p.now ≡ get_or (views ps) (length (views ps) - 1 - j) p.now =
    view_at ps (length ps - 1 - j) p (omega arith) here ∙ ap (λ k. get_or (views ps) k p.now) place in
    ap (twice_from copy) (back_more (views ps) j p.now within at)

first_is : (a b : Bool) (rest : Bool) → a ≡ true → (if a then false else (if b then true else rest)) ≡ false
first_is false b rest p = absurd (cc)
first_is true b rest p = refl

second_is : (a b : Bool) (rest : Bool) → a ≡ false → b ≡ true → (if a then false else (if b then true else rest)) ≡ true
second_is true b rest p q = absurd (cc)
second_is false false rest p q = absurd (cc)
second_is false true rest p q = refl

third_is : (a b : Bool) (rest : Bool) → a ≡ false → b ≡ false → (if a then false else (if b then true else rest)) ≡ rest
third_is true b rest p q = absurd (cc)
third_is false true rest p q = absurd (cc)
third_is false false rest p q = refl

pub twice_old : (copy : Passage) (ps : List (Bor Passage)) (j : ℕ) (p : Bor Passage) → j < length ps → p ≡ get_or ps (length ps - 1 - j) p
    → nat_le 400000000 (copy.moment - p.now.moment) ≡ true → twice_from copy (drop j (reverse (views ps))) ≡ false
twice_old copy ps j p h here old =
    twice_more copy ps j p h here
    ∙ first_is (nat_le 400000000 (copy.moment - p.now.moment)) (is_again p.now copy) (twice_from copy (drop (j + 1) (reverse (views ps)))) old

pub twice_here : (copy : Passage) (ps : List (Bor Passage)) (j : ℕ) (p : Bor Passage) → j < length ps → p ≡ get_or ps (length ps - 1 - j) p
    → nat_le 400000000 (copy.moment - p.now.moment) ≡ false → is_again p.now copy ≡ true → twice_from copy (drop j (reverse (views ps))) ≡ true
twice_here copy ps j p h here young again =
    twice_more copy ps j p h here
    ∙ second_is (nat_le 400000000 (copy.moment - p.now.moment)) (is_again p.now copy) (twice_from copy (drop (j + 1) (reverse (views ps)))) young again

pub twice_on : (copy : Passage) (ps : List (Bor Passage)) (j : ℕ) (p : Bor Passage) → j < length ps → p ≡ get_or ps (length ps - 1 - j) p
    → nat_le 400000000 (copy.moment - p.now.moment) ≡ false → is_again p.now copy ≡ false
    → twice_from copy (drop j (reverse (views ps))) ≡ twice_from copy (drop (j + 1) (reverse (views ps)))
twice_on copy ps j p h here young other =
    twice_more copy ps j p h here
    ∙ third_is (nat_le 400000000 (copy.moment - p.now.moment)) (is_again p.now copy) (twice_from copy (drop (j + 1) (reverse (views ps)))) young other

pub twice_all : (copy : Passage) (ps : List (Bor Passage)) (j : ℕ) → length ps ≤ j → twice_from copy (drop j (reverse (views ps))) ≡ false
twice_all copy ps j h = ap (twice_from copy) (back_all (views ps) j (omega (arith, views_long ps, h)))
