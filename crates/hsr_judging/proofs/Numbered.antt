-- The numbers that are taken over, copy by copy.
use Rattle.std.proofs.Common.{◌≡◌, ℕ, ◌+◌, ◌<◌, ◌≤◌, ◌∙◌, ◌++◌, ◌==◌, append_assoc, Bool, true, false, List, [], ◌∷◌, length, get_or, drop, replicate, Option, Some, None, Bor, refl, ap, sym, subst, arith, ◌⊎◌, inl, inr, slice_get, unwrap_or, if◌then◌else◌}
use Rattle.std.proofs.lemmas.Bool.{cases_eq, cases_lt, cond-false, cond-true, eq-eqb, ne_eqb}
use Rattle.std.proofs.lemmas.List.{at_drop_more, at_drop_all, drop_more, get_or-set_same, get_or-set_other, get_or-replicate, length-replicate, length-set, set_past}
use Rattle.std.proofs.lemmas.List.FromFn.{fill_by_all}
use Rattle.std.proofs.lemmas.Option.{unwrap_or-slice_get, slice_get_past}
use Rattle.std.specs.List.{slice_set}
use Rattle.std.specs.Option.{option_or}
use Rattle.hsr_tag.specs.Seen.{classified}
use mathlib.Core.Path.{fun_ext}
use Rattle.hsr_playback.specs.Playing.{taken_at}
use Rattle.hsr_playback.specs.declared.expected.Expected.{Expected}
use Rattle.hsr_playback.specs.declared.passage.Passage.{Passage}
use Rattle.hsr_playback.specs.declared.taken.Jump.{Jump}
use Rattle.hsr_playback.specs.declared.taken.Taken.{Taken}
use Rattle.hsr_judging.specs.Matching.{views}
use Rattle.hsr_judging.specs.Numbers.{copy_of, first_of, jump_of, jumps_in, left_after, no_jump, no_numbers, numbered_cause, numbers_at, numbers_in, taken_by, taken_of, taken_with, told_from, untold}
use Rattle.hsr_judging.specs.declared.matching.Got.{Got}

-- ---- the first of two

or_none : (a : Option ℕ) → option_or a None ≡ a
or_none None = refl
or_none (Some n) = refl

or_assoc : (a b c : Option ℕ) → option_or (option_or a b) c ≡ option_or a (option_or b c)
or_assoc None b c = refl
or_assoc (Some n) b c = refl

abbrev with_both : Option ℕ → Option ℕ → Taken
with_both number life = record { number = number; life = life }

same_taken : (a b : Taken) → a.number ≡ b.number → a.life ≡ b.life → a ≡ b
same_taken a b p q = ap (λ (n : Option ℕ). with_both n a.life) p ∙ ap (with_both b.number) q

pub first_none : (a : Taken) → first_of a no_numbers ≡ a
first_none a = same_taken (first_of a no_numbers) a (or_none a.number) (or_none a.life)

none_first : (a : Taken) → first_of no_numbers a ≡ a
none_first a = same_taken (first_of no_numbers a) a refl refl

first_assoc : (a b c : Taken) → first_of (first_of a b) c ≡ first_of a (first_of b c)
first_assoc a b c = same_taken (first_of (first_of a b) c) (first_of a (first_of b c)) (or_assoc a.number b.number c.number) (or_assoc a.life b.life c.life)

-- ---- what one observed copy has

taken_set : (taken : List Taken) (n k : ℕ) (x : Taken) → n < length taken → k < length taken
    → taken_at (slice_set taken n (first_of (taken_at taken n) x)) k ≡ first_of (taken_at taken k) (if n == k then x else no_numbers)
taken_set taken n k x hn hk =
    elim (cases_eq n k) as (λ _. taken_at (slice_set taken n (first_of (taken_at taken n) x)) k ≡ first_of (taken_at taken k) (if n == k then x else no_numbers)) [
      | inl e ↦ (unwrap_or-slice_get (slice_set taken n (first_of (taken_at taken n) x)) k no_numbers
          ∙ ap (λ i. get_or (slice_set taken n (first_of (taken_at taken n) x)) i no_numbers) (sym e)
          ∙ get_or-set_same taken n (first_of (taken_at taken n) x) no_numbers hn
          ∙ ap (λ i. first_of (taken_at taken i) x) e
          ∙ ap (first_of (taken_at taken k)) (sym (cond-true (n == k) x no_numbers (eq-eqb n k e))))
      | inr ne ↦ (unwrap_or-slice_get (slice_set taken n (first_of (taken_at taken n) x)) k no_numbers
          ∙ get_or-set_other taken n k (first_of (taken_at taken n) x) no_numbers (λ same. ne (sym same))
          ∙ sym (unwrap_or-slice_get taken k no_numbers)
          ∙ sym (first_none (taken_at taken k))
          ∙ ap (first_of (taken_at taken k)) (sym (cond-false (n == k) x no_numbers (ne_eqb n k ne))))
    ]

-- a passage that isn't there takes nothing
taken_past : (taken : List Taken) (n k : ℕ) (x y : Taken) → length taken ≤ n → k < length taken
    → taken_at (slice_set taken n y) k ≡ first_of (taken_at taken k) (if n == k then x else no_numbers)
taken_past taken n k x y hn hk =
    ap (λ ts. taken_at ts k) (set_past taken n y hn) ∙ sym (first_none (taken_at taken k))
    ∙ ap (first_of (taken_at taken k)) (sym (cond-false (n == k) x no_numbers (ne_eqb n k (λ e. absurd (omega arith)))))

with_copy : (taken : List Taken) (s : Passage) (o : Option Expected) (k : ℕ) → k < length taken
    → taken_at (taken_with taken s o) k ≡ first_of (taken_at taken k) (numbers_at k s o)
with_copy taken s None k h = sym (first_none (taken_at taken k))
with_copy taken s (Some e) k h =
    elim (cases_lt e.cause (length taken))
    as (λ _. taken_at (taken_with taken s (Some e)) k ≡ first_of (taken_at taken k) (numbers_at k s (Some e))) [
      | inl less ↦ taken_set taken e.cause k (numbers_in e (classified s.octets)) less h
      | inr past ↦ taken_past taken e.cause k (numbers_in e (classified s.octets)) (first_of (taken_at taken e.cause) (numbers_in e (classified s.octets))) past h
    ]

-- ---- one more observed copy

by_more : (cause : ℕ) (es : List Expected) (ps : List (Bor Passage)) (gs : List (Option Got)) (k : ℕ) (p : Bor Passage) (g : Option Got) → k < length ps → k < length gs
    → taken_by cause es (views (drop k ps)) (drop k gs)
    ≡ first_of (numbers_at cause (get_or ps k p).now (copy_of es (get_or gs k g))) (taken_by cause es (views (drop (k + 1) ps)) (drop (k + 1) gs))
by_more cause es ps gs k p g hp hg =
    ap (λ rest. taken_by cause es (views rest) (drop k gs)) (drop_more ps k p hp)
    ∙ ap (λ rest. taken_by cause es ((get_or ps k p).now ∷ views (drop (k + 1) ps)) rest) (drop_more gs k g hg)

pub taken_more : (cause : ℕ) (es : List Expected) (ps : List (Bor Passage)) (gs : List (Option Got)) (k : ℕ) (p : Bor Passage) (g : Option Got) (o : Option Expected)
    (taken after : List Taken) (whole : Taken) → k < length ps → k < length gs → cause < length taken → p ≡ get_or ps k p → o ≡ copy_of es (get_or gs k g)
    → after ≡ taken_with taken p.now o → first_of (taken_at taken cause) (taken_by cause es (views (drop k ps)) (drop k gs)) ≡ whole
    → first_of (taken_at after cause) (taken_by cause es (views (drop (k + 1) ps)) (drop (k + 1) gs)) ≡ whole
taken_more cause es ps gs k p g o taken after whole hp hg ht here copy is so =
    let rest : Taken = taken_by cause es (views (drop (k + 1) ps)) (drop (k + 1) gs) in
    let next : taken_by cause es (views (drop k ps)) (drop k gs) ≡ first_of (numbers_at cause p.now o) rest =
    by_more cause es ps gs k p g hp hg
    ∙ ap (λ (q : Bor Passage). first_of (numbers_at cause q.now (copy_of es (get_or gs k g))) rest) (sym here)
    ∙ ap (λ (x : Option Expected). first_of (numbers_at cause p.now x) rest) (sym copy) in
    ap (λ (ts : List Taken). first_of (taken_at ts cause) rest) is
    ∙ ap (λ (t : Taken). first_of t rest) (with_copy taken p.now o cause ht)
    ∙ first_assoc (taken_at taken cause) (numbers_at cause p.now o) rest
    ∙ ap (first_of (taken_at taken cause)) (sym next) ∙ so

-- as many as there were
pub taken_long : (taken after : List Taken) (s : Passage) (o : Option Expected) → after ≡ taken_with taken s o → length after ≡ length taken
taken_long taken after s None is = ap length is
taken_long taken after s (Some e) is = ap length is ∙ length-set taken e.cause (first_of (taken_at taken e.cause) (numbers_in e (classified s.octets)))

pub taken_done : (cause : ℕ) (es : List Expected) (ps : List (Bor Passage)) (gs : List (Option Got)) (k : ℕ) → length ps ≤ k
    → taken_by cause es (views (drop k ps)) (drop k gs) ≡ no_numbers
taken_done cause es ps gs k h = at_drop_all (λ rest. taken_by cause es (views rest) (drop k gs)) ps k h

-- where nothing was taken yet, what is left is all
pub taken_first : (n cause : ℕ) (x : Taken) → first_of (taken_at (replicate n no_numbers) cause) x ≡ x
taken_first n cause x =
    elim (cases_lt cause n) as (λ _. first_of (taken_at (replicate n no_numbers) cause) x ≡ x) [
      | inl less ↦ (ap (λ (t : Taken). first_of t x) (unwrap_or-slice_get (replicate n no_numbers) cause no_numbers ∙ get_or-replicate n cause no_numbers no_numbers less)
          ∙ none_first x)
      | inr past ↦ (let long : length (replicate n no_numbers) ≤ cause = omega (arith, length-replicate n no_numbers, past) in
          ap (λ (o : Option Taken). first_of (unwrap_or o no_numbers) x) (slice_get_past (replicate n no_numbers) cause long) ∙ none_first x)
    ]

-- where nothing is left, what was taken is all
pub taken_whole : (es : List Expected) (ps : List (Bor Passage)) (gs : List (Option Got)) (k n : ℕ) (taken : List Taken) → length ps ≤ k → length taken ≡ n
    → ((cause : ℕ) → cause < n → first_of (taken_at taken cause) (taken_by cause es (views (drop k ps)) (drop k gs)) ≡ taken_by cause es (views ps) gs)
    → taken ≡ taken_of n es (views ps) gs
taken_whole es ps gs k n taken h long each =
    fill_by_all (λ cause. taken_by cause es (views ps) gs) taken n no_numbers long
    (λ cause below. sym (unwrap_or-slice_get taken cause no_numbers) ∙ sym (first_none (taken_at taken cause))
    ∙ ap (first_of (taken_at taken cause)) (sym (taken_done cause es ps gs k h)) ∙ each cause below)

-- ---- jumps that aren't told yet

set_within : (left : List Jump) (n k : ℕ) → n < length left → jumps_in (slice_set left n no_jump) k ≡ (if k == n then no_jump else jumps_in left k)
set_within left n k h =
    elim (cases_eq k n) as (λ _. jumps_in (slice_set left n no_jump) k ≡ (if k == n then no_jump else jumps_in left k)) [
      | inl e ↦ (unwrap_or-slice_get (slice_set left n no_jump) k no_jump
          ∙ ap (λ i. get_or (slice_set left n no_jump) i no_jump) e
          ∙ get_or-set_same left n no_jump no_jump h
          ∙ sym (cond-true (k == n) no_jump (jumps_in left k) (eq-eqb k n e)))
      | inr ne ↦ (unwrap_or-slice_get (slice_set left n no_jump) k no_jump
          ∙ get_or-set_other left n k no_jump no_jump ne
          ∙ sym (unwrap_or-slice_get left k no_jump)
          ∙ sym (cond-false (k == n) no_jump (jumps_in left k) (ne_eqb k n ne)))
    ]

-- of a passage that isn't there there is no jump
set_beyond : (left : List Jump) (n k : ℕ) → length left ≤ n → jumps_in (slice_set left n no_jump) k ≡ (if k == n then no_jump else jumps_in left k)
set_beyond left n k h =
    elim (cases_eq k n) as (λ _. jumps_in (slice_set left n no_jump) k ≡ (if k == n then no_jump else jumps_in left k)) [
      | inl e ↦ (ap (λ js. jumps_in js k) (set_past left n no_jump h)
          ∙ ap (λ o. unwrap_or o no_jump) (slice_get_past left k (omega arith))
          ∙ sym (cond-true (k == n) no_jump (jumps_in left k) (eq-eqb k n e)))
      | inr ne ↦ (ap (λ js. jumps_in js k) (set_past left n no_jump h) ∙ sym (cond-false (k == n) no_jump (jumps_in left k) (ne_eqb k n ne)))
    ]

jump_set : (left : List Jump) (n k : ℕ) → jumps_in (slice_set left n no_jump) k ≡ (if k == n then no_jump else jumps_in left k)
jump_set left n k =
    elim (cases_lt n (length left)) as (λ _. jumps_in (slice_set left n no_jump) k ≡ (if k == n then no_jump else jumps_in left k)) [
      | inl less ↦ set_within left n k less
      | inr past ↦ set_beyond left n k past
    ]

pub left_is : (left : List Jump) (cause : Option ℕ) → jumps_in (untold left cause).1 ≡ left_after (jumps_in left) cause
left_is left None = fun_ext (λ k. refl)
left_is left (Some n) = fun_ext (λ k. jump_set left n k)

first_told : (left : List Jump) (cause : Option ℕ) → (untold left cause).0 ≡ jump_of (jumps_in left) cause
first_told left None = refl
first_told left (Some n) = refl

told_more : (left : ℕ → Jump) (es : List Expected) (gs : List (Option Got)) (k : ℕ) (g : Option Got) → k < length gs
    → told_from left es (drop k gs) ≡ told_from left es (get_or gs k g ∷ drop (k + 1) gs)
told_more left es gs k g h = at_drop_more (told_from left es) gs k g h

pub jumps_more : (es : List Expected) (gs : List (Option Got)) (k : ℕ) (g : Option Got) (cause : Option ℕ) (left after : List Jump) (jump : Jump) (told next whole : List Jump)
    → k < length gs → cause ≡ numbered_cause (copy_of es (get_or gs k g)) → ◌≡◌ {A = Jump × List Jump} (jump, after) (untold left cause) → next ≡ told ++ jump ∷ []
    → told ++ told_from (jumps_in left) es (drop k gs) ≡ whole → next ++ told_from (jumps_in after) es (drop (k + 1) gs) ≡ whole
jumps_more es gs k g cause left after jump told next whole h caused is put so =
    let rest : List (Option Got) = drop (k + 1) gs in
    ap (λ (l : List Jump). l ++ told_from (jumps_in after) es rest) put
    ∙ append_assoc told (jump ∷ []) (told_from (jumps_in after) es rest)
    ∙ ap (λ (y : Jump × List Jump). told ++ y.0 ∷ told_from (jumps_in y.1) es rest) is
    ∙ ap (λ (j : Jump). told ++ j ∷ told_from (jumps_in (untold left cause).1) es rest) (first_told left cause)
    ∙ ap (λ (f : ℕ → Jump). told ++ jump_of (jumps_in left) cause ∷ told_from f es rest) (left_is left cause)
    ∙ ap (λ (c : Option ℕ). told ++ jump_of (jumps_in left) c ∷ told_from (left_after (jumps_in left) c) es rest) caused
    ∙ ap (λ (all : List Jump). told ++ all) (sym (told_more (jumps_in left) es gs k g h)) ∙ so

pub jumps_all : (left : ℕ → Jump) (es : List Expected) (gs : List (Option Got)) (k : ℕ) → length gs ≤ k → told_from left es (drop k gs) ≡ []
jumps_all left es gs k h = at_drop_all (told_from left es) gs k h
