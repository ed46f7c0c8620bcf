-- Frames of one sender.
use Rattle.std.proofs.Common.{◌≡◌, ℕ, zero, suc, ◌+◌, ◌-◌, ◌<◌, ◌≤◌, ◌∙◌, ◌++◌, false, true, min, nat_lt, length, get_or, slice_get, drop, List, [], ◌∷◌, refl, ap, sym, arith, append_assoc, append-nil}
use Rattle.std.proofs.lemmas.List.{drop_more}
use Rattle.std.proofs.lemmas.Bool.Decides.{nat_tests}
use Rattle.hsr_plan_text.specs.Plan.{Timing}
use Rattle.hsr_plan_schedule.specs.Moments.{moment, next_end, next_gap, run, run_from, runs, sent_by}
use Rattle.hsr_plan_schedule.specs.declared.occasion.Happening.TheVariants.{Send}
use Rattle.hsr_plan_schedule.specs.declared.occasion.Occasion.{Occasion}
use Rattle.hsr_plan_schedule.specs.declared.occasion.Sender.{Sender}
use Rattle.hsr_plan_schedule.specs.declared.occasion.Sent.{Sent}

abbrev pub frame : ℕ → Sent → ℕ → Occasion
frame at sent k = record { at = at; what = Send (record sent { count = k }) }

-- nothing comes at the end or behind it
pub run_past : (n k start at gap : ℕ) (timing : Timing) (until : ℕ) (sent : Sent) → until ≤ at → run n k start at gap timing until sent ≡ []
unfolding run
run_past zero k start at gap timing until sent h = refl
run_past (suc n) k start at gap timing until sent h = let e : nat_lt at until ≡ false = grind (arith, nat_tests) in rw e refl

next : (n k start at gap : ℕ) (timing : Timing) (until : ℕ) (sent : Sent) → at < until
    → run (suc n) k start at gap timing until sent ≡ frame at sent k ∷ run n (k + 1) start (moment timing timing.pace start (k + 1) at gap) (next_gap timing.pace gap) timing until sent
unfolding run
next n k start at gap timing until sent h = let e : nat_lt at until ≡ true = grind (arith, nat_tests) in rw e refl

-- a moment that is bounded far behind the end is as good
bounded : (n k start x gap : ℕ) (timing : Timing) (until most : ℕ) (sent : Sent) → until ≤ most → run n k start (min x most) gap timing until sent ≡ run n k start x gap timing until sent
bounded n k start x gap timing until most sent h =
    grind (arith, run_past n k start x gap timing until sent, run_past n k start (min x most) gap timing until sent)

-- where one is left, there is one before the end
pub run_some : (most k start at gap : ℕ) (timing : Timing) (until : ℕ) (sent : Sent) → k < most → at < until → 1 ≤ length (run (most - k) k start at gap timing until sent)
run_some most k start at gap timing until sent h now =
    let n : most - k ≡ suc (most - (k + 1)) = omega arith in
    rw n (rw (next (most - (k + 1)) k start at gap timing until sent now) (omega arith))

-- a frame joins those before it
pub run_step : (seen : List Occasion) (most k start at gap : ℕ) (timing : Timing) (until : ℕ) (sent : Sent) (later longer bound : ℕ) → k < most → at < until → until ≤ bound
    → later ≡ min (moment timing timing.pace start (k + 1) at gap) bound → longer ≡ next_gap timing.pace gap
    → seen ++ run (most - k) k start at gap timing until sent ≡ (seen ++ frame at sent k ∷ []) ++ run (most - (k + 1)) (k + 1) start later longer timing until sent
run_step seen most k start at gap timing until sent later longer bound h now fits e f =
    let n : most - k ≡ suc (most - (k + 1)) = omega arith in
    let same : run (most - (k + 1)) (k + 1) start later longer timing until sent ≡ run (most - (k + 1)) (k + 1) start (moment timing timing.pace start (k + 1) at gap) (next_gap timing.pace gap) timing until sent =
    ap (λ x. run (most - (k + 1)) (k + 1) start x longer timing until sent) e
    ∙ ap (λ y. run (most - (k + 1)) (k + 1) start (min (moment timing timing.pace start (k + 1) at gap) bound) y timing until sent) f
    ∙ bounded (most - (k + 1)) (k + 1) start (moment timing timing.pace start (k + 1) at gap) (next_gap timing.pace gap) timing until bound sent fits in
    ap (λ m. seen ++ run m k start at gap timing until sent) n
    ∙ ap (λ xs. seen ++ xs) (next (most - (k + 1)) k start at gap timing until sent now)
    ∙ sym (append_assoc seen (frame at sent k ∷ []) (run (most - (k + 1)) (k + 1) start (moment timing timing.pace start (k + 1) at gap) (next_gap timing.pace gap) timing until sent))
    ∙ ap (λ xs. (seen ++ frame at sent k ∷ []) ++ xs) (sym same)

-- at the end or behind it nothing joins
pub run_stop : (seen : List Occasion) (n k start at gap : ℕ) (timing : Timing) (until : ℕ) (sent : Sent) → until ≤ at → seen ++ run n k start at gap timing until sent ≡ seen
run_stop seen n k start at gap timing until sent h = rw (run_past n k start at gap timing until sent h) (append-nil seen)

none : (k start at gap : ℕ) (timing : Timing) (until : ℕ) (sent : Sent) → run 0 k start at gap timing until sent ≡ []
unfolding run
none k start at gap timing until sent = refl

-- where none is left nothing joins
pub run_over : (seen : List Occasion) (n k start at gap : ℕ) (timing : Timing) (until : ℕ) (sent : Sent) → n ≤ k → seen ++ run (n - k) k start at gap timing until sent ≡ seen
run_over seen n k start at gap timing until sent h =
    let e : n - k ≡ 0 = omega arith in
    ap (λ m. seen ++ run m k start at gap timing until sent) e ∙ rw (none k start at gap timing until sent) (append-nil seen)

pub runs_step : (seen : List Occasion) (starts : List ℕ) (i d : ℕ) (timing : Timing) (until : ℕ) (sent : Sent) → i < length starts
    → seen ++ runs i (drop i starts) timing until sent
    ≡ (seen ++ run_from (get_or starts i d) timing (next_end (slice_get timing.starts (i + 1)) until) (record sent { state = i }))
    ++ runs (i + 1) (drop (i + 1) starts) timing until sent
runs_step seen starts i d timing until sent h =
    ap (λ xs. seen ++ runs i xs timing until sent) (drop_more starts i d h)
    ∙ sym (append_assoc seen (run_from (get_or starts i d) timing (next_end (slice_get timing.starts (i + 1)) until) (record sent { state = i }))
    (runs (i + 1) (drop (i + 1) starts) timing until sent))

abbrev pub first : ℕ → ℕ → Sender → List ℕ → Sent
first i j s dst = record { stream = i; index = j; sender = s; dst = dst; state = 0; count = 0 }

pub sent_by_step : (seen : List Occasion) (i : ℕ) (senders : List Sender) (j : ℕ) (d : Sender) (timing : Timing) (until : ℕ) (dst : List ℕ) → j < length senders
    → seen ++ sent_by i j (drop j senders) timing until dst
    ≡ (seen ++ runs 0 timing.starts timing until (record { stream = i; index = j; sender = get_or senders j d; dst = dst; state = 0; count = 0 })) ++ sent_by i (j + 1) (drop (j + 1) senders) timing until dst
sent_by_step seen i senders j d timing until dst h =
    ap (λ xs. seen ++ sent_by i j xs timing until dst) (drop_more senders j d h)
    ∙ sym (append_assoc seen (runs 0 timing.starts timing until (first i j (get_or senders j d) dst)) (sent_by i (j + 1) (drop (j + 1) senders) timing until dst))
