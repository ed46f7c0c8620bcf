-- Frames that are counted before they are listed.
use Rattle.std.proofs.Common.{◌≡◌, ℕ, suc, ◌+◌, ◌-◌, ◌<◌, ◌≤◌, ◌∙◌, false, true, min, nat_le, length, get_or, slice_get, drop, List, [], Some, None, refl, ap, sym, ⊎_elim, arith, length-append}
use Rattle.std.proofs.lemmas.List.{drop_all}
use Rattle.std.proofs.lemmas.Bool.Decides.{leb_tells, nat_tests}
use Rattle.hsr_plan_text.specs.Plan.{Timing}
use Rattle.hsr_plan_schedule.specs.Moments.{left, moment, next_end, next_gap, run, run_from, runs, sent_by}
use Rattle.hsr_plan_schedule.proofs.Running.{first}
use Rattle.hsr_plan_schedule.proofs.Running as listed
use Rattle.hsr_plan_schedule.specs.declared.occasion.Sender.{Sender}
use Rattle.hsr_plan_schedule.specs.declared.occasion.Sent.{Sent}

-- ---- room

fits : (room n : ℕ) → n ≤ room → left room n ≡ Some (room - n)
unfolding left
fits room n h = let e : nat_le n room ≡ true = grind (arith, nat_tests) in rw e refl

pub lacks : (room n : ℕ) → room < n → left room n ≡ None
unfolding left
lacks room n h = let e : nat_le n room ≡ false = grind (arith, nat_tests) in rw e refl

all_left : (room : ℕ) → left room 0 ≡ Some room
all_left room =
    let some : 0 ≤ room = omega arith in
    let whole : room - 0 ≡ room = omega arith in
    fits room 0 some ∙ ap (λ n. Some n) whole

both_fit : (room n m : ℕ) → n ≤ room → m ≤ room - n → left room (n + m) ≡ left (room - n) m
both_fit room n m h g =
    let all : n + m ≤ room = omega arith in
    let same : room - (n + m) ≡ (room - n) - m = omega arith in
    fits room (n + m) all ∙ ap (λ r. Some r) same ∙ sym (fits (room - n) m g)

second_lacks : (room n m : ℕ) → n ≤ room → room - n < m → left room (n + m) ≡ left (room - n) m
second_lacks room n m h g =
    let over : room < n + m = omega arith in
    lacks room (n + m) over ∙ sym (lacks (room - n) m g)

behind_first : (room n m : ℕ) → n ≤ room → left room (n + m) ≡ left (room - n) m
behind_first room n m h = ⊎_elim (λ yes. both_fit room n m h yes.1) (λ no. second_lacks room n m h no.1) (leb_tells m (room - n))

first_fits : (room n m r : ℕ) → left room n ≡ Some r → n ≤ room → left room (n + m) ≡ left r m
first_fits room n m r e h =
    let is : left room n ≡ Some (room - n) = fits room n h in
    let same : room - n ≡ r = cc in
    behind_first room n m h ∙ ap (λ x. left x m) same

first_lacks : (room n m r : ℕ) → left room n ≡ Some r → room < n → left room (n + m) ≡ left r m
first_lacks room n m r e h = let is : left room n ≡ None = lacks room n h in absurd cc

-- more than these
more : (room n m r : ℕ) → left room n ≡ Some r → left room (n + m) ≡ left r m
more room n m r e = ⊎_elim (λ yes. first_fits room n m r e yes.1) (λ no. first_lacks room n m r e no.1) (leb_tells n room)

no_room : (room n m : ℕ) → left room n ≡ None → n ≤ room → left room (n + m) ≡ None
no_room room n m e h = let is : left room n ≡ Some (room - n) = fits room n h in absurd cc

over_all : (room n m : ℕ) → room < n → left room (n + m) ≡ None
over_all room n m h = lacks room (n + m) (omega arith)

full : (room n m : ℕ) → left room n ≡ None → left room (n + m) ≡ None
full room n m e = ⊎_elim (λ yes. no_room room n m e yes.1) (λ no. over_all room n m no.1) (leb_tells n room)

nothing_more : (k : ℕ) → k + 0 ≡ k
nothing_more k = omega arith

one_more : (k n : ℕ) → k + suc n ≡ (k + 1) + n
one_more k n = omega arith

-- ---- frames from one start on

pub run_step : (most k start at gap : ℕ) (timing : Timing) (until : ℕ) (sent : Sent) (later longer bound : ℕ) → k < most → at < until → until ≤ bound
    → later ≡ min (moment timing timing.pace start (k + 1) at gap) bound → longer ≡ next_gap timing.pace gap
    → k + length (run (most - k) k start at gap timing until sent) ≡ (k + 1) + length (run (most - (k + 1)) (k + 1) start later longer timing until sent)
run_step most k start at gap timing until sent later longer bound h now within e f =
    ap (λ xs. k + length xs) (listed.run_step [] most k start at gap timing until sent later longer bound h now within e f)
    ∙ one_more k (length (run (most - (k + 1)) (k + 1) start later longer timing until sent))

pub run_stop : (n k start at gap : ℕ) (timing : Timing) (until : ℕ) (sent : Sent) → until ≤ at → k + length (run n k start at gap timing until sent) ≡ k
run_stop n k start at gap timing until sent h = ap (λ xs. k + length xs) (listed.run_stop [] n k start at gap timing until sent h) ∙ nothing_more k

pub run_over : (n k start at gap : ℕ) (timing : Timing) (until : ℕ) (sent : Sent) → n ≤ k → k + length (run (n - k) k start at gap timing until sent) ≡ k
run_over n k start at gap timing until sent h = ap (λ xs. k + length xs) (listed.run_over [] n k start at gap timing until sent h) ∙ nothing_more k

-- ---- frames of one sender

pub runs_step : (room r i d : ℕ) (starts : List ℕ) (timing : Timing) (until : ℕ) (sent : Sent) → i < length starts
    → left room (length (run_from (get_or starts i d) timing (next_end (slice_get timing.starts (i + 1)) until) (record sent { state = i }))) ≡ Some r
    → left room (length (runs i (drop i starts) timing until sent)) ≡ left r (length (runs (i + 1) (drop (i + 1) starts) timing until sent))
runs_step room r i d starts timing until sent h e =
    let here = run_from (get_or starts i d) timing (next_end (slice_get timing.starts (i + 1)) until) (record sent { state = i }) in
    let behind = runs (i + 1) (drop (i + 1) starts) timing until sent in
    ap (λ xs. left room (length xs)) (listed.runs_step [] starts i d timing until sent h) ∙ ap (left room) (length-append here behind) ∙ more room (length here) (length behind) r e

pub runs_full : (room i d : ℕ) (starts : List ℕ) (timing : Timing) (until : ℕ) (sent : Sent) → i < length starts
    → left room (length (run_from (get_or starts i d) timing (next_end (slice_get timing.starts (i + 1)) until) (record sent { state = i }))) ≡ None
    → left room (length (runs i (drop i starts) timing until sent)) ≡ None
runs_full room i d starts timing until sent h e =
    let here = run_from (get_or starts i d) timing (next_end (slice_get timing.starts (i + 1)) until) (record sent { state = i }) in
    let behind = runs (i + 1) (drop (i + 1) starts) timing until sent in
    ap (λ xs. left room (length xs)) (listed.runs_step [] starts i d timing until sent h) ∙ ap (left room) (length-append here behind) ∙ full room (length here) (length behind) e

-- none is left
pub runs_over : (room i : ℕ) (starts : List ℕ) (timing : Timing) (until : ℕ) (sent : Sent) → length starts ≤ i → left room (length (runs i (drop i starts) timing until sent)) ≡ Some room
runs_over room i starts timing until sent h = ap (λ xs. left room (length (runs i xs timing until sent))) (drop_all i starts h) ∙ all_left room

-- ---- frames of a stream

pub sent_by_step : (room r i : ℕ) (senders : List Sender) (j : ℕ) (d : Sender) (timing : Timing) (until : ℕ) (dst : List ℕ) → j < length senders
    → left room (length (runs 0 timing.starts timing until (first i j (get_or senders j d) dst))) ≡ Some r
    → left room (length (sent_by i j (drop j senders) timing until dst)) ≡ left r (length (sent_by i (j + 1) (drop (j + 1) senders) timing until dst))
sent_by_step room r i senders j d timing until dst h e =
    let here = runs 0 timing.starts timing until (first i j (get_or senders j d) dst) in
    let behind = sent_by i (j + 1) (drop (j + 1) senders) timing until dst in
    ap (λ xs. left room (length xs)) (listed.sent_by_step [] i senders j d timing until dst h) ∙ ap (left room) (length-append here behind) ∙ more room (length here) (length behind) r e

pub sent_by_full : (room i : ℕ) (senders : List Sender) (j : ℕ) (d : Sender) (timing : Timing) (until : ℕ) (dst : List ℕ) → j < length senders
    → left room (length (runs 0 timing.starts timing until (first i j (get_or senders j d) dst))) ≡ None
    → left room (length (sent_by i j (drop j senders) timing until dst)) ≡ None
sent_by_full room i senders j d timing until dst h e =
    let here = runs 0 timing.starts timing until (first i j (get_or senders j d) dst) in
    let behind = sent_by i (j + 1) (drop (j + 1) senders) timing until dst in
    ap (λ xs. left room (length xs)) (listed.sent_by_step [] i senders j d timing until dst h) ∙ ap (left room) (length-append here behind) ∙ full room (length here) (length behind) e

pub sent_by_over : (room i : ℕ) (senders : List Sender) (j : ℕ) (timing : Timing) (until : ℕ) (dst : List ℕ) → length senders ≤ j
    → left room (length (sent_by i j (drop j senders) timing until dst)) ≡ Some room
sent_by_over room i senders j timing until dst h = ap (λ xs. left room (length (sent_by i j xs timing until dst))) (drop_all j senders h) ∙ all_left room
