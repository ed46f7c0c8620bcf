-- The numbers that a DANH gives to its frames, one after the other.
use Rattle.std.proofs.Common.{◌≡◌, ◌⊎◌, ℕ, ◌+◌, ◌%◌, ◌<◌, ◌≤◌, ◌==◌, ◌^◌, Bool, true, false, cond, if◌then◌else◌, List, [], ◌∷◌, ◌++◌, length, count_by, Option, Some, None, Result, Ok, Err, refl, sym, ap, ◌∙◌, subst, arith, inl, inr, ⊎_elim, zero, suc, eqb-true, ne_eqb, nat_lt}
use Rattle.std.specs.Prelude.{is_some}
use Rattle.std.specs.List.{cons_option}
use Rattle.std.proofs.lemmas.List.Sums.{sum_by-append}
use Rattle.std.proofs.lemmas.Bool.{false≢true, cases_Bool, cases_eq, cond-true, cond-false, eqb-false}
use Rattle.hsr_frame.specs.declared.node.Mode.{Mode}
use Rattle.hsr_frame.specs.Send.{send_refusal}
use Rattle.hsr_frame.specs.declared.fault.SendFault.{SendFault}
use Rattle.hsr_frame.specs.declared.node.About.TheVariants.{Own, Proxied}
use Rattle.hsr_node.specs.Record.{Each, Owner, answer, count_of, lives, next_number, now, number_in, send_answer, sent_or_refused, steps}
use Rattle.hsr_node.specs.declared.entry.Entry.{Entry}
use Rattle.hsr_node.specs.declared.event.Event.{Event}
use Rattle.hsr_node.specs.declared.event.Event.TheVariants.{Send, Supervise, Arrive, Age}
use Rattle.hsr_node.specs.declared.event.Outcome.{Outcome}
use Rattle.hsr_node.specs.declared.event.Outcome.TheVariants.{Sent, Life, Judged, Aged}
use Rattle.hsr_node.specs.declared.event.StepFault.TheVariants as refused
use Rattle.hsr_run_laws.specs.Budget.{is_sending, is_within, moment_at, sends_at, sends_below, sent_in}
use Rattle.hsr_run_laws.specs.Budget as budget
use Rattle.hsr_run_laws.specs.Run.{Run, past_of}
use Rattle.hsr_run_laws.proofs.Crowd.{in_window}
use Rattle.hsr_run_laws.proofs.Danh.{danh}
use Rattle.hsr_run_laws.proofs.Lists.{count_more, one_if}
use Rattle.hsr_run_laws.proofs.Passed.{danh_numbers_none}
use Rattle.hsr_run_laws.proofs.Records.{Answered}
use Rattle.hsr_run_laws.proofs.Timely.{is_send_at}
use Rattle.hsr_run_laws.proofs.Views.{judged}

-- how many numbered frames there were
abbrev pub numbered : List Entry → ℕ
numbered past = count_of (λ x. is_some (number_in x.outcome)) past

-- how many came before a place
abbrev pub numbered_at : ℕ → List Entry → ℕ
numbered_at n [] = 0
numbered_at n (x ∷ past) = if n == length past then numbered past else numbered_at n past

-- each frame of a DANH's own gets the next number
pub danh_number : (capacity number : ℕ) (mac : List ℕ) (mode : Mode) (past : List Entry) (at : ℕ) (event : Event) (outcome : Outcome) → answer capacity (danh number mac mode) past at event ≡ Ok outcome → is_sending event ≡ true →
    number_in outcome ≡ Some (next_number past)
danh_number capacity number mac mode past at (Send from dst vlan ethertype payload) outcome ok is = by_from (from == 0) ok
  where
    by_fault : (o : Option SendFault) → sent_or_refused o (Sent (Some (next_number past)) (true ∷ true ∷ false ∷ false ∷ [])) ≡ Ok outcome → number_in outcome ≡ Some (next_number past)
    by_fault None e = let same : Sent (Some (next_number past)) (true ∷ true ∷ false ∷ false ∷ []) ≡ outcome = cc in sym (ap number_in same)
    by_fault (Some fault) e = absurd cc

    by_from : (t : Bool) → send_answer capacity (danh number mac mode) past at (if t then Some mac else None) dst ethertype (length payload) ≡ Ok outcome → number_in outcome ≡ Some (next_number past)
    by_from true e = by_fault (send_refusal mac (steps past) dst ethertype (length payload)) e
    by_from false e = absurd cc
danh_number capacity number mac mode past at (Supervise (Proxied other)) outcome ok is = absurd cc
danh_number capacity number mac mode past at (Supervise Own) outcome ok is = by_spent (steps past == 2 ^ 62) ok
  where
    by_spent : (t : Bool) → (if t then Err refused.Spent else Ok (Life (next_number past) (lives past % 65536) (true ∷ true ∷ false ∷ false ∷ []))) ≡ Ok outcome → number_in outcome ≡ Some (next_number past)
    by_spent true e = absurd cc
    by_spent false e = let same : Life (next_number past) (lives past % 65536) (true ∷ true ∷ false ∷ false ∷ []) ≡ outcome = cc in sym (ap number_in same)
danh_number capacity number mac mode past at (Arrive port copy) outcome ok is = absurd (false≢true is)
danh_number capacity number mac mode past at Age outcome ok is = absurd (false≢true is)

-- and nothing else does
pub numbered_sends : (capacity number : ℕ) (mac : List ℕ) (mode : Mode) (past : List Entry) (at : ℕ) (event : Event) (outcome : Outcome) → answer capacity (danh number mac mode) past at event ≡ Ok outcome → is_some (number_in outcome) ≡ is_sending event
numbered_sends capacity number mac mode past at (Send from dst vlan ethertype payload) outcome ok = ap is_some (danh_number capacity number mac mode past at (Send from dst vlan ethertype payload) outcome ok refl)
numbered_sends capacity number mac mode past at (Supervise about) outcome ok = ap is_some (danh_number capacity number mac mode past at (Supervise about) outcome ok refl)
numbered_sends capacity number mac mode past at Age outcome ok = let same : Aged ≡ outcome = cc in ap (λ o. is_some (number_in o)) (sym same)
numbered_sends capacity number mac mode past at (Arrive port copy) outcome ok =
    let j = judged capacity (danh number mac mode) past at port copy outcome ok in
    let passes = Rattle.hsr_node.specs.Record.passing (Rattle.hsr_node.specs.Record.remembers capacity (danh number mac mode) past at) j.h.wants.exits (Rattle.hsr_run_laws.proofs.Views.came copy) in
    let O : Outcome → Type 0 = λ o. answer capacity (danh number mac mode) past at (Arrive port copy) ≡ Ok o in
    ap (λ o. is_some (number_in o)) j.out ∙ by_number (Rattle.hsr_redbox.specs.Step.number_of j.h.source (next_number past)) passes.up (Rattle.hsr_node.specs.Record.ports passes) (Rattle.hsr_frame.specs.Egress.cause_of j.h.wants passes) (subst O j.out ok)
  where
    by_number : (o : Option ℕ) (up_too : Bool) (out_ports : List Bool) (why : Rattle.hsr_frame.specs.declared.node.Cause.Cause) → answer capacity (danh number mac mode) past at (Arrive port copy) ≡ Ok (Judged up_too out_ports o why) → is_some o ≡ false
    by_number None up_too out_ports why ok = refl
    by_number (Some seq) up_too out_ports why ok = absurd (danh_numbers_none capacity number mac mode past at port copy up_too out_ports seq why ok)

-- ---- counting one record

one_count : (x : Entry) (past : List Entry) → is_some (number_in x.outcome) ≡ true → numbered (x ∷ past) ≡ numbered past + 1
one_count x past h = cond-true (is_some (number_in x.outcome)) _ _ h

no_count : (x : Entry) (past : List Entry) → is_some (number_in x.outcome) ≡ false → numbered (x ∷ past) ≡ numbered past
no_count x past h = cond-false (is_some (number_in x.outcome)) _ _ h

-- what is known of a send at a place
pub record IsNumbered (n : ℕ) (h : List Entry) : Type 0 where
  pub below : n < length h
  pub counted : numbered_at n h + 1 ≤ numbered h

module _ (capacity k : ℕ) (mac : List ℕ) (mode : Mode) where
  abbrev Legal : List Entry → Type 0
  Legal h = Each (Answered capacity (danh k mac mode)) h

  counts : (x : Entry) (past : List Entry) → Answered capacity (danh k mac mode) x past → is_some (number_in x.outcome) ≡ is_sending x.event
  counts x past ok = numbered_sends capacity k mac mode past (now (x ∷ past)) x.event x.outcome ok

  never_less : (x : Entry) (past : List Entry) → numbered past ≤ numbered (x ∷ past)
  never_less x past = ⊎_elim (λ t. let e = one_count x past t in omega arith) (λ f. let e = no_count x past f in omega arith) (cases_Bool (is_some (number_in x.outcome)))

  pub send_numbered : (n : ℕ) (h : List Entry) → Legal h → is_send_at n h ≡ true → IsNumbered n h
  send_numbered n [] legal is = absurd (false≢true is)
  send_numbered n (x ∷ past) legal is = step (n == length past) (eqb-true n (length past)) refl is (send_numbered n past legal.1)
    where
      step : (b : Bool) → (b ≡ true → n ≡ length past) → (n == length past) ≡ b → (if b then is_sending x.event else is_send_at n past) ≡ true → (is_send_at n past ≡ true → IsNumbered n past) → IsNumbered n (x ∷ past)
      step true same b is rest =
          let here : numbered_at n (x ∷ past) ≡ numbered past = cond-true (n == length past) _ _ b in
          let one = one_count x past (counts x past legal.0 ∙ is) in
          let e = same refl in
          record { below = omega arith; counted = omega arith }
      step false same b is rest =
          let r = rest is in
          let here : numbered_at n (x ∷ past) ≡ numbered_at n past = cond-false (n == length past) _ _ b in
          let below = r.below in
          let counted = r.counted in
          let more = never_less x past in
          record { below = omega arith; counted = omega arith }

  pub moment_past : (n : ℕ) (h : List Entry) → n < length h → moment_at n h ≤ now h
  moment_past n [] below = absurd (omega arith)
  moment_past n (x ∷ past) below =
      ⊎_elim
      (λ here. let e : moment_at n (x ∷ past) ≡ now (x ∷ past) = cond-true (n == length past) _ _ here in omega arith)
      (λ other.
      let e : moment_at n (x ∷ past) ≡ moment_at n past = cond-false (n == length past) _ _ other in
      let ne = eqb-false n (length past) other in
      let rest = moment_past n past (omega arith) in
      omega arith)
      (cases_Bool (n == length past))

  more_sends : (p : budget.Sent → Bool) (o : Option budget.Sent) (ss : List budget.Sent) → count_by p ss ≤ count_by p (cons_option o ss)
  more_sends p None ss = omega arith
  more_sends p (Some s) ss = let more = count_more p s ss in omega arith

  -- one more send within a window
  one_more : (start width : ℕ) (x : Entry) (past : List Entry) → is_sending x.event ≡ true → start ≤ now (x ∷ past) → now (x ∷ past) < start + width →
      count_by (is_within start width) (sends_at k past) + 1 ≤ count_by (is_within start width) (sends_at k (x ∷ past))
  one_more start width x past is from until =
      let s : budget.Sent = record { send = record { node = k; place = length past }; moment = now (x ∷ past) } in
      let Q : Option budget.Sent → Type 0 = λ o. count_by (is_within start width) (sends_at k past) + 1 ≤ count_by (is_within start width) (cons_option o (sends_at k past)) in
      let new : sent_in k x past ≡ Some (record { send = record { node = k; place = length past }; moment = now (x ∷ past) }) = cond-true (is_sending x.event) _ _ is in
      let more = count_more (is_within start width) (record { send = record { node = k; place = length past }; moment = now (x ∷ past) }) (sends_at k past) in
      let one = one_if (is_within start width (record { send = record { node = k; place = length past }; moment = now (x ∷ past) })) (in_window start width (record { send = record { node = k; place = length past }; moment = now (x ∷ past) }) from until) in
      subst Q (sym new) (omega arith)

  -- the sends from a place on, up to now
  pub sends_since : (lo start width : ℕ) (h : List Entry) → Legal h → lo < length h → start ≤ moment_at lo h → now h < start + width →
      numbered h ≤ numbered_at lo h + count_by (is_within start width) (sends_at k h)
  sends_since lo start width [] legal below from until = absurd (omega arith)
  sends_since lo start width (x ∷ past) legal below from until =
      step (cases_Bool (lo == length past)) (cases_Bool (is_some (number_in x.outcome))) (sends_since lo start width past legal.1)
    where
      Rest : Type 0
      Rest = lo < length past → start ≤ moment_at lo past → now past < start + width → numbered past ≤ numbered_at lo past + count_by (is_within start width) (sends_at k past)

      step : (((lo == length past) ≡ true) ⊎ ((lo == length past) ≡ false)) → ((is_some (number_in x.outcome) ≡ true) ⊎ (is_some (number_in x.outcome) ≡ false)) → Rest →
          numbered (x ∷ past) ≤ numbered_at lo (x ∷ past) + count_by (is_within start width) (sends_at k (x ∷ past))
      step (inl here) (inl is) rest =
          let e : moment_at lo (x ∷ past) ≡ now (x ∷ past) = cond-true (lo == length past) _ _ here in
          let f : numbered_at lo (x ∷ past) ≡ numbered past = cond-true (lo == length past) _ _ here in
          let one = one_count x past is in
          let more = one_more start width x past (sym (counts x past legal.0) ∙ is) (omega arith) (omega arith) in
          omega arith
      step (inl here) (inr is) rest =
          let f : numbered_at lo (x ∷ past) ≡ numbered past = cond-true (lo == length past) _ _ here in
          let nothing = no_count x past is in
          omega arith
      step (inr other) (inl is) rest =
          let e : moment_at lo (x ∷ past) ≡ moment_at lo past = cond-false (lo == length past) _ _ other in
          let f : numbered_at lo (x ∷ past) ≡ numbered_at lo past = cond-false (lo == length past) _ _ other in
          let ne = eqb-false lo (length past) other in
          let inside : lo < length past = omega arith in
          let before = moment_past lo past inside in
          let one = one_count x past is in
          let more = one_more start width x past (sym (counts x past legal.0) ∙ is) (omega arith) (omega arith) in
          let old = rest inside (omega arith) (omega arith) in
          omega arith
      step (inr other) (inr is) rest =
          let e : moment_at lo (x ∷ past) ≡ moment_at lo past = cond-false (lo == length past) _ _ other in
          let f : numbered_at lo (x ∷ past) ≡ numbered_at lo past = cond-false (lo == length past) _ _ other in
          let ne = eqb-false lo (length past) other in
          let inside : lo < length past = omega arith in
          let nothing = no_count x past is in
          let more = more_sends (is_within start width) (sent_in k x past) (sends_at k past) in
          let old = rest inside (omega arith) (omega arith) in
          omega arith

  -- the sends from a place on, before a later place
  pub sends_between : (lo hi start width : ℕ) (h : List Entry) → Legal h → lo < hi → hi < length h → start ≤ moment_at lo h → moment_at hi h < start + width →
      numbered_at hi h ≤ numbered_at lo h + count_by (is_within start width) (sends_at k h)
  sends_between lo hi start width [] legal before below from until = absurd (omega arith)
  sends_between lo hi start width (x ∷ past) legal before below from until = step (cases_Bool (hi == length past)) (sends_between lo hi start width past legal.1 before)
    where
      step : (((hi == length past) ≡ true) ⊎ ((hi == length past) ≡ false)) →
          (hi < length past → start ≤ moment_at lo past → moment_at hi past < start + width → numbered_at hi past ≤ numbered_at lo past + count_by (is_within start width) (sends_at k past)) →
          numbered_at hi (x ∷ past) ≤ numbered_at lo (x ∷ past) + count_by (is_within start width) (sends_at k (x ∷ past))
      step where_hi rest =
          let more = more_sends (is_within start width) (sent_in k x past) (sends_at k past) in
          let lower : lo < length past = ⊎_elim (λ e. let f = eqb-true hi (length past) e in omega arith) (λ e. let f = eqb-false hi (length past) e in omega arith) where_hi in
          let not_lo = ne_eqb lo (length past) (λ e. omega arith) in
          let m : moment_at lo (x ∷ past) ≡ moment_at lo past = cond-false (lo == length past) _ _ not_lo in
          let n : numbered_at lo (x ∷ past) ≡ numbered_at lo past = cond-false (lo == length past) _ _ not_lo in
          ⊎_elim
          (λ e.
          let c : moment_at hi (x ∷ past) ≡ now (x ∷ past) = cond-true (hi == length past) _ _ e in
          let d : numbered_at hi (x ∷ past) ≡ numbered past = cond-true (hi == length past) _ _ e in
          let all = sends_since lo start width past legal.1 lower (omega arith) (omega arith) in
          omega arith)
          (λ e.
          let c : moment_at hi (x ∷ past) ≡ moment_at hi past = cond-false (hi == length past) _ _ e in
          let d : numbered_at hi (x ∷ past) ≡ numbered_at hi past = cond-false (hi == length past) _ _ e in
          let f = eqb-false hi (length past) e in
          let all = rest (omega arith) (omega arith) (omega arith) in
          omega arith)
          where_hi

  -- a later send got a later number, before numbers begin anew
  pub later_number : (lo hi : ℕ) (h : List Entry) → Legal h → is_send_at lo h ≡ true → lo < hi → hi < length h → numbered_at lo h + 1 ≤ numbered_at hi h
  later_number lo hi [] legal is before below = absurd (omega arith)
  later_number lo hi (x ∷ past) legal is before below = step (cases_Bool (hi == length past)) (later_number lo hi past legal.1)
    where
      step : (((hi == length past) ≡ true) ⊎ ((hi == length past) ≡ false)) → (is_send_at lo past ≡ true → lo < hi → hi < length past → numbered_at lo past + 1 ≤ numbered_at hi past) →
          numbered_at lo (x ∷ past) + 1 ≤ numbered_at hi (x ∷ past)
      step where_hi rest =
          let lower : lo < length past = ⊎_elim (λ e. let f = eqb-true hi (length past) e in omega arith) (λ e. let f = eqb-false hi (length past) e in omega arith) where_hi in
          let not_lo = ne_eqb lo (length past) (λ e. omega arith) in
          let n : numbered_at lo (x ∷ past) ≡ numbered_at lo past = cond-false (lo == length past) _ _ not_lo in
          let here : is_send_at lo past ≡ true = sym (cond-false (lo == length past) (is_sending x.event) (is_send_at lo past) not_lo) ∙ is in
          ⊎_elim
          (λ e.
          let d : numbered_at hi (x ∷ past) ≡ numbered past = cond-true (hi == length past) _ _ e in
          let s = (send_numbered lo past legal.1 here).counted in
          omega arith)
          (λ e.
          let d : numbered_at hi (x ∷ past) ≡ numbered_at hi past = cond-false (hi == length past) _ _ e in
          let f = eqb-false hi (length past) e in
          let r = rest here before (omega arith) in
          omega arith)
          where_hi

-- the sends of one node are among those of all
pub count_below : (run : Run) (p : budget.Sent → Bool) (k m : ℕ) → k < m → count_by p (sends_at k (past_of run k)) ≤ count_by p (sends_below run m)
count_below run p k zero below = absurd (omega arith)
count_below run p k (suc m) below =
    let both = sum_by-append (λ s. cond (p s) 1 0) (sends_at m (past_of run m)) (sends_below run m) in
    ⊎_elim
    (λ same. let P : ℕ → Type 0 = λ j. count_by p (sends_at j (past_of run j)) ≤ count_by p (sends_at m (past_of run m)) in
    let here : count_by p (sends_at k (past_of run k)) ≤ count_by p (sends_at m (past_of run m)) = subst P (sym same) (Rattle.std.proofs.Common.le_refl _) in
    omega arith)
    (λ other. let rest = count_below run p k m (omega arith) in omega arith)
    (cases_eq k m)
