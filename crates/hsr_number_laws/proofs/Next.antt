-- Each number that a node gives is the next one, so that where it numbers no more frames than there are numbers none comes again.
use Rattle.std.proofs.Common.{◌≡◌, ◌⊎◌, ℕ, ◌+◌, ◌%◌, ◌^◌, ◌<◌, ◌≤◌, ◌==◌, Bool, true, false, cond, if◌then◌else◌, List, [], ◌∷◌, length, count_by, Option, Some, None, option_map, Result, Ok, Err, refl, sym, ap, ◌∙◌, subst, arith, ⊎_elim, eqb-true}
use Rattle.std.specs.Prelude.{is_some}
use Rattle.std.specs.Option.{option_or}
use Rattle.std.proofs.lemmas.Bool.{cases_Bool, cond-false, cond-true, false≢true}
use Rattle.hsr_frame.specs.declared.node.About.{About}
use Rattle.hsr_frame.specs.declared.node.About.TheVariants.{Own, Proxied}
use Rattle.hsr_redbox.specs.Step.{number_of}
use Rattle.hsr_redbox.specs.declared.call.LifeFault.{LifeFault}
use Rattle.hsr_node.specs.Flow.{send_at, sent_by}
use Rattle.hsr_node.specs.Record.{Each, Owner, answer, knows, life_answer, lived_or_refused, lives, next_number, now, number_in, sending, steps}
use Rattle.hsr_node.specs.declared.entry.Entry.{Entry}
use Rattle.hsr_node.specs.declared.event.Carried.{Carried}
use Rattle.hsr_node.specs.declared.event.Event.{Event}
use Rattle.hsr_node.specs.declared.event.Event.TheVariants.{Send, Supervise, Arrive, Age}
use Rattle.hsr_node.specs.declared.event.Outcome.{Outcome}
use Rattle.hsr_node.specs.declared.event.Outcome.TheVariants.{Sent, Life, Judged, Aged}
use Rattle.hsr_node.specs.declared.event.Probe.{Probe}
use Rattle.hsr_node.specs.declared.event.StepFault.{StepFault}
use Rattle.hsr_node.specs.declared.place.Place.{Place}
use Rattle.hsr_node.specs.declared.place.Place.TheVariants.{Danh, RedBox, QuadBox, Station}
use Rattle.hsr_node.specs.declared.sending.Sending.{Sending}
use Rattle.hsr_run_laws.specs.Budget.{is_sending}
use Rattle.hsr_run_laws.specs.Run.{given_at, gives, is_of}
use Rattle.hsr_run_laws.proofs.Lists.{count_more}
use Rattle.hsr_run_laws.proofs.Numbers.{numbered}
use Rattle.hsr_run_laws.proofs.Records.{Answered}
use Rattle.hsr_run_laws.proofs.Same.{probe_is}
use Rattle.hsr_run_laws.proofs.SentNumbers.{sent_number}
use Rattle.hsr_run_laws.proofs.Views.{judged}
use Rattle.hsr_network_laws.specs.Network.{is_station}
use Rattle.hsr_network_laws.proofs.Sending.{sent_outcome}
use Rattle.hsr_number_laws.specs.Counted.{numbered_in}

-- ---- one entry

handled_next : (source : Option (List ℕ)) (next n : ℕ) → number_of source next ≡ Some n → n ≡ next
handled_next None next n is = absurd cc
handled_next (Some src) next n is = let same : next ≡ n = let e : Some next ≡ Some n = is in cc in sym same

life_next : (past : List Entry) (o : Option LifeFault) (outcome : Outcome) (n : ℕ) → lived_or_refused past o ≡ Ok outcome → number_in outcome ≡ Some n → n ≡ next_number past
life_next past (Some fault) outcome n ok is = absurd cc
life_next past None outcome n ok is =
    let made : Outcome = Life (next_number past) (lives past % 65536) (true ∷ true ∷ false ∷ false ∷ []) in
    let same : made ≡ outcome = let e : Ok made ≡ Ok outcome = ok in cc in
    let both : Some (next_number past) ≡ Some n = ap number_in same ∙ is in
    let equal : next_number past ≡ n = cc in
    sym equal

lives_next : (place : Place) (past : List Entry) (at : ℕ) (about : About) (outcome : Outcome) (n : ℕ) → life_answer place past at about ≡ Ok outcome → number_in outcome ≡ Some n → n ≡ next_number past
lives_next (Danh mac mode) past at Own outcome n ok is = by_spent (steps past == 2 ^ 62) ok
  where
    by_spent : (t : Bool) → (if t then Err Rattle.hsr_node.specs.declared.event.StepFault.TheVariants.Spent else lived_or_refused past None) ≡ Ok outcome → n ≡ next_number past
    by_spent true e = absurd cc
    by_spent false e = life_next past None outcome n e is
lives_next (Danh mac mode) past at (Proxied station) outcome n ok is = absurd cc
lives_next (RedBox mac mode) past at about outcome n ok is = life_next past _ outcome n ok is
lives_next QuadBox past at about outcome n ok is = absurd cc
lives_next (Station macs) past at about outcome n ok is = absurd cc

pub is_next : (capacity : ℕ) (owner : Owner) (past : List Entry) (at : ℕ) (event : Event) (outcome : Outcome) (n : ℕ) → answer capacity owner past at event ≡ Ok outcome → number_in outcome ≡ Some n → n ≡ next_number past
is_next capacity owner past at (Send from dst vlan ethertype payload) outcome n ok is =
    let out = sent_outcome capacity owner past at from dst vlan ethertype payload outcome ok in
    handled_next (sending owner.place (knows owner.place past at Age) dst ethertype).source (next_number past) n (sym (ap number_in out) ∙ is)
is_next capacity owner past at (Supervise about) outcome n ok is = lives_next owner.place past at about outcome n ok is
is_next capacity owner past at (Arrive port copy) outcome n ok is =
    let j = judged capacity owner past at port copy outcome ok in
    handled_next j.h.source (next_number past) n (sym (ap number_in j.out) ∙ is)
is_next capacity owner past at Age outcome n ok is =
    let same : Aged ≡ outcome = let e : Ok Aged ≡ Ok outcome = ok in cc in
    let none : None ≡ Some n = ap number_in same ∙ is in
    absurd cc

-- ---- a record

abbrev pub IsNext : Entry → List Entry → Type 0
IsNext x past = (n : ℕ) → number_in x.outcome ≡ Some n → n ≡ next_number past

pub each_next : (capacity : ℕ) (owner : Owner) (h : List Entry) → Each (Answered capacity owner) h → Each IsNext h
each_next capacity owner [] legal = tt
each_next capacity owner (x ∷ past) legal = (λ n is. is_next capacity owner past (now (x ∷ past)) x.event x.outcome n legal.0 is, each_next capacity owner past legal.1)

-- how many it numbered, counted in two ways
pub counted : (h : List Entry) → numbered_in h ≡ numbered h
counted [] = refl
counted (x ∷ past) =
    let more = count_more (λ (y : Entry). is_some (number_in y.outcome)) x past in
    let rest = counted past in
    ⊎_elim
    (λ yes.
    let a = cond-true (is_some (number_in x.outcome)) (numbered past + 1) (numbered past) yes in
    let b = ap (λ t. cond {A = ℕ} t 1 0) yes in
    omega (arith, more, rest, a, b))
    (λ no.
    let a = cond-false (is_some (number_in x.outcome)) (numbered past + 1) (numbered past) no in
    let b = ap (λ t. cond {A = ℕ} t 1 0) no in
    omega (arith, more, rest, a, b))
    (cases_Bool (is_some (number_in x.outcome)))

never_less : (x : Entry) (past : List Entry) → numbered past ≤ numbered (x ∷ past)
never_less x past =
    ⊎_elim
    (λ yes. let a = cond-true (is_some (number_in x.outcome)) (numbered past + 1) (numbered past) yes in omega (arith, a))
    (λ no. let a = cond-false (is_some (number_in x.outcome)) (numbered past + 1) (numbered past) no in omega (arith, a))
    (cases_Bool (is_some (number_in x.outcome)))

-- the number of the newest entry is how many there were
here_is : (x : Entry) (past : List Entry) (n : ℕ) → IsNext x past → numbered (x ∷ past) ≤ 65536 → number_in x.outcome ≡ Some n → (n ≡ numbered past) × (numbered (x ∷ past) ≡ numbered past + 1)
here_is x past n next few is =
    let some : is_some (number_in x.outcome) ≡ true = ap is_some is in
    let one = cond-true (is_some (number_in x.outcome)) (numbered past + 1) (numbered past) some in
    let same : n ≡ numbered past % 65536 = next n is in
    (omega (arith, one, same, few), one)

-- ---- numbers of own sends

-- the number of the send at a place
abbrev pub own_at : ℕ → List Entry → Option ℕ
own_at i [] = None
own_at i (x ∷ past) = if i == length past then (if is_sending x.event then number_in x.outcome else None) else own_at i past

if_some : (t : Bool) (o : Option ℕ) (n : ℕ) → (if t then o else None) ≡ Some n → o ≡ Some n
if_some true o n is = is
if_some false o n is = absurd cc

own_less : (i n : ℕ) (h : List Entry) → Each IsNext h → numbered h ≤ 65536 → own_at i h ≡ Some n → n < numbered h
own_less i n [] next few is = absurd cc
own_less i n (x ∷ past) next few is = by_test (i == length past) is (own_less i n past next.1)
  where
    by_test : (t : Bool) → (if t then (if is_sending x.event then number_in x.outcome else None) else own_at i past) ≡ Some n → (numbered past ≤ 65536 → own_at i past ≡ Some n → n < numbered past) → n < numbered (x ∷ past)
    by_test true is rest = let h = here_is x past n next.0 few (if_some (is_sending x.event) (number_in x.outcome) n is) in omega (arith, h)
    by_test false is rest =
        let less = never_less x past in
        let low = rest (omega (arith, few, less)) is in
        omega (arith, low, less)

pub own_one : (i j n : ℕ) (h : List Entry) → Each IsNext h → numbered h ≤ 65536 → own_at i h ≡ Some n → own_at j h ≡ Some n → i ≡ j
own_one i j n [] next few is_i is_j = absurd cc
own_one i j n (x ∷ past) next few is_i is_j = by_test (i == length past) (j == length past) refl refl is_i is_j (own_one i j n past next.1)
  where
    less : numbered past ≤ numbered (x ∷ past)
    less = never_less x past

    few_past : numbered past ≤ 65536
    few_past = omega (arith, less, few)

    apart : (k : ℕ) → number_in x.outcome ≡ Some n → own_at k past ≡ Some n → ⊥
    apart k here there =
        let a = here_is x past n next.0 few here in
        let b = own_less k n past next.1 few_past there in
        omega (arith, a, b)

    by_test : (s t : Bool) → (i == length past) ≡ s → (j == length past) ≡ t → (if s then (if is_sending x.event then number_in x.outcome else None) else own_at i past) ≡ Some n →
        (if t then (if is_sending x.event then number_in x.outcome else None) else own_at j past) ≡ Some n → (numbered past ≤ 65536 → own_at i past ≡ Some n → own_at j past ≡ Some n → i ≡ j) → i ≡ j
    by_test true true a b is_i is_j rest = eqb-true i (length past) a ∙ sym (eqb-true j (length past) b)
    by_test true false a b is_i is_j rest = absurd (apart j (if_some (is_sending x.event) (number_in x.outcome) n is_i) is_j)
    by_test false true a b is_i is_j rest = absurd (apart i (if_some (is_sending x.event) (number_in x.outcome) n is_j) is_i)
    by_test false false a b is_i is_j rest = rest few_past is_i is_j

-- a send has it
pub own_is : (place : Place) (i : ℕ) (s : Sending) (h : List Entry) → send_at place i h ≡ Some s → s.seq ≡ own_at i h
own_is place i s [] is = absurd cc
own_is place i s (x ∷ past) is = by_test (i == length past) is (own_is place i s past)
  where
    by_test : (t : Bool) → (if t then sent_by place x.event x.outcome else send_at place i past) ≡ Some s → (send_at place i past ≡ Some s → s.seq ≡ own_at i past) →
        s.seq ≡ (if t then (if is_sending x.event then number_in x.outcome else None) else own_at i past)
    by_test true is rest =
        let two = sent_number place x.event x.outcome s is in
        two.0 ∙ sym (ap (λ t. if t then number_in x.outcome else None) two.1)
    by_test false is rest = rest is

-- a Station's has none
pub station_none : (capacity : ℕ) (owner : Owner) (past : List Entry) (at : ℕ) (event : Event) (outcome : Outcome) → is_station owner.place ≡ true → answer capacity owner past at event ≡ Ok outcome → is_sending event ≡ true → number_in outcome ≡ None
station_none capacity owner past at (Send from dst vlan ethertype payload) outcome station ok is =
    let out = sent_outcome capacity owner past at from dst vlan ethertype payload outcome ok in
    ap number_in out ∙ by_place owner.place station
  where
    by_place : (place : Place) → is_station place ≡ true → number_of (sending place (knows owner.place past at Age) dst ethertype).source (next_number past) ≡ None
    by_place (Danh mac mode) station = absurd (false≢true station)
    by_place (RedBox mac mode) station = absurd (false≢true station)
    by_place QuadBox station = absurd (false≢true station)
    by_place (Station macs) station = refl
station_none capacity owner past at (Supervise about) outcome station ok is = by_place owner.place station ok
  where
    by_place : (place : Place) → is_station place ≡ true → life_answer place past at about ≡ Ok outcome → number_in outcome ≡ None
    by_place (Danh mac mode) station ok = absurd (false≢true station)
    by_place (RedBox mac mode) station ok = absurd (false≢true station)
    by_place QuadBox station ok = absurd (false≢true station)
    by_place (Station macs) station ok = absurd cc
station_none capacity owner past at (Arrive port copy) outcome station ok is = absurd (false≢true is)
station_none capacity owner past at Age outcome station ok is = absurd (false≢true is)

pub station_own : (capacity : ℕ) (owner : Owner) (i : ℕ) (h : List Entry) → is_station owner.place ≡ true → Each (Answered capacity owner) h → own_at i h ≡ None
station_own capacity owner i [] station legal = refl
station_own capacity owner i (x ∷ past) station legal = by_test (i == length past) (station_own capacity owner i past station legal.1)
  where
    here : (t : Bool) → is_sending x.event ≡ t → (if t then number_in x.outcome else None) ≡ None
    here false e = refl
    here true e = station_none capacity owner past (now (x ∷ past)) x.event x.outcome station legal.0 e

    by_test : (t : Bool) → own_at i past ≡ None → (if t then (if is_sending x.event then number_in x.outcome else None) else own_at i past) ≡ None
    by_test true rest = here (is_sending x.event) refl
    by_test false rest = rest

-- ---- numbers that were given

-- what gives a number came
pub record Gave (send : Probe) (n : ℕ) (event : Event) (outcome : Outcome) : Type 0 where
  pub port : ℕ
  pub copy : Carried
  pub is : event ≡ Arrive port copy
  pub mine : copy.probe ≡ Some send
  pub number : number_in outcome ≡ Some n

pub gave : (send : Probe) (n : ℕ) (event : Event) (outcome : Outcome) → gives send event outcome ≡ Some n → Gave send n event outcome
gave send n (Send from dst vlan ethertype payload) outcome is = absurd cc
gave send n (Supervise about) outcome is = absurd cc
gave send n Age outcome is = absurd cc
gave send n (Arrive port copy) (Sent seq ports) is = absurd cc
gave send n (Arrive port copy) (Life seq life ports) is = absurd cc
gave send n (Arrive port copy) Aged is = absurd cc
gave send n (Arrive port copy) (Judged up_too ports seq why) is = by_test (is_of send copy.probe) refl is
  where
    by_test : (t : Bool) → is_of send copy.probe ≡ t → (if t then seq else None) ≡ Some n → Gave send n (Arrive port copy) (Judged up_too ports seq why)
    by_test true mine is = record { port = port; copy = copy; is = refl; mine = probe_is send copy.probe mine; number = is }
    by_test false other is = absurd cc

given_less : (send : Probe) (n : ℕ) (h : List Entry) → Each IsNext h → numbered h ≤ 65536 → given_at send h ≡ Some n → n < numbered h
given_less send n [] next few is = absurd cc
given_less send n (x ∷ past) next few is = by_past (given_at send past) refl is (given_less send n past next.1)
  where
    by_past : (o : Option ℕ) → given_at send past ≡ o → option_or o (gives send x.event x.outcome) ≡ Some n → (numbered past ≤ 65536 → given_at send past ≡ Some n → n < numbered past) → n < numbered (x ∷ past)
    by_past (Some m) e is rest =
        let less = never_less x past in
        let low = rest (omega (arith, few, less)) (e ∙ is) in
        omega (arith, low, less)
    by_past None e is rest = let h = here_is x past n next.0 few (gave send n x.event x.outcome is).number in omega (arith, h)

pub given_one : (p q : Probe) (n : ℕ) (h : List Entry) → Each IsNext h → numbered h ≤ 65536 → given_at p h ≡ Some n → given_at q h ≡ Some n → p ≡ q
given_one p q n [] next few is_p is_q = absurd cc
given_one p q n (x ∷ past) next few is_p is_q = by_past (given_at p past) (given_at q past) refl refl is_p is_q (given_one p q n past next.1)
  where
    less : numbered past ≤ numbered (x ∷ past)
    less = never_less x past

    few_past : numbered past ≤ 65536
    few_past = omega (arith, less, few)

    apart : (r s : Probe) → gives r x.event x.outcome ≡ Some n → given_at s past ≡ Some n → ⊥
    apart r s here there =
        let a = here_is x past n next.0 few (gave r n x.event x.outcome here).number in
        let b = given_less s n past next.1 few_past there in
        omega (arith, a, b)

    by_past : (o u : Option ℕ) → given_at p past ≡ o → given_at q past ≡ u → option_or o (gives p x.event x.outcome) ≡ Some n → option_or u (gives q x.event x.outcome) ≡ Some n →
        (numbered past ≤ 65536 → given_at p past ≡ Some n → given_at q past ≡ Some n → p ≡ q) → p ≡ q
    by_past (Some a) (Some b) e f is_p is_q rest = rest few_past (e ∙ is_p) (f ∙ is_q)
    by_past (Some a) None e f is_p is_q rest = absurd (apart q p is_q (e ∙ is_p))
    by_past None (Some b) e f is_p is_q rest = absurd (apart p q is_p (f ∙ is_q))
    by_past None None e f is_p is_q rest =
        let g = gave p n x.event x.outcome is_p in
        let h = gave q n x.event x.outcome is_q in
        let copies : Arrive g.port g.copy ≡ Arrive h.port h.copy = sym g.is ∙ h.is in
        let same : g.copy ≡ h.copy = cc in
        let both : Some p ≡ Some q = sym g.mine ∙ (ap (λ (c : Carried). c.probe) same ∙ h.mine) in
        cc
