-- What is counted at the ports of a record sums up to the counters of its node.
use Rattle.std.proofs.Common.{◌≡◌, ◌⊎◌, inl, inr, ⊎_elim, ℕ, zero, suc, ◌+◌, ◌<◌, ◌≤◌, ◌==◌, ◌%◌, ◌^◌, ◌&&◌, ◌||◌, Bool, true, false, cond, if◌then◌else◌, List, [], ◌∷◌, ◌++◌, count_by, length, reverse, Option, Some, None, Result, Ok, Err, refl, sym, ap, ◌∙◌, subst, arith}
use Rattle.std.specs.Prelude.{option_map}
use Rattle.std.proofs.lemmas.Bool.{false≢true}
use Rattle.std.proofs.lemmas.List.{reverse-append, reverse-reverse}
use Rattle.hsr_frame.specs.Cause.{is_duplicate, is_returned, is_foreign, is_local, is_untagged, is_tagged, is_malformed}
use Rattle.hsr_frame.specs.Counters.{bit}
use Rattle.hsr_frame.specs.Egress.{cause_of, is_any}
use Rattle.hsr_frame.specs.Send.{send_refusal}
use Rattle.hsr_frame.specs.declared.fault.SendFault.{SendFault}
use Rattle.hsr_frame.specs.declared.node.About.{About}
use Rattle.hsr_frame.specs.declared.node.About.TheVariants.{Own as Self, Proxied}
use Rattle.hsr_frame.specs.declared.egress.Exits.{Exits}
use Rattle.hsr_frame.specs.declared.egress.Wants.{Wants}
use Rattle.hsr_frame.specs.declared.node.Cause.{Cause}
use Rattle.hsr_frame.specs.declared.node.Cause.TheVariants.{Passed, Duplicate}
use Rattle.hsr_frame.specs.declared.node.RingPort.{RingPort}
use Rattle.hsr_danh.specs.Wanted as of_danh
use Rattle.hsr_redbox.specs.Step.{life_refusal}
use Rattle.hsr_redbox.specs.Wanted.{unnumbered}
use Rattle.hsr_redbox.specs.declared.call.BoxPort.{BoxPort}
use Rattle.hsr_redbox.specs.declared.call.LifeFault.{LifeFault}
use Rattle.hsr_redbox.specs.declared.wanted.Handling.{Handling}
use Rattle.hsr_quadbox.specs.Wanted as of_quadbox
use Rattle.hsr_quadbox.specs.declared.wanted.QuadPort.{QuadPort}
use Rattle.hsr_node.specs.Copies.{address_at}
use Rattle.hsr_node.specs.Counts.{copies, counters, is_cause, is_up}
use Rattle.hsr_node.specs.Record.{Each, Owner, answer, box_handling, count_of, handling, judged_as, knows, life_answer, lived_or_refused, lives, next_number, now, passing, remembers, send_answer, sending, sent_as, sent_or_refused, station_wanted, steps, sum_of}
use Rattle.hsr_node.specs.declared.entry.Entry.{Entry}
use Rattle.hsr_node.specs.declared.event.Carried.{Carried}
use Rattle.hsr_node.specs.declared.event.Event.{Event}
use Rattle.hsr_node.specs.declared.event.Event.TheVariants.{Send, Supervise, Arrive, Age}
use Rattle.hsr_node.specs.declared.event.Outcome.{Outcome}
use Rattle.hsr_node.specs.declared.event.Outcome.TheVariants.{Sent, Life, Judged, Aged}
use Rattle.hsr_node.specs.declared.event.StepFault.TheVariants.{Spent}
use Rattle.hsr_node.specs.declared.place.Place.{Place}
use Rattle.hsr_node.specs.declared.place.Place.TheVariants.{Danh, RedBox, QuadBox, Station}
use Rattle.hsr_run_laws.specs.Run.{owner_of, record_of}
use Rattle.hsr_finished_run.specs.Finished.{Finished, IsFinished}
use Rattle.hsr_run_laws.proofs.Lists.{count_more}
use Rattle.hsr_run_laws.proofs.Records.{Answered, legal_each}
use Rattle.hsr_run_laws.proofs.Views.{Came, came, judged, knows_at}
use Rattle.hsr_run_laws.proofs.Wanted.{no_box_port, no_quad_port, no_ring_port}
use Rattle.hsr_devices.specs.Counted.{IsUpPassed, SumsAre, SumsAreCounters, becomes, is_at, is_counted, is_passed, judged_as as counted_as, leaves_by, summed}
use Rattle.hsr_devices.specs.Listing.{AreSums}
use Rattle.hsr_devices.specs.declared.counted.Counted.{Counted}
use Rattle.hsr_devices.specs.declared.counted.Counted.TheVariants as what

-- ---- a node takes what comes by one of four ports

few_ports : (place : Place) (known : List ℕ → Bool) (port : ℕ) (seen : Came) (h : Handling) → handling place known port seen ≡ Some h → port < 4
few_ports place known zero seen h is = omega arith
few_ports place known (suc zero) seen h is = omega arith
few_ports place known (suc (suc zero)) seen h is = omega arith
few_ports place known (suc (suc (suc zero))) seen h is = omega arith
few_ports (Danh mac mode) known (suc (suc (suc (suc n)))) seen h is =
    let O : Option RingPort → Type 0 = λ o. option_map (λ x. unnumbered (of_danh.wanted mac mode x seen)) o ≡ Some h in
    let none = subst O (no_ring_port (suc (suc (suc (suc n)))) (omega arith)) is in
    absurd cc
few_ports (RedBox mac mode) known (suc (suc (suc (suc n)))) seen h is =
    let O : Option BoxPort → Type 0 = λ o. option_map (λ x. box_handling mac mode known x seen) o ≡ Some h in
    let none = subst O (no_box_port (suc (suc (suc (suc n)))) (omega arith)) is in
    absurd cc
few_ports QuadBox known (suc (suc (suc (suc n)))) seen h is =
    let O : Option QuadPort → Type 0 = λ o. option_map (λ x. unnumbered (of_quadbox.wanted x seen)) o ≡ Some h in
    let none = subst O (no_quad_port (suc (suc (suc (suc n)))) (omega arith)) is in
    absurd cc
few_ports (Station macs) known (suc (suc (suc (suc n)))) seen h is =
    let S : Bool → Type 0 = λ b. (if b then Some (unnumbered (station_wanted macs.items seen)) else None) ≡ Some h in
    let none = subst S (Rattle.std.proofs.Common.ne_eqb (suc (suc (suc (suc n)))) 0 (λ e. omega arith)) is in
    absurd cc

-- ---- what was judged came to one of them

abbrev pub is_judged : Outcome → Bool
is_judged (Judged up ports seq cause) = true
is_judged outcome = false

-- an arrival at one of four ports, or nothing that was judged
abbrev pub Fits : Event → Outcome → Type 0
Fits event outcome = ((port : ℕ) × (copy : Carried) × (event ≡ Arrive port copy) × (port < 4)) ⊎ (is_judged outcome ≡ false)

sent_fits : (refusal : Option SendFault) (h : Handling) (next : ℕ) (outcome : Outcome) → sent_or_refused refusal (sent_as h next) ≡ Ok outcome → is_judged outcome ≡ false
sent_fits (Some fault) h next outcome e = absurd cc
sent_fits None h next outcome e = let same : sent_as h next ≡ outcome = cc in ap is_judged (sym same)

lived_fits : (past : List Entry) (fault : Option LifeFault) (outcome : Outcome) → lived_or_refused past fault ≡ Ok outcome → is_judged outcome ≡ false
lived_fits past (Some fault) outcome e = absurd cc
lived_fits past None outcome e = let same : Life (next_number past) (lives past % 65536) (true ∷ true ∷ false ∷ false ∷ []) ≡ outcome = cc in ap is_judged (sym same)

life_fits : (place : Place) (past : List Entry) (at : ℕ) (about : About) (outcome : Outcome) → life_answer place past at about ≡ Ok outcome → is_judged outcome ≡ false
life_fits (Danh mac mode) past at Self outcome e = by_steps (steps past == 2 ^ 62) e
  where
    by_steps : (b : Bool) → (if b then Err Spent else lived_or_refused past None) ≡ Ok outcome → is_judged outcome ≡ false
    by_steps true h = absurd cc
    by_steps false h = lived_fits past None outcome h
life_fits (Danh mac mode) past at (Proxied other) outcome e = absurd cc
life_fits (RedBox mac mode) past at about outcome e = lived_fits past (life_refusal (knows (RedBox mac mode) past at Age) (steps past) about) outcome e
life_fits QuadBox past at about outcome e = absurd cc
life_fits (Station macs) past at about outcome e = absurd cc

fits : (capacity : ℕ) (owner : Owner) (past : List Entry) (at : ℕ) (event : Event) (outcome : Outcome) → answer capacity owner past at event ≡ Ok outcome → Fits event outcome
fits capacity owner past at (Send from dst vlan kind payload) outcome e = inr (by_source (address_at owner.place from) e)
  where
    by_source : (o : Option (List ℕ)) → send_answer capacity owner past at o dst kind (length payload) ≡ Ok outcome → is_judged outcome ≡ false
    by_source None h = absurd cc
    by_source (Some src) h =
        sent_fits (send_refusal src (steps past) dst kind (length payload)) (sending owner.place (knows owner.place past at Age) dst kind) (next_number past) outcome h
fits capacity owner past at (Supervise about) outcome e = inr (life_fits owner.place past at about outcome e)
fits capacity owner past at (Arrive port copy) outcome e =
    let j = judged capacity owner past at port copy outcome e in
    inl (port, copy, refl, few_ports owner.place (knows_at owner past at port copy) port (came copy) j.h j.is)
fits capacity owner past at Age outcome e = let same : Aged ≡ outcome = cc in inr (ap is_judged (sym same))

-- ---- one entry at four ports

abbrev four : (ℕ → Bool) → ℕ
four p = bit (p 0) + bit (p 1) + bit (p 2) + bit (p 3)

-- it came to one of them
at_one : (port : ℕ) (b : Bool) → port < 4 → four (λ k. (port == k) && b) ≡ bit b
at_one zero true few = refl
at_one (suc zero) true few = refl
at_one (suc (suc zero)) true few = refl
at_one (suc (suc (suc zero))) true few = refl
at_one (suc (suc (suc (suc n)))) true few = absurd (omega (arith, few))
at_one zero false few = refl
at_one (suc zero) false few = refl
at_one (suc (suc zero)) false few = refl
at_one (suc (suc (suc zero))) false few = refl
at_one (suc (suc (suc (suc n)))) false few = absurd (omega (arith, few))

none_of : (b : Bool) → (b && false) ≡ false
none_of true = refl
none_of false = refl

or_none : (a b : Bool) → b ≡ false → (a || b) ≡ a
or_none true b e = refl
or_none false b e = e

four_same : (p q : ℕ → Bool) → ((k : ℕ) → p k ≡ q k) → four p ≡ four q
four_same p q same = let w = ap bit (same 0) in let x = ap bit (same 1) in let y = ap bit (same 2) in let z = ap bit (same 3) in omega (arith, w, x, y, z)

becomes_none : (w : Counted) (outcome : Outcome) → is_judged outcome ≡ false → becomes w outcome ≡ false
becomes_none w (Judged up ports seq cause) e = absurd (false≢true (sym e))
becomes_none w (Sent seq ports) e = refl
becomes_none w (Life seq life ports) e = refl
becomes_none w Aged e = refl

-- an arrival is counted at one port, where it is counted by what became of it
came_once : (w : Counted) (x : Entry) → Fits x.event x.outcome → ((k : ℕ) → leaves_by w k x.outcome ≡ false) → four (λ k. is_counted w k x) ≡ bit (becomes w x.outcome)
came_once w x fit leaves =
    four_same (λ k. is_counted w k x) (λ k. is_at k x.event && becomes w x.outcome) (λ k. or_none (is_at k x.event && becomes w x.outcome) (leaves_by w k x.outcome) (leaves k))
    ∙ ⊎_elim
    (λ arrival.
    let P : Event → Type 0 = λ event. four (λ k. is_at k event && becomes w x.outcome) ≡ bit (becomes w x.outcome) in
    subst P (sym arrival.2) (at_one arrival.0 (becomes w x.outcome) arrival.3))
    (λ none.
    let nothing = becomes_none w x.outcome none in
    let Q : Bool → Type 0 = λ b. four (λ k. is_at k x.event && b) ≡ bit b in
    subst Q (sym nothing) (four_same (λ k. is_at k x.event && false) (λ k. false) (λ k. none_of (is_at k x.event))))
    fit

-- the copies of an arrival are counted where they left
left_all : (x : Entry) → four (λ k. is_counted what.Forwarded k x) ≡ copies x.outcome
left_all x =
    let P : (ℕ → Bool) → Type 0 = λ p. four p ≡ copies x.outcome in
    four_same (λ k. is_counted what.Forwarded k x) (λ k. leaves_by what.Forwarded k x.outcome) (λ k. only (is_at k x.event) (becomes what.Forwarded x.outcome) (leaves_by what.Forwarded k x.outcome) (never x.outcome)) ∙ by_outcome x.outcome
  where
    only : (a b c : Bool) → b ≡ false → ((a && b) || c) ≡ c
    only true true c e = absurd (false≢true (sym e))
    only true false c e = refl
    only false b c e = refl

    never : (outcome : Outcome) → becomes what.Forwarded outcome ≡ false
    never (Judged up ports seq cause) = refl
    never (Sent seq ports) = refl
    never (Life seq life ports) = refl
    never Aged = refl

    by_outcome : (outcome : Outcome) → four (λ k. leaves_by what.Forwarded k outcome) ≡ copies outcome
    by_outcome (Judged up ports seq cause) = refl
    by_outcome (Sent seq ports) = refl
    by_outcome (Life seq life ports) = refl
    by_outcome Aged = refl

-- ---- a record

count_append : {X : Type 0} (p : X → Bool) (xs : List X) (x : X) → count_by p (xs ++ x ∷ []) ≡ count_by p xs + bit (p x)
count_append p [] x = let one = count_more p x [] in omega (arith, one)
count_append p (y ∷ ys) x =
    let long = count_more p y (ys ++ x ∷ []) in
    let short = count_more p y ys in
    let rest = count_append p ys x in
    omega (arith, long, short, rest)

count_turned : {X : Type 0} (p : X → Bool) (x : X) (past : List X) → count_by p (reverse (x ∷ past)) ≡ count_by p (reverse past) + bit (p x)
count_turned p x past = ap (count_by p) (reverse-append (x ∷ []) past) ∙ count_append p (reverse past) x

abbrev FitAll : List Entry → Type 0
FitAll past = Each (λ x below. Fits x.event x.outcome) past

one_more : (p : Bool) (n : ℕ) → cond p (n + 1) n ≡ n + bit p
one_more true n = refl
one_more false n = omega arith

summed_more : (w : Counted) (x : Entry) (past : List Entry) → summed w (reverse (x ∷ past)) ≡ summed w (reverse past) + four (λ k. is_counted w k x)
summed_more w x past =
    let a = count_turned (is_counted w 0) x past in
    let b = count_turned (is_counted w 1) x past in
    let c = count_turned (is_counted w 2) x past in
    let d = count_turned (is_counted w 3) x past in
    omega (arith, a, b, c, d)

sum_is : (w : Counted) (n : Outcome → ℕ) → ((x : Entry) → Fits x.event x.outcome → four (λ k. is_counted w k x) ≡ n x.outcome) → (past : List Entry) → FitAll past → summed w (reverse past) ≡ sum_of (λ x. n x.outcome) past
sum_is w n each [] all = refl
sum_is w n each (x ∷ past) all =
    let more = summed_more w x past in
    let rest = sum_is w n each past all.1 in
    let one = each x all.0 in
    omega (arith, more, rest, one)

bits_are : (q : Outcome → Bool) (past : List Entry) → sum_of (λ x. bit (q x.outcome)) past ≡ count_of (λ x. q x.outcome) past
bits_are q [] = refl
bits_are q (x ∷ past) = let rest = bits_are q past in let one = one_more (q x.outcome) (count_of (λ x. q x.outcome) past) in omega (arith, rest, one)

count_is : (w : Counted) (q : Outcome → Bool) → ((o : Outcome) → becomes w o ≡ q o) → ((k : ℕ) (o : Outcome) → leaves_by w k o ≡ false) → (past : List Entry) → FitAll past → summed w (reverse past) ≡ count_of (λ x. q x.outcome) past
count_is w q same leaves past all =
    sum_is w (λ o. bit (q o)) (λ x fit. came_once w x fit (λ k. leaves k x.outcome) ∙ ap bit (same x.outcome)) past all ∙ bits_are q past

all_fit : (capacity : ℕ) (owner : Owner) (past : List Entry) → Each (Answered capacity owner) past → FitAll past
all_fit capacity owner [] each = tt
all_fit capacity owner (x ∷ past) each = (fits capacity owner past (now (x ∷ past)) x.event x.outcome each.0, all_fit capacity owner past each.1)

-- ---- each counter

up_is : (o : Outcome) → becomes what.Up o ≡ is_up o
up_is (Judged up ports seq c) = refl
up_is (Sent seq ports) = refl
up_is (Life seq life ports) = refl
up_is Aged = refl

cause_is : (w : Counted) (q : Cause → Bool) → ((up : Bool) (c : Cause) → counted_as w up c ≡ q c) → (o : Outcome) → becomes w o ≡ is_cause q o
cause_is w q same (Judged up ports seq c) = same up c
cause_is w q same (Sent seq ports) = refl
cause_is w q same (Life seq life ports) = refl
cause_is w q same Aged = refl

-- ---- what was taken up was passed

abbrev PassesUp : Outcome → Type 0
PassesUp outcome = becomes what.Up outcome ≡ true → becomes what.Passed outcome ≡ true

some_passed : (wants : Wants) (passes : Exits) → passes.up ≡ true → is_passed (cause_of wants passes) ≡ true
some_passed wants passes up =
    let A : Bool → Bool = λ b. b || passes.a || passes.b || passes.c || passes.d in
    let C : Bool → Cause = λ b. if b then Passed else (if is_any wants.exits then Duplicate else wants.cause) in
    ap (λ b. is_passed (C (A b))) up

up_passed : (h : Handling) (passes : Exits) (next : ℕ) → PassesUp (judged_as h passes next)
up_passed h passes next = λ up. some_passed h.wants passes up

passes_up : (capacity : ℕ) (owner : Owner) (past : List Entry) (at : ℕ) (event : Event) (outcome : Outcome) → answer capacity owner past at event ≡ Ok outcome → Fits event outcome → PassesUp outcome
passes_up capacity owner past at event outcome ok fit =
    ⊎_elim
    (λ arrival.
    let A : Event → Type 0 = λ e. answer capacity owner past at e ≡ Ok outcome in
    let j = judged capacity owner past at arrival.0 arrival.1 outcome (subst A arrival.2 ok) in
    subst PassesUp (sym j.out) (up_passed j.h (passing (remembers capacity owner past at) j.h.wants.exits (came arrival.1)) (next_number past)))
    (λ none up. absurd (false≢true (sym (becomes_none what.Up outcome none) ∙ up)))
    fit

abbrev PassAll : List Entry → Type 0
PassAll past = Each (λ x below. PassesUp x.outcome) past

all_pass : (capacity : ℕ) (owner : Owner) (past : List Entry) → Each (Answered capacity owner) past → PassAll past
all_pass capacity owner [] each = tt
all_pass capacity owner (x ∷ past) each =
    (passes_up capacity owner past (now (x ∷ past)) x.event x.outcome each.0 (fits capacity owner past (now (x ∷ past)) x.event x.outcome each.0), all_pass capacity owner past each.1)

no_more : (a u p : Bool) → (u ≡ true → p ≡ true) → bit (a && u) ≤ bit (a && p)
no_more false u p so = omega arith
no_more true false false so = omega arith
no_more true false true so = omega arith
no_more true true true so = omega arith
no_more true true false so = absurd (false≢true (so refl))

one_up : (port : ℕ) (x : Entry) → PassesUp x.outcome → bit (is_counted what.Up port x) ≤ bit (is_counted what.Passed port x)
one_up port x so =
    let up = ap bit (or_none (is_at port x.event && becomes what.Up x.outcome) (leaves_by what.Up port x.outcome) refl) in
    let passed = ap bit (or_none (is_at port x.event && becomes what.Passed x.outcome) (leaves_by what.Passed port x.outcome) refl) in
    let less = no_more (is_at port x.event) (becomes what.Up x.outcome) (becomes what.Passed x.outcome) so in
    omega (arith, up, passed, less)

up_is_passed : (past : List Entry) → PassAll past → IsUpPassed (reverse past)
up_is_passed [] all port = omega arith
up_is_passed (x ∷ past) all port =
    let up = count_turned (is_counted what.Up port) x past in
    let passed = count_turned (is_counted what.Passed port) x past in
    let rest = up_is_passed past all.1 port in
    let one = one_up port x all.0 in
    omega (arith, up, passed, rest, one)

sums_of : (owner : Owner) (past : List Entry) → FitAll past → PassAll past → SumsAre (reverse past) (counters owner.place past)
sums_of owner past all pass = record {
  passed = up_is_passed past pass;
  up = count_is what.Up is_up up_is (λ k o. refl) past all;
  forwarded = sum_is what.Forwarded copies (λ x fit. left_all x) past all;
  duplicate = count_is what.Duplicate (is_cause is_duplicate) (cause_is what.Duplicate is_duplicate (λ up c. refl)) (λ k o. refl) past all;
  returned = count_is what.Returned (is_cause is_returned) (cause_is what.Returned is_returned (λ up c. refl)) (λ k o. refl) past all;
  foreign = count_is what.Foreign (is_cause is_foreign) (cause_is what.Foreign is_foreign (λ up c. refl)) (λ k o. refl) past all;
  local = count_is what.Local (is_cause is_local) (cause_is what.Local is_local (λ up c. refl)) (λ k o. refl) past all;
  untagged = count_is what.Untagged (is_cause is_untagged) (cause_is what.Untagged is_untagged (λ up c. refl)) (λ k o. refl) past all;
  tagged = count_is what.Tagged (is_cause is_tagged) (cause_is what.Tagged is_tagged (λ up c. refl)) (λ k o. refl) past all;
  malformed = count_is what.Malformed (is_cause is_malformed) (cause_is what.Malformed is_malformed (λ up c. refl)) (λ k o. refl) past all;
}

pub sums_are : SumsAreCounters
sums_are capacity owner entries legal =
    let P : List Entry → Type 0 = λ xs. SumsAre xs (counters owner.place (reverse entries)) in
    let each = legal_each capacity owner (reverse entries) legal in
    subst P (reverse-reverse entries) (sums_of owner (reverse entries) (all_fit capacity owner (reverse entries) each) (all_pass capacity owner (reverse entries) each))

pub finished_sums : (f : Finished) → IsFinished f → AreSums f.run
finished_sums f finished k below = sums_are f.run.capacity (owner_of f.run k) (record_of f.run k) (finished.closed.legal k below)
