-- Where nothing needed is forgotten, tables that have as many entries as were needed answer alike.
use Rattle.std.proofs.Common.{◌≡◌, ℕ, zero, suc, ◌-◌, ◌||◌, max, nat_lt, arith, ◌≤◌, ◌==◌, ◌^◌, Bool, true, false, ◌&&◌, not, if◌then◌else◌, List, [], ◌∷◌, length, take, filter, Option, Some, None, Result, Ok, Err, refl, sym, ap, ◌∙◌, subst}
use Rattle.std.specs.List.{AllByRecursion, list_any}
use Rattle.std.proofs.lemmas.Bool.{false≢true, or_parts}
use Rattle.std.proofs.Math.Nat.{le-max_left, le-max_right}
use Rattle.hsr_duptable.specs.Notes.{entry_forget}
use Rattle.hsr_frame.specs.Egress.{Egress, up, a, b, c, d, has_exit}
use Rattle.hsr_frame.specs.Grammar.{Fields}
use Rattle.hsr_frame.specs.declared.egress.Exits.{Exits}
use Rattle.hsr_tag.specs.Seen.{classified}
use Rattle.hsr_tag.specs.Tag.{TaggedFields, untag_of}
use Rattle.hsr_tag.specs.declared.seen.Seen.TheVariants.{Plain, Tagged}
use Rattle.hsr_duptable.specs.Key.{Key, is_same_key}
use Rattle.hsr_forwarding.specs.Arrival.{key_of}
use Rattle.hsr_redbox.specs.declared.wanted.Handling.{Handling}
use Rattle.hsr_node.specs.Copies.{address_at, plain_in}
use Rattle.hsr_node.specs.Flow.{wanted_at, wants}
use Rattle.hsr_node.specs.Record.{Each, IsLegal, Noted, Owner, answer, arrive_answer, handling, judged_as, next_number, notes, now, passing, remembered, remembers, send_answer, steps}
use Rattle.hsr_node.specs.declared.entry.Entry.{Entry}
use Rattle.hsr_node.specs.declared.event.Carried.{Carried}
use Rattle.hsr_node.specs.declared.event.Event.{Event}
use Rattle.hsr_node.specs.declared.event.Event.TheVariants.{Send, Supervise, Arrive, Age}
use Rattle.hsr_node.specs.declared.event.Outcome.{Outcome}
use Rattle.hsr_node.specs.declared.event.Probe.{Probe}
use Rattle.hsr_node.specs.declared.event.StepFault.{StepFault}
use Rattle.hsr_node.specs.declared.event.StepFault.TheVariants.{Spent}
use Rattle.hsr_run_laws.specs.Closed.{IsOfSend}
use Rattle.hsr_run_laws.specs.Once.{is_copy}
use Rattle.hsr_run_laws.specs.Premises.{KnowsOwn, NumbersFirst, Remembers, is_mistaken, is_note_of, is_on_ring}
use Rattle.hsr_run_laws.specs.Run.{Run, owner_of, past_of, place_of}
use Rattle.hsr_run_laws.proofs.Keys.{HasKey, each_of_send, send_key}
use Rattle.hsr_run_laws.proofs.Lists.{all_filter, all_take, any_implies, any_other, any_take, any_filter}
use Rattle.hsr_run_laws.proofs.NotedOnce.{noted_once, own_source}
use Rattle.hsr_run_laws.proofs.Records.{Answered, IsSource, OfArrival, any_remembered, each_so, legal_each}
use Rattle.hsr_run_laws.proofs.Same.{is_of_itself, key_same}
use Rattle.hsr_run_laws.proofs.Views.{Came, came, knows_at, wants_at}
use Rattle.hsr_run_laws.proofs.Wanted.{own_unwanted, wanted_on_ring}
use Rattle.hsr_table_demand.specs.Needs.{LegalWithNeeded}
use Rattle.hsr_table_demand.proofs.Sufficing.{expired, remembered_by}

-- ---- answers

and_same : (w x y : Bool) → (w ≡ true → x ≡ y) → (w && not x) ≡ (w && not y)
and_same true x y same = ap not (same refl)
and_same false x y same = refl

passing_same : (held other : Key → Egress → Bool) (exits : Exits) (seen : Came) →
    ((t : TaggedFields) → seen ≡ Ok (Tagged t) → (e : Egress) → has_exit exits e ≡ true → held (key_of t) e ≡ other (key_of t) e) →
    passing held exits seen ≡ passing other exits seen
passing_same held other exits (Err fault) same = refl
passing_same held other exits (Ok (Plain frame)) same = refl
passing_same held other exits (Ok (Tagged t)) same = λ i. record { up = one up i; a = one a i; b = one b i; c = one c i; d = one d i }
  where
    one : (e : Egress) → (has_exit exits e && not (held (key_of t) e)) ≡ (has_exit exits e && not (other (key_of t) e))
    one e = and_same (has_exit exits e) (held (key_of t) e) (other (key_of t) e) (same t refl e)

-- where what is wanted is remembered alike
abbrev AreAlike : ℕ → ℕ → Owner → List Entry → ℕ → Event → Type 0
AreAlike m n owner past at (Arrive port copy) = (t : TaggedFields) → came copy ≡ Ok (Tagged t) → (e : Egress) → wants_at owner past at port copy e ≡ true →
    remembers m owner past at (key_of t) e ≡ remembers n owner past at (key_of t) e
AreAlike m n owner past at event = Unit {0}

answer_same : (m n : ℕ) (owner : Owner) (past : List Entry) (at : ℕ) (event : Event) → AreAlike m n owner past at event → answer m owner past at event ≡ answer n owner past at event
answer_same m n owner past at (Send from dst vlan ethertype payload) alike = by_address (address_at owner.place from)
  where
    by_address : (o : Option (List ℕ)) → send_answer m owner past at o dst ethertype (length payload) ≡ send_answer n owner past at o dst ethertype (length payload)
    by_address None = refl
    by_address (Some src) = refl
answer_same m n owner past at (Supervise about) alike = refl
answer_same m n owner past at Age alike = refl
answer_same m n owner past at (Arrive port copy) alike = by_handling (handling owner.place (knows_at owner past at port copy) port (came copy)) refl
  where
    by_handling : (o : Option Handling) → handling owner.place (knows_at owner past at port copy) port (came copy) ≡ o →
        arrive_answer m owner past at o (came copy) ≡ arrive_answer n owner past at o (came copy)
    by_handling None is = refl
    by_handling (Some h) is =
        let judged_by : Exits → Result Outcome StepFault = λ p. if steps past == 2 ^ 62 then Err Spent else Ok (judged_as h p (next_number past)) in
        ap judged_by
        (passing_same (remembers m owner past at) (remembers n owner past at) h.wants.exits (came copy)
        (λ t tagged e wanted. alike t tagged e (ap (λ o. wanted_at o e) is ∙ wanted)))

-- ---- one arrival

module _ (run : Run) (k n : ℕ) where
  -- a note with the key is of the send, where no number is mistaken
  of_send : (m : ℕ) (past : List Entry) (at port : ℕ) (copy : Carried) (t : TaggedFields) (e : Egress) → came copy ≡ Ok (Tagged t) → KnowsOwn m (owner_of run k) past at (Arrive port copy) →
      is_on_ring (place_of run k) port ≡ true → wants_at (owner_of run k) past at port copy e ≡ true → remembers m (owner_of run k) past at (key_of t) e ≡ true →
      list_any (is_note_of copy.probe) (notes (owner_of run k) e past) ≡ true
  of_send m past at port copy t e tagged own ring wanted held =
      let keyed : Rattle.hsr_node.specs.Record.key_in (classified copy.octets) None ≡ Some (key_of t) = ap (λ s. Rattle.hsr_node.specs.Record.key_in s None) tagged in
      any_remembered m at (notes (owner_of run k) e past) (is_note_of copy.probe)
      (any_other (λ (note : Noted). is_same_key note.key (key_of t)) (is_note_of copy.probe) (remembered m at (notes (owner_of run k) e past)) held (own ring e wanted (key_of t) keyed))

  -- a note of the send has the key
  has_key_too : (m : ℕ) (past : List Entry) (at : ℕ) (copy : Carried) (key : Key) (send : Probe) (e : Egress) → copy.probe ≡ Some send → AllByRecursion (HasKey send key) (notes (owner_of run k) e past) →
      list_any (is_note_of copy.probe) (remembered m at (notes (owner_of run k) e past)) ≡ true → remembers m (owner_of run k) past at key e ≡ true
  has_key_too m past at copy key send e named keys any =
      let ns : List Noted = notes (owner_of run k) e past in
      let A : Option Probe → Type 0 = λ p. list_any (is_note_of p) (remembered m at ns) ≡ true in
      let all : AllByRecursion (HasKey send key) (remembered m at ns) = all_filter (HasKey send key) _ (take m ns) (all_take (HasKey send key) m ns keys) in
      any_implies (is_note_of (Some send)) (λ (note : Noted). is_same_key note.key key) (remembered m at ns)
      (Rattle.hsr_run_laws.proofs.Lists.all_implied (HasKey send key) (λ note. is_note_of (Some send) note ≡ true → is_same_key note.key key ≡ true) (λ note keyed mine. key_same note.key key (keyed mine)) (remembered m at ns) all)
      (subst A named any)

  -- what is held by the one table is held by the other
  held_too : (m l : ℕ) (past : List Entry) (at port : ℕ) (copy : Carried) (t : TaggedFields) (e : Egress) (send : Probe) → came copy ≡ Ok (Tagged t) → copy.probe ≡ Some send →
      AllByRecursion (HasKey send (key_of t)) (notes (owner_of run k) e past) → KnowsOwn m (owner_of run k) past at (Arrive port copy) → Remembers l (owner_of run k) past at (Arrive port copy) →
      is_on_ring (place_of run k) port ≡ true → wants_at (owner_of run k) past at port copy e ≡ true → remembers m (owner_of run k) past at (key_of t) e ≡ true →
      remembers l (owner_of run k) past at (key_of t) e ≡ true
  held_too m l past at port copy t e send tagged named keys own rem ring wanted held =
      has_key_too l past at copy (key_of t) send e named keys (rem ring e wanted (of_send m past at port copy t e tagged own ring wanted held))

  same_test : (x y : Bool) → (x ≡ true → y ≡ true) → (y ≡ true → x ≡ true) → x ≡ y
  same_test true y there back = sym (there refl)
  same_test false true there back = back refl
  same_test false false there back = refl

  -- what is wanted isn't of the node's own send
  not_own : (past : List Entry) (at port : ℕ) (copy : Carried) (t : TaggedFields) (e : Egress) (o : IsOfSend run copy) → came copy ≡ Ok (Tagged t) → wants_at (owner_of run k) past at port copy e ≡ true → o.send.node ≡ k → ⊥
  not_own past at port copy t e o tagged wanted own =
      let I : Option Probe → Type 0 = λ p. Rattle.hsr_run_laws.specs.Run.is_of o.send p ≡ true in
      let mine : is_copy o.send copy ≡ true = subst I (sym o.named) (is_of_itself o.send) in
      let src = own_source run k o.send copy o mine own in
      let f : Some (untag_of t) ≡ Some o.sending.frame = sym (ap plain_in tagged) ∙ o.frame in
      let same : untag_of t ≡ o.sending.frame = cc in
      let S : List ℕ → Type 0 = λ s. IsSource (place_of run k) s in
      let W : Came → Type 0 = λ s. wants (place_of run k) (knows_at (owner_of run k) past at port copy) port s e ≡ true in
      false≢true (sym (own_unwanted (place_of run k) (knows_at (owner_of run k) past at port copy) port t e (subst S (ap (λ (g : Fields). g.src) (sym same)) src)) ∙ subst W tagged wanted)

  alike : (past : List Entry) (at : ℕ) (event : Event) →
      ((send : Probe) (e : Egress) → (send.node ≡ k → ⊥) → AllByRecursion (HasKey send (send_key run send).key) (notes (owner_of run k) e past)) → OfArrival (IsOfSend run) event →
      Remembers run.capacity (owner_of run k) past at event → Remembers n (owner_of run k) past at event → KnowsOwn run.capacity (owner_of run k) past at event → KnowsOwn n (owner_of run k) past at event →
      AreAlike n run.capacity (owner_of run k) past at event
  alike past at (Send from dst vlan ethertype payload) keys of_sends here there own owns = tt
  alike past at (Supervise about) keys of_sends here there own owns = tt
  alike past at Age keys of_sends here there own owns = tt
  alike past at (Arrive port copy) keys o here there own owns = λ t tagged e wanted.
      let W : Came → Type 0 = λ s. wants (place_of run k) (knows_at (owner_of run k) past at port copy) port s e ≡ true in
      let ring = wanted_on_ring (place_of run k) (knows_at (owner_of run k) past at port copy) port t e (subst W tagged wanted) in
      let I : Option Probe → Type 0 = λ p. Rattle.hsr_run_laws.specs.Run.is_of o.send p ≡ true in
      let mine : is_copy o.send copy ≡ true = subst I (sym o.named) (is_of_itself o.send) in
      let K : Key → Type 0 = λ key. AllByRecursion (HasKey o.send key) (notes (owner_of run k) e past) in
      let keyed = subst K (sym ((send_key run o.send).kept copy o mine t tagged)) (keys o.send e (not_own past at port copy t e o tagged wanted)) in
      same_test (remembers n (owner_of run k) past at (key_of t) e) (remembers run.capacity (owner_of run k) past at (key_of t) e)
      (held_too n run.capacity past at port copy t e o.send tagged o.named keyed owns here ring wanted)
      (held_too run.capacity n past at port copy t e o.send tagged o.named keyed own there ring wanted)

  -- ---- a record

  legal_more : (h : List Entry) → Each (Answered run.capacity (owner_of run k)) h → Each (λ x past. OfArrival (IsOfSend run) x.event) h →
      Each (λ x past. NumbersFirst run (owner_of run k) past x.event x.outcome) h → Each (λ x past. Remembers run.capacity (owner_of run k) past (now (x ∷ past)) x.event) h →
      Each (λ x past. Remembers n (owner_of run k) past (now (x ∷ past)) x.event) h → Each (λ x past. KnowsOwn run.capacity (owner_of run k) past (now (x ∷ past)) x.event) h →
      Each (λ x past. KnowsOwn n (owner_of run k) past (now (x ∷ past)) x.event) h → Each (Answered n (owner_of run k)) h
  legal_more [] legal sends first here there own owns = tt
  legal_more (x ∷ past) legal sends first here there own owns =
      let keys : (send : Probe) (e : Egress) → (send.node ≡ k → ⊥) → AllByRecursion (HasKey send (send_key run send).key) (notes (owner_of run k) e past) =
      λ send e other. (noted_once run k send e past legal.1 sends.1 first.1 here.1).keys other in (
        answer_same n run.capacity (owner_of run k) past (now (x ∷ past)) x.event (alike past (now (x ∷ past)) x.event keys sends.0 here.0 there.0 own.0 owns.0) ∙ legal.0,
        legal_more past legal.1 sends.1 first.1 here.1 there.1 own.1 owns.1,
      )

-- ---- smaller tables mistake no more

none_sooner : (p young : Noted → Bool) (ns : List Noted) (m n : ℕ) → m ≤ n → list_any p (filter young (take n ns)) ≡ false → list_any p (filter young (take m ns)) ≡ false
none_sooner p young [] zero n low none = refl
none_sooner p young [] (suc m) n low none = refl
none_sooner p young (note ∷ ns) zero n low none = refl
none_sooner p young (note ∷ ns) (suc m) zero low none = absurd (omega (arith, low))
none_sooner p young (note ∷ ns) (suc m) (suc n) low none = by_age (young note) none (none_sooner p young ns m n (omega (arith, low)))
  where
    by_age : (b : Bool) → list_any p (if b then note ∷ filter young (take n ns) else filter young (take n ns)) ≡ false →
        (list_any p (filter young (take n ns)) ≡ false → list_any p (filter young (take m ns)) ≡ false) →
        list_any p (if b then note ∷ filter young (take m ns) else filter young (take m ns)) ≡ false
    by_age true none rest = let parts = or_parts (p note) (list_any p (filter young (take n ns))) none in ap (λ t. t || list_any p (filter young (take m ns))) parts.0 ∙ rest parts.1
    by_age false none rest = rest none

knows_sooner : (m n : ℕ) (owner : Owner) (past : List Entry) (at : ℕ) (event : Event) → m ≤ n → KnowsOwn n owner past at event → KnowsOwn m owner past at event
knows_sooner m n owner past at (Send from dst vlan ethertype payload) low own = tt
knows_sooner m n owner past at (Supervise about) low own = tt
knows_sooner m n owner past at Age low own = tt
knows_sooner m n owner past at (Arrive port copy) low own = λ ring e wanted key keyed.
    none_sooner (is_mistaken key copy.probe) (λ note. nat_lt (at - note.moment) entry_forget) (notes owner e past) m n low (own ring e wanted key keyed)

pub legal_with_needed : LegalWithNeeded
unfolding IsLegal
legal_with_needed run needed n closed first most kept known low k below =
    legal_more run k n (past_of run k) (legal_each run.capacity (owner_of run k) (past_of run k) (closed.legal k below)) (each_of_send run closed k below) (first k below) (kept k below)
    (remembered_by run needed most n (expired run needed most kept) low k below)
    (knows run.capacity (le-max_left run.capacity n)) (knows n (le-max_right run.capacity n))
  where
    knows : (m : ℕ) → m ≤ max run.capacity n → Each (λ x past. KnowsOwn m (owner_of run k) past (now (x ∷ past)) x.event) (past_of run k)
    knows m low = each_so (λ x past. KnowsOwn (max run.capacity n) (owner_of run k) past (now (x ∷ past)) x.event) (λ x past. KnowsOwn m (owner_of run k) past (now (x ∷ past)) x.event) (past_of run k)
        (λ x past own. knows_sooner m (max run.capacity n) (owner_of run k) past (now (x ∷ past)) x.event low own) (known k below)
