-- The replay is the same in a finer unit: each note and hearing is as old as before, by the new unit.
use Rattle.std.proofs.Common.{◌≡◌, ℕ, ◌+◌, ◌-◌, ◌*◌, ◌%◌, ◌<◌, ◌≤◌, ◌^◌, ◌==◌, ◌||◌, max, nat_lt, not, Bool, true, false, cond, List, [], ◌∷◌, ◌++◌, length, map, take, filter, Option, Some, None, option_map, is_some, Result, Ok, Err, refl, ap, ap₂, sym, ◌∙◌, ⊎_elim, mul_comm, zero-mul, zero-lt-suc, le_of_lt, mul-le-mul_right, mul-lt-mul_of_pos_right, lt-ltb, le-ltb, ltb-true, ltb-false}
use Rattle.std.proofs.Math.Nat.{max-eq_left, max-eq_right, mul-sub}
use Rattle.std.proofs.Math.Path.{fun_ext}
use Rattle.std.proofs.lemmas.Bool.{cases_Bool}
use Rattle.std.proofs.lemmas.List.{length-map, map-append, take-map}
use Rattle.std.specs.List.{cons_option, list_any}
use Rattle.hsr_frame.specs.Address.{is_same_address}
use Rattle.hsr_frame.specs.Egress.{Egress}
use Rattle.hsr_frame.specs.Send.{send_refusal}
use Rattle.hsr_frame.specs.declared.fault.FrameFault.{FrameFault}
use Rattle.hsr_frame.specs.declared.node.About.{About}
use Rattle.hsr_frame.specs.declared.node.About.TheVariants.{Own, Proxied}
use Rattle.hsr_tag.specs.Seen.{classified}
use Rattle.hsr_tag.specs.declared.seen.Seen.{Seen}
use Rattle.hsr_tag.specs.declared.seen.Seen.TheVariants.{Plain, Tagged}
use Rattle.hsr_duptable.specs.Key.{Key, is_same_key}
use Rattle.hsr_tables.specs.Known.{latest_of_each, others, row_limit}
use Rattle.hsr_redbox.specs.Past.{source_in}
use Rattle.hsr_redbox.specs.Step.{life_refusal}
use Rattle.hsr_redbox.specs.declared.call.BoxPort.{BoxPort}
use Rattle.hsr_redbox.specs.declared.call.BoxPort.TheVariants.{A, B, I}
use Rattle.hsr_redbox.specs.declared.wanted.Handling.{Handling}
use Rattle.hsr_node.specs.Copies.{address_at}
use Rattle.hsr_node.specs.Record.{Noted, Owner, answer_by, arrive_answer_by, count_of, handling, has_key, heard, heard_from, is_aged, is_life, is_noted, judged_as, key_handled, knows_by, life_answer_by, lived_or_refused, lives, next_number, note_if, note_of, notes, now, number_in, passing, probe_handled, remembered_within, remembers_by, send_answer_by, sending, sent_as, sent_or_refused, source_at, steps, IsLegal, IsLegalBy}
use Rattle.hsr_node.specs.Step.{box_port}
use Rattle.hsr_node.specs.Times.{Times, finer_times}
use Rattle.hsr_node.specs.Units.{AnswersInFinerUnit, LegalFromMilliseconds, LegalInFinerUnit, entry_in_unit, in_milliseconds, in_unit}
use Rattle.hsr_node.specs.declared.entry.Entry.{Entry}
use Rattle.hsr_node.specs.declared.event.Event.{Event}
use Rattle.hsr_node.specs.declared.event.Event.TheVariants.{Age, Arrive, Send, Supervise}
use Rattle.hsr_node.specs.declared.event.Outcome.{Outcome}
use Rattle.hsr_node.specs.declared.event.Probe.{Probe}
use Rattle.hsr_node.specs.declared.event.StepFault.TheVariants.{Spent}
use Rattle.hsr_node.specs.declared.place.Place.{Place}
use Rattle.hsr_node.specs.declared.place.Place.TheVariants.{Danh, QuadBox, RedBox, Station}

-- ---- moments

less_scaled : (k a b : ℕ) → 0 < k → nat_lt (a * k) (b * k) ≡ nat_lt a b
less_scaled k a b positive = ⊎_elim
    (λ less. lt-ltb (a * k) (b * k) (mul-lt-mul_of_pos_right (ltb-true a b less) positive) ∙ sym less)
    (λ more. le-ltb (a * k) (b * k) (mul-le-mul_right k (ltb-false a b more)) ∙ sym more)
    (cases_Bool (nat_lt a b))

less_by_scaled : (k a b : ℕ) → a * k - b * k ≡ (a - b) * k
less_by_scaled k a b = ap₂ (λ x y. x - y) (mul_comm a k) (mul_comm b k) ∙ sym (mul-sub k a b) ∙ mul_comm k (a - b)

max_scaled : (k a b : ℕ) → max (a * k) (b * k) ≡ max a b * k
max_scaled k a b = ⊎_elim
    (λ less. let below : a ≤ b = le_of_lt (ltb-true a b less) in max-eq_right (mul-le-mul_right k below) ∙ ap (λ m. m * k) (sym (max-eq_right below)))
    (λ more. let above : b ≤ a = ltb-false a b more in max-eq_left (mul-le-mul_right k above) ∙ ap (λ m. m * k) (sym (max-eq_left above)))
    (cases_Bool (nat_lt a b))

-- what is young in the one unit is young in the other
young_scaled : (k at moment forget : ℕ) → 0 < k → nat_lt (at * k - moment * k) (forget * k) ≡ nat_lt (at - moment) forget
young_scaled k at moment forget positive = ap (λ age. nat_lt age (forget * k)) (less_by_scaled k at moment) ∙ less_scaled k (at - moment) forget positive

now_scaled : (k : ℕ) (past : List Entry) → now (in_unit k past) ≡ now past * k
now_scaled k [] = sym (zero-mul k)
now_scaled k (x ∷ past) = ap (λ m. max m (x.at * k)) (now_scaled k past) ∙ max_scaled k (now past) x.at

-- ---- counts: no outcome has a moment

count_same : (k : ℕ) (p : Outcome → Bool) (past : List Entry) → count_of (λ x. p x.outcome) (in_unit k past) ≡ count_of (λ x. p x.outcome) past
count_same k p [] = refl
count_same k p (x ∷ past) = ap (λ n. cond (p x.outcome) (n + 1) n) (count_same k p past)

steps_same : (k : ℕ) (past : List Entry) → steps (in_unit k past) ≡ steps past
steps_same k past = count_same k (λ outcome. not (is_aged outcome)) past

lives_same : (k : ℕ) (past : List Entry) → lives (in_unit k past) ≡ lives past
lives_same k past = count_same k is_life past

next_same : (k : ℕ) (past : List Entry) → next_number (in_unit k past) ≡ next_number past
next_same k past = ap (λ n. n % 65536) (count_same k (λ outcome. is_some (number_in outcome)) past)

-- ---- notes

abbrev note_in_unit : ℕ → Noted → Noted
note_in_unit k n = record n { moment = n.moment * k }

note_if-scaled : (k : ℕ) (noted : Bool) (key : Option Key) (moment : ℕ) (probe : Option Probe)
    → note_if noted key (moment * k) probe ≡ option_map (note_in_unit k) (note_if noted key moment probe)
note_if-scaled k noted None moment probe = refl
note_if-scaled k true (Some key) moment probe = refl
note_if-scaled k false (Some key) moment probe = refl

note_same : (k : ℕ) (owner : Owner) (e : Egress) (x : Entry) (past : List Entry)
    → note_of owner e (entry_in_unit k x) (in_unit k past) ≡ option_map (note_in_unit k) (note_of owner e x past)
note_same k owner e x past =
    let key = key_handled owner.place x.event x.outcome in
    let probe : ℕ → Option Probe = λ below. probe_handled (record { node = owner.number; place = below }) x.event in
    ap₂ (λ moment below. note_if (is_noted x.outcome e) key moment (probe below)) (now_scaled k (x ∷ past)) (length-map past (entry_in_unit k))
    ∙ note_if-scaled k (is_noted x.outcome e) key (now (x ∷ past)) (probe (length past))

cons_mapped : {X : Type 0} (f : X → X) (first : Option X) (xs : List X) → cons_option (option_map f first) (map f xs) ≡ map f (cons_option first xs)
cons_mapped f None xs = refl
cons_mapped f (Some x) xs = refl

notes_same : (k : ℕ) (owner : Owner) (e : Egress) (past : List Entry) → notes owner e (in_unit k past) ≡ map (note_in_unit k) (notes owner e past)
notes_same k owner e [] = refl
notes_same k owner e (x ∷ past) =
    ap₂ cons_option (note_same k owner e x past) (notes_same k owner e past) ∙ cons_mapped (note_in_unit k) (note_of owner e x past) (notes owner e past)

young_notes-same : (k forget at : ℕ) (key : Key) (ns : List Noted) → 0 < k
    → has_key key (filter (λ n. nat_lt (at * k - n.moment) (forget * k)) (map (note_in_unit k) ns)) ≡ has_key key (filter (λ n. nat_lt (at - n.moment) forget) ns)
young_notes-same k forget at key [] positive = refl
young_notes-same k forget at key (n ∷ ns) positive =
    ap (λ young. has_key key (cond young (note_in_unit k n ∷ later) later)) (young_scaled k at n.moment forget positive)
    ∙ one (nat_lt (at - n.moment) forget) (young_notes-same k forget at key ns positive)
  where
    later : List Noted
    later = filter (λ n. nat_lt (at * k - n.moment) (forget * k)) (map (note_in_unit k) ns)

    now_young : List Noted
    now_young = filter (λ n. nat_lt (at - n.moment) forget) ns

    one : (young : Bool) → has_key key later ≡ has_key key now_young → has_key key (cond young (note_in_unit k n ∷ later) later) ≡ has_key key (cond young (n ∷ now_young) now_young)
    one true same = ap (λ rest. is_same_key n.key key || rest) same
    one false same = same

remembers_same : (k : ℕ) (times : Times) (capacity : ℕ) (owner : Owner) (past : List Entry) (at : ℕ) (key : Key) (e : Egress) → 0 < k
    → remembers_by (finer_times k times) capacity owner (in_unit k past) (at * k) key e ≡ remembers_by times capacity owner past at key e
remembers_same k times capacity owner past at key e positive =
    ap (λ ns. has_key key (remembered_within (times.entry * k) capacity (at * k) ns)) (notes_same k owner e past)
    ∙ ap (λ ns. has_key key (filter (λ n. nat_lt (at * k - n.moment) (times.entry * k)) ns)) (take-map (note_in_unit k) capacity (notes owner e past))
    ∙ young_notes-same k times.entry at key (take capacity (notes owner e past)) positive

-- ---- hearings on the interlink

abbrev Heard : Type 0
Heard = List ℕ × ℕ

abbrev hearing_in_unit : ℕ → Heard → Heard
hearing_in_unit k h = (h.0, h.1 * k)

source_in-scaled : (k : ℕ) (own : List ℕ) (at : ℕ) (seen : Result Seen FrameFault) → source_in own (at * k) seen ≡ map (hearing_in_unit k) (source_in own at seen)
source_in-scaled k own at (Err fault) = refl
source_in-scaled k own at (Ok (Tagged frame)) = refl
source_in-scaled k own at (Ok (Plain frame)) = one (is_same_address frame.src own)
  where
    one : (is_own : Bool) → cond {A = List Heard} is_own [] ((frame.src, at * k) ∷ []) ≡ map (hearing_in_unit k) (cond is_own [] ((frame.src, at) ∷ []))
    one true = refl
    one false = refl

source_at-scaled : (k : ℕ) (port : Option BoxPort) (own : List ℕ) (at : ℕ) (seen : Result Seen FrameFault)
    → source_at port own (at * k) seen ≡ map (hearing_in_unit k) (source_at port own at seen)
source_at-scaled k (Some A) own at seen = refl
source_at-scaled k (Some B) own at seen = refl
source_at-scaled k (Some I) own at seen = source_in-scaled k own at seen
source_at-scaled k None own at seen = refl

heard_from-scaled : (k : ℕ) (place : Place) (at : ℕ) (event : Event) → heard_from place (at * k) event ≡ map (hearing_in_unit k) (heard_from place at event)
heard_from-scaled k (RedBox mac mode) at (Arrive port copy) = source_at-scaled k (box_port port) mac at (classified copy.octets)
heard_from-scaled k (RedBox mac mode) at (Send from dst vlan ethertype payload) = refl
heard_from-scaled k (RedBox mac mode) at (Supervise about) = refl
heard_from-scaled k (RedBox mac mode) at Age = refl
heard_from-scaled k (Danh mac mode) at event = refl
heard_from-scaled k QuadBox at event = refl
heard_from-scaled k (Station macs) at event = refl

heard_same : (k : ℕ) (place : Place) (past : List Entry) → heard place (in_unit k past) ≡ map (hearing_in_unit k) (heard place past)
heard_same k place [] = refl
heard_same k place (x ∷ past) =
    ap₂ (λ moment rest. heard_from place moment x.event ++ rest) (now_scaled k (x ∷ past)) (heard_same k place past)
    ∙ ap (λ first. first ++ map (hearing_in_unit k) (heard place past)) (heard_from-scaled k place (now (x ∷ past)) x.event)
    ∙ sym (map-append (hearing_in_unit k) (heard_from place (now (x ∷ past)) x.event) (heard place past))

others_same : (k : ℕ) (mac : List ℕ) (hs : List Heard)
    → others {X = Heard} (λ h. h.0) mac (map (hearing_in_unit k) hs) ≡ map (hearing_in_unit k) (others {X = Heard} (λ h. h.0) mac hs)
others_same k mac [] = refl
others_same k mac (h ∷ hs) = one (not (is_same_address h.0 mac)) _ _ (others_same k mac hs)
  where
    one : (other : Bool) (xs ys : List Heard) → xs ≡ map (hearing_in_unit k) ys → cond other (hearing_in_unit k h ∷ xs) xs ≡ map (hearing_in_unit k) (cond other (h ∷ ys) ys)
    one true xs ys same = ap (λ rest. hearing_in_unit k h ∷ rest) same
    one false xs ys same = same

latest_same : (k : ℕ) (hs : List Heard)
    → latest_of_each {X = Heard} (λ h. h.0) (map (hearing_in_unit k) hs) ≡ map (hearing_in_unit k) (latest_of_each {X = Heard} (λ h. h.0) hs)
latest_same k [] = refl
latest_same k (h ∷ hs) =
    ap (λ rest. hearing_in_unit k h ∷ others {X = Heard} (λ h. h.0) h.0 rest) (latest_same k hs)
    ∙ ap (λ rest. hearing_in_unit k h ∷ rest) (others_same k h.0 (latest_of_each {X = Heard} (λ h. h.0) hs))

young_heard-same : (k forget at : ℕ) (mac : List ℕ) (hs : List Heard) → 0 < k
    → list_any {X = Heard} (λ h. is_same_address h.0 mac) (filter (λ h. nat_lt (at * k - h.1) (forget * k)) (map (hearing_in_unit k) hs))
    ≡ list_any {X = Heard} (λ h. is_same_address h.0 mac) (filter (λ h. nat_lt (at - h.1) forget) hs)
young_heard-same k forget at mac [] positive = refl
young_heard-same k forget at mac (h ∷ hs) positive =
    ap (λ young. list_any {X = Heard} (λ h. is_same_address h.0 mac) (cond young (hearing_in_unit k h ∷ later) later)) (young_scaled k at h.1 forget positive)
    ∙ one (nat_lt (at - h.1) forget) (young_heard-same k forget at mac hs positive)
  where
    later : List Heard
    later = filter (λ h. nat_lt (at * k - h.1) (forget * k)) (map (hearing_in_unit k) hs)

    now_young : List Heard
    now_young = filter (λ h. nat_lt (at - h.1) forget) hs

    one : (young : Bool) → list_any {X = Heard} (λ h. is_same_address h.0 mac) later ≡ list_any {X = Heard} (λ h. is_same_address h.0 mac) now_young
        → list_any {X = Heard} (λ h. is_same_address h.0 mac) (cond young (hearing_in_unit k h ∷ later) later)
        ≡ list_any {X = Heard} (λ h. is_same_address h.0 mac) (cond young (h ∷ now_young) now_young)
    one true same = ap (λ rest. is_same_address h.0 mac || rest) same
    one false same = same

knows_same : (k : ℕ) (times : Times) (place : Place) (past : List Entry) (at : ℕ) (event : Event) → 0 < k
    → knows_by (finer_times k times) place (in_unit k past) (at * k) event ≡ knows_by times place past at event
knows_same k times place past at event positive = fun_ext (λ mac.
    ap (λ hs. list_any {X = Heard} (λ h. is_same_address h.0 mac) (filter (λ h. nat_lt (at * k - h.1) (times.node * k)) (take row_limit (latest_of_each (λ h. h.0) hs)))) all
    ∙ ap (λ hs. list_any {X = Heard} (λ h. is_same_address h.0 mac) (filter (λ h. nat_lt (at * k - h.1) (times.node * k)) (take row_limit hs))) (latest_same k there)
    ∙ ap (λ hs. list_any {X = Heard} (λ h. is_same_address h.0 mac) (filter (λ h. nat_lt (at * k - h.1) (times.node * k)) hs)) (take-map (hearing_in_unit k) row_limit (latest_of_each (λ h. h.0) there))
    ∙ young_heard-same k times.node at mac (take row_limit (latest_of_each (λ h. h.0) there)) positive)
  where
    there : List Heard
    there = heard_from place at event ++ heard place past

    all : heard_from place (at * k) event ++ heard place (in_unit k past) ≡ map (hearing_in_unit k) there
    all = ap₂ (λ xs ys. xs ++ ys) (heard_from-scaled k place at event) (heard_same k place past)
        ∙ sym (map-append (hearing_in_unit k) (heard_from place at event) (heard place past))

-- ---- answers

send_same : (k : ℕ) (times : Times) (capacity : ℕ) (owner : Owner) (past : List Entry) (at : ℕ) (from : Option (List ℕ)) (dst : List ℕ) (ethertype len : ℕ) → 0 < k
    → send_answer_by (finer_times k times) capacity owner (in_unit k past) (at * k) from dst ethertype len ≡ send_answer_by times capacity owner past at from dst ethertype len
send_same k times capacity owner past at None dst ethertype len positive = refl
send_same k times capacity owner past at (Some src) dst ethertype len positive =
    ap₂ (λ count known. sent_or_refused (send_refusal src count dst ethertype len) (sent_as (sending owner.place known dst ethertype) (next_number (in_unit k past))))
    (steps_same k past) (knows_same k times owner.place past at Age positive)
    ∙ ap (λ next. sent_or_refused (send_refusal src (steps past) dst ethertype len) (sent_as (sending owner.place (knows_by times owner.place past at Age) dst ethertype) next))
    (next_same k past)

lived_same : (k : ℕ) (past : List Entry) → lived_or_refused (in_unit k past) None ≡ lived_or_refused past None
lived_same k past = ap₂ (λ next life. Ok (Outcome.Life next (life % 65536) (true ∷ true ∷ false ∷ false ∷ []))) (next_same k past) (lives_same k past)

life_same : (k : ℕ) (times : Times) (place : Place) (past : List Entry) (at : ℕ) (about : About) → 0 < k
    → life_answer_by (finer_times k times) place (in_unit k past) (at * k) about ≡ life_answer_by times place past at about
life_same k times (Danh mac mode) past at Own positive =
    ap₂ (λ count lived. cond (count == 2 ^ 62) (Err Spent) lived) (steps_same k past) (lived_same k past)
life_same k times (Danh mac mode) past at (Proxied station) positive = refl
life_same k times (RedBox mac mode) past at about positive =
    ap₂ (λ known count. lived_or_refused (in_unit k past) (life_refusal known count about)) (knows_same k times (RedBox mac mode) past at Age positive) (steps_same k past)
    ∙ either (life_refusal (knows_by times (RedBox mac mode) past at Age) (steps past) about)
  where
    either : (fault : Option _) → lived_or_refused (in_unit k past) fault ≡ lived_or_refused past fault
    either None = lived_same k past
    either (Some fault) = refl
life_same k times QuadBox past at about positive = refl
life_same k times (Station macs) past at about positive = refl

arrive_same : (k : ℕ) (times : Times) (capacity : ℕ) (owner : Owner) (past : List Entry) (at : ℕ) (h : Option Handling) (seen : Result Seen FrameFault) → 0 < k
    → arrive_answer_by (finer_times k times) capacity owner (in_unit k past) (at * k) h seen ≡ arrive_answer_by times capacity owner past at h seen
arrive_same k times capacity owner past at None seen positive = refl
arrive_same k times capacity owner past at (Some h) seen positive =
    ap₂ (λ held next. cond (steps (in_unit k past) == 2 ^ 62) (Err Spent) (Ok (judged_as h (passing held h.wants.exits seen) next)))
    (fun_ext (λ key. fun_ext (λ e. remembers_same k times capacity owner past at key e positive))) (next_same k past)
    ∙ ap (λ count. cond (count == 2 ^ 62) (Err Spent) (Ok (judged_as h (passing (remembers_by times capacity owner past at) h.wants.exits seen) (next_number past))))
    (steps_same k past)

pub answers_in_finer_unit : AnswersInFinerUnit
answers_in_finer_unit k positive times capacity owner past at (Send from dst vlan ethertype payload) =
    send_same k times capacity owner past at (address_at owner.place from) dst ethertype (length payload) positive
answers_in_finer_unit k positive times capacity owner past at (Supervise about) = life_same k times owner.place past at about positive
answers_in_finer_unit k positive times capacity owner past at (Arrive port copy) =
    ap (λ known. arrive_answer_by (finer_times k times) capacity owner (in_unit k past) (at * k) (handling owner.place known port (classified copy.octets)) (classified copy.octets))
    (knows_same k times owner.place past at (Arrive port copy) positive)
    ∙ arrive_same k times capacity owner past at (handling owner.place (knows_by times owner.place past at (Arrive port copy)) port (classified copy.octets)) (classified copy.octets) positive
answers_in_finer_unit k positive times capacity owner past at Age = refl

-- ---- records

-- the answer at an entry is the same in both units
entry_same : (k : ℕ) → 0 < k → (times : Times) (capacity : ℕ) (owner : Owner) (x : Entry) (past : List Entry)
    → answer_by (finer_times k times) capacity owner (in_unit k past) (now (in_unit k (x ∷ past))) x.event ≡ answer_by times capacity owner past (now (x ∷ past)) x.event
entry_same k positive times capacity owner x past =
    ap (λ at. answer_by (finer_times k times) capacity owner (in_unit k past) at x.event) (now_scaled k (x ∷ past))
    ∙ answers_in_finer_unit k positive times capacity owner past (now (x ∷ past)) x.event

legal_finer : (k : ℕ) → 0 < k → (times : Times) (capacity : ℕ) (owner : Owner) (past : List Entry)
    → IsLegalBy times capacity owner past → IsLegalBy (finer_times k times) capacity owner (in_unit k past)
legal_finer k positive times capacity owner [] legal = legal
legal_finer k positive times capacity owner (x ∷ past) legal =
    (entry_same k positive times capacity owner x past ∙ legal.0, legal_finer k positive times capacity owner past legal.1)

legal_coarser : (k : ℕ) → 0 < k → (times : Times) (capacity : ℕ) (owner : Owner) (past : List Entry)
    → IsLegalBy (finer_times k times) capacity owner (in_unit k past) → IsLegalBy times capacity owner past
legal_coarser k positive times capacity owner [] legal = legal
legal_coarser k positive times capacity owner (x ∷ past) legal =
    (sym (entry_same k positive times capacity owner x past) ∙ legal.0, legal_coarser k positive times capacity owner past legal.1)

pub legal_in_finer_unit : LegalInFinerUnit
legal_in_finer_unit k positive times capacity owner past =
    (legal_coarser k positive times capacity owner past, legal_finer k positive times capacity owner past)

pub legal_from_milliseconds : LegalFromMilliseconds
unfolding IsLegal
legal_from_milliseconds capacity owner past = legal_in_finer_unit 1000 (zero-lt-suc 999) in_milliseconds capacity owner past
