-- What a RedBox knows on its interlink, where all that came there is from a few addresses: each that it heard lately.
use Rattle.std.proofs.Common.{◌≡◌, ℕ, ◌+◌, ◌-◌, ◌<◌, ◌≤◌, ◌==◌, ◌&&◌, ◌||◌, not, max, nat_lt, Bool, true, false, cond, if◌then◌else◌, List, [], ◌∷◌, ◌++◌, length, take, filter, count_by, Option, Some, None, Ok, Err, refl, sym, ap, ◌∙◌, subst, arith, ⊎_elim, zero, suc, eq-eqb, eqb-true, lt-ltb}
use Rattle.std.specs.List.{AllByRecursion, cons_option, list_any}
use Rattle.std.proofs.lemmas.Bool.{and_from, and_parts, cases_Bool, cond-false, false≢true, or_cases, or_left, or_right}
use Rattle.hsr_frame.specs.Address.{is_same_address}
use Rattle.hsr_frame.specs.Grammar.{Fields}
use Rattle.hsr_frame.specs.declared.node.Mode.{Mode}
use Rattle.hsr_tag.specs.declared.seen.Seen.TheVariants.{Plain, Tagged}
use Rattle.hsr_tables.specs.Known.{known_within, latest_heard, latest_of_each, node_forget, others}
use Rattle.hsr_redbox.specs.Past.{source_in}
use Rattle.hsr_redbox.specs.declared.call.BoxPort.{BoxPort}
use Rattle.hsr_node.specs.Flow.{arrivals, copy_at}
use Rattle.hsr_node.specs.Record.{Each, heard, heard_from, knows, now, source_at}
use Rattle.hsr_node.specs.declared.entry.Entry.{Entry}
use Rattle.hsr_node.specs.declared.event.Carried.{Carried}
use Rattle.hsr_node.specs.declared.event.Event.{Event}
use Rattle.hsr_node.specs.declared.event.Event.TheVariants.{Send, Supervise, Arrive, Age}
use Rattle.hsr_node.specs.declared.place.Place.TheVariants.{RedBox}
use Rattle.hsr_run_laws.proofs.Lists.{all_filter, all_weaker, count_more}
use Rattle.hsr_run_laws.proofs.Pigeon.{Apart, any_without, pigeon}
use Rattle.hsr_run_laws.proofs.Same.{address_other, address_same, other_address, same_address}
use Rattle.hsr_run_laws.proofs.Views.{Came, came}
use Rattle.hsr_run_laws.proofs.Wanted.{no_box_port}
use Rattle.hsr_play_laws.proofs.SentFor.{each_under}

-- an address that was heard, and when
abbrev Hearing : Type 0
Hearing = List ℕ × ℕ

-- ---- what is heard comes from few addresses

abbrev pub is_of_any : List (List ℕ) → List ℕ → Bool
is_of_any macs mac = list_any (λ other. is_same_address mac other) macs

-- what comes plain to the interlink is from one of these addresses
abbrev pub IsFromAny : List (List ℕ) → Carried → Type 0
IsFromAny macs copy = (f : Fields) → came copy ≡ Ok (Plain f) → is_of_any macs f.src ≡ true

abbrev ComesFrom : List (List ℕ) → Event → Type 0
ComesFrom macs (Arrive port copy) = (port == 2) ≡ true → IsFromAny macs copy
ComesFrom macs event = Unit {0}

each_comes : (macs : List (List ℕ)) (h : List Entry) → AllByRecursion (IsFromAny macs) (arrivals 2 h) → Each (λ x past. ComesFrom macs x.event) h
each_comes macs [] all = tt
each_comes macs (x ∷ past) all = (one x.event all, each_comes macs past (rest (copy_at 2 x.event) all))
  where
    rest : (o : Option Carried) → AllByRecursion (IsFromAny macs) (cons_option o (arrivals 2 past)) → AllByRecursion (IsFromAny macs) (arrivals 2 past)
    rest None all = all
    rest (Some c) all = all.1

    one : (event : Event) → AllByRecursion (IsFromAny macs) (cons_option (copy_at 2 event) (arrivals 2 past)) → ComesFrom macs event
    one (Send from dst vlan ethertype payload) all = tt
    one (Supervise about) all = tt
    one (Arrive port copy) all = λ two. (subst (λ b. AllByRecursion (IsFromAny macs) (cons_option (if b then Some copy else None) (arrivals 2 past))) two all).0
    one Age all = tt

-- what an entry hears is of its moment
abbrev IsHearing : List (List ℕ) → ℕ → Hearing → Type 0
IsHearing macs moment h = (h.1 ≡ moment) × (is_of_any macs h.0 ≡ true)

one_heard : (macs : List (List ℕ)) (own : List ℕ) (mode : Mode) (moment : ℕ) (event : Event) → ComesFrom macs event → AllByRecursion (IsHearing macs moment) (heard_from (RedBox own mode) moment event)
one_heard macs own mode moment (Send from dst vlan ethertype payload) comes = tt
one_heard macs own mode moment (Supervise about) comes = tt
one_heard macs own mode moment Age comes = tt
one_heard macs own mode moment (Arrive zero copy) comes = tt
one_heard macs own mode moment (Arrive (suc zero) copy) comes = tt
one_heard macs own mode moment (Arrive (suc (suc zero)) copy) comes = by_seen (came copy) refl
  where
    by_seen : (seen : Came) → came copy ≡ seen → AllByRecursion (IsHearing macs moment) (source_in own moment seen)
    by_seen (Err fault) is = tt
    by_seen (Ok (Tagged t)) is = tt
    by_seen (Ok (Plain f)) is = by_own (is_same_address f.src own)
      where
        by_own : (b : Bool) → AllByRecursion (IsHearing macs moment) (if b then [] else (f.src, moment) ∷ [])
        by_own true = tt
        by_own false = ((refl, comes refl f is), tt)
one_heard macs own mode moment (Arrive (suc (suc (suc n))) copy) comes =
    let S : Option BoxPort → Type 0 = λ o. AllByRecursion (IsHearing macs moment) (source_at o own moment (came copy)) in
    subst S (sym (no_box_port (suc (suc (suc n))) (omega arith))) tt

both_all : (P : Hearing → Type 0) (xs ys : List Hearing) → AllByRecursion P xs → AllByRecursion P ys → AllByRecursion P (xs ++ ys)
both_all P [] ys a b = b
both_all P (x ∷ xs) ys a b = (a.0, both_all P xs ys a.1 b)

abbrev IsOfAny : List (List ℕ) → Hearing → Type 0
IsOfAny macs h = is_of_any macs h.0 ≡ true

all_heard : (macs : List (List ℕ)) (own : List ℕ) (mode : Mode) (h : List Entry) → Each (λ x past. ComesFrom macs x.event) h → AllByRecursion (IsOfAny macs) (heard (RedBox own mode) h)
all_heard macs own mode [] comes = tt
all_heard macs own mode (x ∷ past) comes =
    both_all (IsOfAny macs) (heard_from (RedBox own mode) (now (x ∷ past)) x.event) (heard (RedBox own mode) past)
    (all_weaker (IsHearing macs (now (x ∷ past))) (IsOfAny macs) (heard_from (RedBox own mode) (now (x ∷ past)) x.event) (λ h is. is.1) (one_heard macs own mode (now (x ∷ past)) x.event comes.0))
    (all_heard macs own mode past comes.1)

-- ---- the latest of each address are no more than there are addresses

abbrev address_of : Hearing → List ℕ
address_of h = h.0

abbrev is_at : Hearing → List ℕ → Bool
is_at h mac = is_same_address h.0 mac

all_latest : (P : Hearing → Type 0) (hs : List Hearing) → AllByRecursion P hs → AllByRecursion P (latest_of_each (λ h. h.0) hs)
all_latest P [] all = tt
all_latest P (h ∷ hs) all = (all.0, all_filter P (λ x. not (is_same_address x.0 h.0)) (latest_of_each (λ h. h.0) hs) (all_latest P hs all.1))

apart_filter : (q : Hearing → Bool) (hs : List Hearing) → Apart is_at hs → Apart is_at (filter q hs)
apart_filter q [] apart = tt
apart_filter q (h ∷ hs) apart = by_test (q h) (apart_filter q hs apart.1)
  where
    by_test : (b : Bool) → Apart is_at (filter q hs) → Apart is_at (cond b (h ∷ filter q hs) (filter q hs))
    by_test true rest = (all_filter (λ z. (mac : List ℕ) → is_at z mac ≡ true → is_at h mac ≡ true → ⊥) q hs apart.0, rest)
    by_test false rest = rest

others_apart : (h : Hearing) (xs : List Hearing) → AllByRecursion (λ z. (mac : List ℕ) → is_at z mac ≡ true → is_at h mac ≡ true → ⊥) (filter (λ x. not (is_same_address x.0 h.0)) xs)
others_apart h [] = tt
others_apart h (x ∷ xs) = by_test (is_same_address x.0 h.0) refl (others_apart h xs)
  where
    by_test : (b : Bool) → is_same_address x.0 h.0 ≡ b → AllByRecursion (λ z. (mac : List ℕ) → is_at z mac ≡ true → is_at h mac ≡ true → ⊥) (filter (λ x. not (is_same_address x.0 h.0)) xs) →
        AllByRecursion (λ z. (mac : List ℕ) → is_at z mac ≡ true → is_at h mac ≡ true → ⊥) (cond (not b) (x ∷ filter (λ x. not (is_same_address x.0 h.0)) xs) (filter (λ x. not (is_same_address x.0 h.0)) xs))
    by_test true same rest = rest
    by_test false other rest = (λ mac mine its. other_address x.0 h.0 other (same_address x.0 mac mine ∙ sym (same_address h.0 mac its)), rest)

latest_apart : (hs : List Hearing) → Apart is_at (latest_of_each (λ h. h.0) hs)
latest_apart [] = tt
latest_apart (h ∷ hs) = (others_apart h (latest_of_each (λ h. h.0) hs), apart_filter (λ x. not (is_same_address x.0 h.0)) (latest_of_each (λ h. h.0) hs) (latest_apart hs))

count_most : {X : Type 0} (p : X → Bool) (xs : List X) → count_by p xs ≤ length xs
count_most p [] = omega arith
count_most p (x ∷ xs) =
    let more = count_more p x xs in
    let rest = count_most p xs in
    let one = at_most (p x) in
    omega (arith, more, rest, one)
  where
    at_most : (b : Bool) → cond {A = ℕ} b 1 0 ≤ 1
    at_most true = omega arith
    at_most false = omega arith

latest_few : (macs : List (List ℕ)) (hs : List Hearing) → AllByRecursion (IsOfAny macs) hs → length (latest_of_each (λ h. h.0) hs) ≤ length macs
latest_few macs hs all =
    let most = pigeon is_at (λ (mac : List ℕ). true) (latest_of_each (λ h. h.0) hs) macs (latest_apart hs)
    (all_weaker (IsOfAny macs) (λ (h : Hearing). list_any (λ mac. is_at h mac && true) macs ≡ true) (latest_of_each (λ h. h.0) hs) (λ h is. with_true (is_at h) macs is) (all_latest (IsOfAny macs) hs all)) in
    let few = count_most (λ (mac : List ℕ). true) macs in
    omega (arith, most, few)
  where
    with_true : (p : List ℕ → Bool) (xs : List (List ℕ)) → list_any p xs ≡ true → list_any (λ x. p x && true) xs ≡ true
    with_true p [] h = h
    with_true p (x ∷ xs) h =
        ⊎_elim (λ here. or_left (p x && true) (list_any (λ x. p x && true) xs) (and_from (p x) true here refl)) (λ later. or_right (p x && true) (list_any (λ x. p x && true) xs) (with_true p xs later)) (or_cases (p x) (list_any p xs) h)

take_whole : {X : Type 0} (n : ℕ) (xs : List X) → length xs ≤ n → take n xs ≡ xs
take_whole zero [] low = refl
take_whole zero (x ∷ xs) low = absurd (omega (arith, low))
take_whole (suc n) [] low = refl
take_whole (suc n) (x ∷ xs) low = ap (λ ys. x ∷ ys) (take_whole n xs (omega (arith, low)))

any_both : {X : Type 0} (p q : X → Bool) (xs : List X) → list_any (λ x. p x && q x) xs ≡ true → list_any p (filter q xs) ≡ true
any_both p q [] h = h
any_both p q (x ∷ xs) h = ⊎_elim (λ here. let parts = and_parts (p x) (q x) here in kept (q x) parts.1 parts.0) (λ later. more (q x) (any_both p q xs later)) (or_cases (p x && q x) (list_any (λ x. p x && q x) xs) h)
  where
    kept : (b : Bool) → b ≡ true → p x ≡ true → list_any p (cond b (x ∷ filter q xs) (filter q xs)) ≡ true
    kept true is mine = or_left (p x) (list_any p (filter q xs)) mine
    kept false is mine = absurd (false≢true is)

    more : (b : Bool) → list_any p (filter q xs) ≡ true → list_any p (cond b (x ∷ filter q xs) (filter q xs)) ≡ true
    more true h = or_right (p x) (list_any p (filter q xs)) h
    more false h = h

-- ---- what was heard lately is known

module _ (station : List ℕ) (at : ℕ) where
  abbrev is_young_one : Hearing → Bool
  is_young_one h = nat_lt (at - h.1) node_forget

  abbrev IsLately : List Hearing → Type 0
  IsLately hs = list_any (λ h. is_same_address h.0 station && is_young_one h) (latest_of_each (λ h. h.0) hs) ≡ true

  -- whatever else is heard lately
  push : (hs rest : List Hearing) → AllByRecursion (λ h. is_young_one h ≡ true) hs → IsLately rest → IsLately (hs ++ rest)
  push [] rest young lately = lately
  push (h ∷ hs) rest young lately = by_test (is_same_address h.0 station) refl (push hs rest young.1 lately)
    where
      by_test : (b : Bool) → is_same_address h.0 station ≡ b → IsLately (hs ++ rest) → IsLately (h ∷ (hs ++ rest))
      by_test true same later = or_left (is_same_address h.0 station && is_young_one h) _ (and_from (is_same_address h.0 station) (is_young_one h) same young.0)
      by_test false other later =
          or_right (is_same_address h.0 station && is_young_one h) _
          (any_without (λ (x : Hearing). is_same_address x.0 h.0) (λ (x : Hearing). is_same_address x.0 station && is_young_one x) (latest_of_each (λ h. h.0) (hs ++ rest))
          (λ x mine its. other_address h.0 station other
          (sym (same_address x.0 h.0 its) ∙ same_address x.0 station (and_parts (is_same_address x.0 station) (is_young_one x) mine).0)) later)

  young_from : (low moment : ℕ) → low ≤ moment → at < low + 60000000 → nat_lt (at - moment) node_forget ≡ true
  young_from low moment above near = lt-ltb (at - moment) node_forget (omega (arith, above, near))

  module _ (macs : List (List ℕ)) (own : List ℕ) (mode : Mode) (y : Entry) (past : List Entry) (near : at < now (y ∷ past) + 60000000) where
    -- the entry that hears it, and those above
    lately : (newer : List Entry) → Each (λ x past. ComesFrom macs x.event) (newer ++ (y ∷ past)) → heard_from (RedBox own mode) (now (y ∷ past)) y.event ≡ (station, now (y ∷ past)) ∷ [] →
        (now (y ∷ past) ≤ now (newer ++ (y ∷ past))) × IsLately (heard (RedBox own mode) (newer ++ (y ∷ past)))
    lately [] comes hears = (
      omega arith,
      subst (λ hs. IsLately (hs ++ heard (RedBox own mode) past)) (sym hears)
          (or_left (is_same_address station station && nat_lt (at - now (y ∷ past)) node_forget) _
          (and_from (is_same_address station station) (nat_lt (at - now (y ∷ past)) node_forget) (address_same station station refl) (young_from (now (y ∷ past)) (now (y ∷ past)) (omega arith) near))),
    )
    lately (x ∷ newer) comes hears =
        let rest = lately newer comes.1 hears in
        let low = rest.0 in
        let moment = now (x ∷ (newer ++ (y ∷ past))) in
        let above : now (y ∷ past) ≤ now (x ∷ (newer ++ (y ∷ past))) = omega (arith, low) in (
          above,
          push (heard_from (RedBox own mode) (now (x ∷ (newer ++ (y ∷ past)))) x.event) (heard (RedBox own mode) (newer ++ (y ∷ past)))
              (all_weaker (IsHearing macs (now (x ∷ (newer ++ (y ∷ past))))) (λ h. is_young_one h ≡ true) (heard_from (RedBox own mode) (now (x ∷ (newer ++ (y ∷ past)))) x.event)
              (λ h is. let same = is.0 in young_from (now (y ∷ past)) h.1 (omega (arith, above, same)) near)
              (one_heard macs own mode (now (x ∷ (newer ++ (y ∷ past)))) x.event comes.0)) rest.1,
        )

-- an entry hears an address
hears_it : (own : List ℕ) (mode : Mode) (moment : ℕ) (event : Event) (copy : Carried) (f : Fields) → event ≡ Arrive 2 copy → came copy ≡ Ok (Plain f) → (f.src ≡ own → ⊥) → heard_from (RedBox own mode) moment event ≡ (f.src, moment) ∷ []
hears_it own mode moment event copy f is plain other =
    ap (heard_from (RedBox own mode) moment) is ∙ (ap (source_in own moment) plain ∙ cond-false (is_same_address f.src own) [] ((f.src, moment) ∷ []) (address_other f.src own other))

-- So an address is known at a moment less than 60 seconds behind an entry that heard it, where all that came to the interlink is from 64
-- addresses at most.
pub known_lately : (macs : List (List ℕ)) (own : List ℕ) (mode : Mode) (h newer past : List Entry) (y : Entry) (copy : Carried) (f : Fields) (at : ℕ) → length macs ≤ 64 → AllByRecursion (IsFromAny macs) (arrivals 2 h) →
    h ≡ newer ++ (y ∷ past) → y.event ≡ Arrive 2 copy → came copy ≡ Ok (Plain f) → (f.src ≡ own → ⊥) → at < now (y ∷ past) + 60000000 → knows (RedBox own mode) h at Age f.src ≡ true
known_lately macs own mode h newer past y copy f at few all is arrives plain other near =
    let comes = each_comes macs h all in
    let hears = hears_it own mode (now (y ∷ past)) y.event copy f arrives plain other in
    let there = (lately f.src at macs own mode y past near newer (subst (Each (λ x past. ComesFrom macs x.event)) is comes) hears).1 in
    let here : IsLately f.src at (heard (RedBox own mode) h) = subst (λ r. IsLately f.src at (heard (RedBox own mode) r)) (sym is) there in
    let number = latest_few macs (heard (RedBox own mode) h) (all_heard macs own mode h comes) in
    let whole : take 64 (latest_of_each (λ (x : Hearing). x.0) (heard (RedBox own mode) h)) ≡ latest_of_each (λ (x : Hearing). x.0) (heard (RedBox own mode) h) =
    take_whole 64 (latest_of_each (λ (x : Hearing). x.0) (heard (RedBox own mode) h)) (omega (arith, number, few)) in
    subst (λ (hs : List Hearing). list_any (λ x. is_same_address x.0 f.src) (known_within node_forget at hs) ≡ true) (sym whole)
    (any_both (λ (x : Hearing). is_same_address x.0 f.src) (λ (x : Hearing). nat_lt (at - x.1) node_forget) (latest_of_each (λ (x : Hearing). x.0) (heard (RedBox own mode) h)) here)
