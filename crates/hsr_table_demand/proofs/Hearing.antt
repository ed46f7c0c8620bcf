-- The stations that are known are those that the record lets know.
use Rattle.std.proofs.Common.{◌≡◌, ◌⊎◌, inl, inr, ⊎_elim, ℕ, ◌≤◌, max, Bool, true, false, cond, List, [], ◌∷◌, ◌++◌, reverse, Option, Some, None, Result, Ok, Err, refl, sym, ap, ◌∙◌, subst, arith}
use Rattle.std.specs.Prelude.{fold}
use Rattle.std.specs.List.{list_any}
use Rattle.std.proofs.lemmas.List.{reverse-append, reverse-reverse}
use Rattle.std.proofs.lemmas.List.Sums.{fold-append}
use Rattle.std.proofs.Math.Nat.{le-max_left}
use Rattle.hsr_frame.specs.Address.{is_same_address}
use Rattle.hsr_frame.specs.declared.fault.FrameFault.{FrameFault}
use Rattle.hsr_tag.specs.Seen.{classified}
use Rattle.hsr_tag.specs.declared.seen.Seen.{Seen}
use Rattle.hsr_tag.specs.declared.seen.Seen.TheVariants.{Plain, Tagged}
use Rattle.hsr_tables.specs.Known.{known, latest_heard}
use Rattle.hsr_tables.specs.Proxies.{Proxies, is_known, learned, no_proxies}
use Rattle.hsr_tables.proofs.ProxyLaws.{knows_latest}
use Rattle.hsr_redbox.specs.Past.{source_in}
use Rattle.hsr_redbox.specs.declared.call.BoxPort.{BoxPort}
use Rattle.hsr_redbox.specs.declared.call.BoxPort.TheVariants as box
use Rattle.hsr_node.specs.Record.{heard, heard_from, knows, now, source_at}
use Rattle.hsr_node.specs.Step.{box_port}
use Rattle.hsr_node.specs.declared.entry.Entry.{Entry}
use Rattle.hsr_node.specs.declared.event.Event.{Event}
use Rattle.hsr_node.specs.declared.event.Event.TheVariants.{Send, Supervise, Arrive, Age}
use Rattle.hsr_node.specs.declared.place.Place.{Place}
use Rattle.hsr_node.specs.declared.place.Place.TheVariants.{Danh, RedBox, QuadBox, Station}
use Rattle.hsr_table_demand.specs.Read.{heard_in, stations_of}

-- ---- one heard at most

-- one is heard at most, at this moment
abbrev pub IsOne : (X : Type 0) → (X → ℕ) → ℕ → List X → Type 0
IsOne X moment at xs = (xs ≡ []) ⊎ ((x : X) × (xs ≡ x ∷ []) × (moment x ≡ at))

turned : (X : Type 0) (moment : X → ℕ) (at : ℕ) (xs : List X) → IsOne X moment at xs → reverse xs ≡ xs
turned X moment at xs one =
    let P : List X → Type 0 = λ ys. reverse ys ≡ ys in
    ⊎_elim (λ none. subst P (sym none) refl) (λ some. subst P (sym some.1) refl) one

-- it is heard behind all that was
pub one_folded : (S X : Type 0) (moment : X → ℕ) (at : ℕ) (hears : S → X → S) (first heard : S) (xs old : List X) → IsOne X moment at xs → heard ≡ fold hears first (reverse old)
    → fold hears heard xs ≡ fold hears first (reverse (xs ++ old))
one_folded S X moment at hears first heard xs old one is =
    ap (λ (s : S). fold hears s xs) is
    ∙ (sym (fold-append hears first (reverse old) xs)
    ∙ ap (fold hears first) (ap (λ ys. reverse old ++ ys) (sym (turned X moment at xs one)) ∙ sym (reverse-append xs old)))

-- nothing was heard after a moment at or after its own
pub one_last : (S X : Type 0) (moment : X → ℕ) (m at : ℕ) (hears : S → X → S) (last : S → ℕ) (heard : S) (xs : List X) → ((s : S) (x : X) → last (hears s x) ≡ moment x)
    → IsOne X moment at xs → last heard ≤ m → m ≤ at → last (fold hears heard xs) ≤ at
one_last S X moment m at hears last heard xs is one before later =
    let P : List X → Type 0 = λ ys. last (fold hears heard ys) ≤ at in
    ⊎_elim (λ none. subst P (sym none) (omega (arith, before, later)))
    (λ some. subst P (sym some.1) (let so = is heard some.0 in let same = some.2 in omega (arith, so, same))) one

-- ---- stations

-- an entry lets hear one station at most, at its moment
abbrev IsOneStation : ℕ → List (List ℕ × ℕ) → Type 0
IsOneStation at xs = IsOne (List ℕ × ℕ) (λ h. h.1) at xs

one_source : (own : List ℕ) (at : ℕ) (seen : Result Seen FrameFault) → IsOneStation at (source_in own at seen)
one_source own at (Err fault) = inl refl
one_source own at (Ok (Tagged frame)) = inl refl
one_source own at (Ok (Plain frame)) = by_own (is_same_address frame.src own)
  where
    by_own : (b : Bool) → IsOneStation at (cond b [] ((frame.src, at) ∷ []))
    by_own true = inl refl
    by_own false = inr ((frame.src, at), refl, refl)

one_at : (o : Option BoxPort) (own : List ℕ) (at : ℕ) (seen : Result Seen FrameFault) → IsOneStation at (source_at o own at seen)
one_at None own at seen = inl refl
one_at (Some box.A) own at seen = inl refl
one_at (Some box.B) own at seen = inl refl
one_at (Some box.I) own at seen = one_source own at seen

one_heard : (place : Place) (at : ℕ) (event : Event) → IsOneStation at (heard_from place at event)
one_heard (RedBox mac mode) at (Arrive port copy) = one_at (box_port port) mac at (classified copy.octets)
one_heard (RedBox mac mode) at (Send from dst vlan ethertype payload) = inl refl
one_heard (RedBox mac mode) at (Supervise about) = inl refl
one_heard (RedBox mac mode) at Age = inl refl
one_heard (Danh mac mode) at event = inl refl
one_heard QuadBox at event = inl refl
one_heard (Station macs) at event = inl refl

pub folded : (place : Place) (past : List Entry) → stations_of place past ≡ fold learned no_proxies (reverse (heard place past))
folded place [] = refl
folded place (x ∷ past) =
    let at = now (x ∷ past) in
    one_folded Proxies (List ℕ × ℕ) (λ h. h.1) at learned no_proxies (stations_of place past) (heard_from place at x.event) (heard place past) (one_heard place at x.event) (folded place past)

-- what is known after an entry is what the past knows at it
pub known_same : (place : Place) (x : Entry) (past : List Entry) → is_known (now (x ∷ past)) (stations_of place (x ∷ past)).heard ≡ knows place past (now (x ∷ past)) x.event
known_same place x past =
    let at = now (x ∷ past) in
    let hearings = heard_from place at x.event ++ heard place past in
    let told : known at (stations_of place (x ∷ past)).heard ≡ known at (latest_heard (λ h. h.0) hearings) =
    ap (λ (s : Proxies). known at s.heard) (folded place (x ∷ past)) ∙ (knows_latest (reverse hearings) at ∙ ap (λ (hs : List (List ℕ × ℕ)). known at (latest_heard (λ h. h.0) hs)) (reverse-reverse hearings)) in
    let among : List (List ℕ × ℕ) → List ℕ → Bool = λ rows mac. list_any (λ h. is_same_address h.0 mac) rows in
    ap among told

-- nothing was heard after a moment at or after its own
pub heard_last : (place : Place) (m at : ℕ) (event : Event) (stations : Proxies) → stations.last ≤ m → m ≤ at → (heard_in place at event stations).last ≤ at
heard_last place m at event stations before later =
    one_last Proxies (List ℕ × ℕ) (λ h. h.1) m at learned (λ s. s.last) stations (heard_from place at event) (λ s h. refl) (one_heard place at event) before later

pub stations_last : (place : Place) (past : List Entry) → (stations_of place past).last ≤ now past
stations_last place [] = omega arith
stations_last place (x ∷ past) = heard_last place (now past) (now (x ∷ past)) x.event (stations_of place past) (stations_last place past) (le-max_left (now past) x.at)

-- the stations that are kept tell of a past after one more entry too, at its effective moment
pub stations_after : (place : Place) (past : List Entry) (x : Entry) (moment : ℕ) (stations : Proxies) → moment ≡ now past → stations ≡ stations_of place past →
    heard_in place (max moment x.at) x.event stations ≡ stations_of place (x ∷ past)
stations_after place past x moment stations is_now is_told =
    ap (λ n. heard_in place (max n x.at) x.event stations) is_now ∙ ap (heard_in place (now (x ∷ past)) x.event) is_told

pub known_after : (place : Place) (past : List Entry) (x : Entry) (moment : ℕ) (stations : Proxies) → moment ≡ now past → stations ≡ stations_of place past →
    is_known (max moment x.at) (heard_in place (max moment x.at) x.event stations).heard ≡ knows place past (now (x ∷ past)) x.event
known_after place past x moment stations is_now is_told =
    ap (λ n. is_known (max n x.at) (heard_in place (max moment x.at) x.event stations).heard) is_now
    ∙ (ap (λ (s : Proxies). is_known (now (x ∷ past)) s.heard) (stations_after place past x moment stations is_now is_told) ∙ known_same place x past)
