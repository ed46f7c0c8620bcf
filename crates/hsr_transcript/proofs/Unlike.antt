-- No entry of a legal record is unlike what its past answers.
use Rattle.std.proofs.Common.{◌≡◌, ℕ, ◌<◌, List, [], ◌∷◌, length, take, reverse, get_or, Option, Some, None, Ok, ◌∙◌, subst, subst₂, arith, refl}
use Rattle.std.specs.List.{cons_option}
use Rattle.std.proofs.lemmas.List.{get_or_default}
use Rattle.hsr_node.specs.Flow.{arrivals, copy_at}
use Rattle.hsr_node.specs.Kept.{answer_to}
use Rattle.hsr_node.specs.Record.{Each, IsLegal, Owner, answer, now}
use Rattle.hsr_node.specs.declared.entry.Entry.{Entry}
use Rattle.hsr_node.specs.declared.place.Place.{Place}
use Rattle.hsr_node.specs.declared.place.Place.TheVariants.{QuadBox}
use Rattle.hsr_finished_run.proofs.Places.{from_each}
use Rattle.hsr_transcript.specs.Replay.{IsFirstUnlike, IsUnlike, front_of}

-- ---- arrivals

pub none_behind : {X : Type 0} (o : Option X) (xs : List X) → cons_option o xs ≡ [] → (o ≡ None) × (xs ≡ [])
none_behind None xs h = (refl, h)
none_behind (Some x) xs h = absurd (cc)

-- where nothing came by a port, no entry is an arrival there
pub none_came : (port : ℕ) (past : List Entry) → arrivals port past ≡ [] → Each (λ x below. copy_at port x.event ≡ None) past
none_came port [] none = tt
none_came port (x ∷ past) none = let parts = none_behind (copy_at port x.event) (arrivals port past) none in (parts.0, none_came port past parts.1)

-- ---- records

legal_at : (capacity : ℕ) (owner : Owner) (entries : List Entry) (i : ℕ) (d : Entry) → i < length entries → IsLegal capacity owner (reverse entries)
    → answer capacity owner (reverse (take i entries)) (now (get_or entries i d ∷ reverse (take i entries))) (get_or entries i d).event ≡ Ok (get_or entries i d).outcome
unfolding IsLegal
legal_at capacity owner entries i d below legal = from_each (λ x past. answer capacity owner past (now (x ∷ past)) x.event ≡ Ok x.outcome) entries legal i below d

not_unlike : (capacity node : ℕ) (place : Place) (entries : List Entry) (first line : ℕ) → IsLegal capacity (record { number = node; place = place }) (reverse entries) → ¬ IsUnlike capacity node place entries first line
not_unlike capacity node place entries first line legal u =
    let Q : Entry → Type 0 = λ x. answer_to capacity (front_of node place u.at entries) x.at x.event ≡ Ok x.outcome in
    u.differs (subst Q u.there (legal_at capacity (record { number = node; place = place }) entries u.at u.entry u.within legal))

pub none_unlike : (capacity : ℕ) (places : List Place) (records : List (List Entry)) (first line : ℕ) → length records ≡ length places
    → ((k : ℕ) → k < length places → IsLegal capacity (record { number = k; place = get_or places k QuadBox }) (reverse (get_or records k []))) → ¬ IsFirstUnlike capacity places records first line
none_unlike capacity places records first line many legal u =
    let place : get_or places u.node QuadBox ≡ u.place = get_or_default places u.node QuadBox u.place u.within ∙ u.stands in
    let entries : get_or records u.node [] ≡ u.entries = get_or_default records u.node [] u.entries (omega (arith, many, u.within)) ∙ u.holds in
    not_unlike capacity u.node u.place u.entries _ line
    (subst₂ (λ (p : Place) (es : List Entry). IsLegal capacity (record { number = u.node; place = p }) (reverse es)) place entries (legal u.node u.within)) u.unlike
