-- What isn't known on an interlink: an address that is the source of no plain frame that came there.
use Rattle.std.proofs.Common.{◌≡◌, ℕ, ◌||◌, Bool, true, false, not, if◌then◌else◌, List, [], ◌∷◌, ◌++◌, Option, Ok, Err, refl, sym, ap, ◌∙◌, subst, arith, ⊎_elim, zero, suc}
use Rattle.std.specs.List.{list_any, AllByRecursion}
use Rattle.std.proofs.lemmas.Bool.{cases_Bool}
use Rattle.hsr_frame.specs.Address.{is_same_address}
use Rattle.hsr_frame.specs.Grammar.{Fields}
use Rattle.hsr_tag.specs.declared.seen.Seen.TheVariants.{Plain, Tagged}
use Rattle.hsr_redbox.specs.Past.{source_in}
use Rattle.hsr_redbox.specs.declared.call.BoxPort.{BoxPort}
use Rattle.hsr_tables.specs.Known.{is_young, known, latest_heard, latest_of_each}
use Rattle.hsr_node.specs.Record.{Each, Owner, heard, heard_from, knows, now, source_at}
use Rattle.hsr_node.specs.declared.entry.Entry.{Entry}
use Rattle.hsr_node.specs.declared.event.Event.{Event}
use Rattle.hsr_node.specs.declared.event.Event.TheVariants.{Send, Supervise, Arrive, Age}
use Rattle.hsr_node.specs.declared.event.Probe.{Probe}
use Rattle.hsr_node.specs.declared.place.Place.{Place}
use Rattle.hsr_node.specs.declared.place.Place.TheVariants.{Danh, RedBox, QuadBox, Station}
use Rattle.hsr_run_laws.proofs.Arrived.{Knowing, MayKnow}
use Rattle.hsr_run_laws.proofs.Lists.{all_filter, all_take}
use Rattle.hsr_run_laws.proofs.Same.{same_address}
use Rattle.hsr_run_laws.proofs.Views.{Came, came}
use Rattle.hsr_run_laws.proofs.Wanted.{no_box_port}
use Rattle.hsr_network_laws.specs.Network.{is_edge, is_station}

-- P of the source of each plain frame that comes to an interlink
abbrev pub OfSource : (List ℕ → Type 0) → Place → Event → Type 0
OfSource P place (Arrive port copy) = is_edge place port ≡ true → is_station place ≡ false → (f : Fields) → came copy ≡ Ok (Plain f) → P f.src
OfSource P place event = Unit {0}

-- an address isn't known
abbrev pub Unknown : List ℕ → Knowing
Unknown mac known = known mac ≡ false

-- nor just before an entry, where a send looks
abbrev pub UnknownBefore : Owner → List ℕ → Entry → List Entry → Type 0
UnknownBefore owner mac x past = knows owner.place past (now (x ∷ past)) Age mac ≡ false

module _ (P : List ℕ → Type 0) where
  abbrev Heard : List ℕ × ℕ → Type 0
  Heard h = P h.0

  both_all : (xs ys : List (List ℕ × ℕ)) → AllByRecursion Heard xs → AllByRecursion Heard ys → AllByRecursion Heard (xs ++ ys)
  both_all [] ys a b = b
  both_all (x ∷ xs) ys a b = (a.0, both_all xs ys a.1 b)

  all_heard_from : (place : Place) (at : ℕ) (event : Event) → OfSource P place event → AllByRecursion Heard (heard_from place at event)
  all_heard_from (Danh mac mode) at event source = tt
  all_heard_from (RedBox mac mode) at (Send from dst vlan seen payload) source = tt
  all_heard_from (RedBox mac mode) at (Supervise about) source = tt
  all_heard_from (RedBox mac mode) at Age source = tt
  all_heard_from (RedBox mac mode) at (Arrive zero copy) source = tt
  all_heard_from (RedBox mac mode) at (Arrive (suc zero) copy) source = tt
  all_heard_from (RedBox mac mode) at (Arrive (suc (suc zero)) copy) source = by_seen (came copy) refl
    where
      by_seen : (seen : Came) → came copy ≡ seen → AllByRecursion Heard (source_in mac at seen)
      by_seen (Err fault) is = tt
      by_seen (Ok (Tagged t)) is = tt
      by_seen (Ok (Plain f)) is = by_own (is_same_address f.src mac)
        where
          by_own : (own : Bool) → AllByRecursion Heard (if own then [] else (f.src, at) ∷ [])
          by_own true = tt
          by_own false = (source refl refl f is, tt)
  all_heard_from (RedBox mac mode) at (Arrive (suc (suc (suc n))) copy) source =
      let S : Option BoxPort → Type 0 = λ o. AllByRecursion Heard (source_at o mac at (came copy)) in
      subst S (sym (no_box_port (suc (suc (suc n))) (omega arith))) tt
  all_heard_from QuadBox at event source = tt
  all_heard_from (Station macs) at event source = tt

  all_heard : (place : Place) (h : List Entry) → Each (λ x past. OfSource P place x.event) h → AllByRecursion Heard (heard place h)
  all_heard place [] sources = tt
  all_heard place (x ∷ past) sources = both_all (heard_from place (now (x ∷ past)) x.event) (heard place past) (all_heard_from place (now (x ∷ past)) x.event sources.0) (all_heard place past sources.1)

  all_latest : (hs : List (List ℕ × ℕ)) → AllByRecursion Heard hs → AllByRecursion Heard (latest_of_each (λ h. h.0) hs)
  all_latest [] all = tt
  all_latest (h ∷ hs) all = (all.0, all_filter Heard (λ x. not (is_same_address x.0 h.0)) (latest_of_each (λ h. h.0) hs) (all_latest hs all.1))

  none_same : (mac : List ℕ) → (P mac → ⊥) → (hs : List (List ℕ × ℕ)) → AllByRecursion Heard hs → list_any (λ h. is_same_address h.0 mac) hs ≡ false
  none_same mac other [] all = refl
  none_same mac other (h ∷ hs) all =
      ⊎_elim (λ same. absurd (other (subst P (same_address h.0 mac same) all.0)))
      (λ differs. ap (λ b. b || list_any (λ h. is_same_address h.0 mac) hs) differs ∙ none_same mac other hs all.1)
      (cases_Bool (is_same_address h.0 mac))

  unknown : (place : Place) (past : List Entry) (at : ℕ) (event : Event) (mac : List ℕ) → (P mac → ⊥) → OfSource P place event → Each (λ x past. OfSource P place x.event) past → knows place past at event mac ≡ false
  unknown place past at event mac other source sources =
      let hs : List (List ℕ × ℕ) = heard_from place at event ++ heard place past in
      let all = both_all (heard_from place at event) (heard place past) (all_heard_from place at event source) (all_heard place past sources) in
      let latest = all_take Heard 64 (latest_of_each (λ h. h.0) hs) (all_latest hs all) in
      none_same mac other (known at (latest_heard (λ h. h.0) hs)) (all_filter Heard (λ r. is_young at r.1) (latest_heard (λ h. h.0) hs) latest)

  -- at each entry it isn't known, and wasn't just before it
  pub each_unknown : (owner : Owner) (send : Probe) (mac : List ℕ) → (P mac → ⊥) → (h : List Entry) → Each (λ x past. OfSource P owner.place x.event) h → Each (MayKnow owner send (Unknown mac)) h
  each_unknown owner send mac other [] sources = tt
  each_unknown owner send mac other (x ∷ past) sources = ((λ mine. unknown owner.place past (now (x ∷ past)) x.event mac other sources.0 sources.1), each_unknown owner send mac other past sources.1)

  pub each_unknown_before : (owner : Owner) (mac : List ℕ) → (P mac → ⊥) → (h : List Entry) → Each (λ x past. OfSource P owner.place x.event) h → Each (UnknownBefore owner mac) h
  each_unknown_before owner mac other [] sources = tt
  each_unknown_before owner mac other (x ∷ past) sources = (unknown owner.place past (now (x ∷ past)) Age mac other tt sources.1, each_unknown_before owner mac other past sources.1)
