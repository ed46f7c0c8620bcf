-- What supervision told a node, entry by entry.
use Rattle.std.proofs.Common.{◌≡◌, ℕ, ◌+◌, ◌||◌, Bool, true, false, cond, List, [], ◌∷◌, ◌++◌, reverse, Option, Some, None, Result, Ok, Err, refl, sym, ap, ◌∙◌}
use Rattle.std.specs.List.{list_any}
use Rattle.std.proofs.lemmas.List.{reverse-append}
use Rattle.hsr_frame.specs.declared.fault.FrameFault.{FrameFault}
use Rattle.hsr_frame.specs.declared.node.RingPort.{RingPort}
use Rattle.hsr_supervision.specs.Payload.{Fields, read_of}
use Rattle.hsr_supervision.specs.declared.payload.SupFault.{SupFault}
use Rattle.hsr_tag.specs.Seen.{classified, is_told, payload_in}
use Rattle.hsr_tag.specs.declared.seen.Seen.{Seen}
use Rattle.hsr_tables.specs.Nodes.{hearing_if}
use Rattle.hsr_node.specs.Copies.{ring_address}
use Rattle.hsr_node.specs.Record.{hearing_by, hearings, hearings_from, hears_on, now}
use Rattle.hsr_node.specs.declared.entry.Entry.{Entry}
use Rattle.hsr_node.specs.declared.event.Event.{Event}
use Rattle.hsr_node.specs.declared.event.Event.TheVariants.{Send, Supervise, Arrive, Age}
use Rattle.hsr_node.specs.declared.place.Place.{Place}
use Rattle.hsr_node.specs.declared.place.Place.TheVariants.{Danh, RedBox, QuadBox, Station}
use Rattle.hsr_devices.specs.Known.{with_own}
use Rattle.hsr_devices.specs.Told.{about_of, is_mac, told_by, told_in, told_with}
use Rattle.hsr_devices.specs.Unheard.{is_told_of, tells}

any-append : {X : Type 0} (p : X → Bool) (xs ys : List X) → list_any p (xs ++ ys) ≡ (list_any p xs || list_any p ys)
any-append p [] ys = refl
any-append p (x ∷ xs) ys = by_first (p x) (any-append p xs ys)
  where
    by_first : (b : Bool) → list_any p (xs ++ ys) ≡ (list_any p xs || list_any p ys) → (b || list_any p (xs ++ ys)) ≡ ((b || list_any p xs) || list_any p ys)
    by_first true rest = refl
    by_first false rest = rest

either : (a b : Bool) → (a || (b || false)) ≡ (b || a)
either true true = refl
either true false = refl
either false true = refl
either false false = refl

turned : {X : Type 0} (p : X → Bool) (xs : List X) → list_any p (reverse xs) ≡ list_any p xs
turned p [] = refl
turned p (x ∷ xs) =
    ap (list_any p) (reverse-append (x ∷ []) xs) ∙ (any-append p (reverse xs) (x ∷ []) ∙ (either (list_any p (reverse xs)) (p x) ∙ ap (λ b. p x || b) (turned p xs)))

module _ (mac : List ℕ) where
  by_said : (x : RingPort) (at : ℕ) (said : Result Fields SupFault) → list_any (tells mac) (hearing_if x at said) ≡ is_mac mac (about_of said)
  by_said x at (Ok said) = none (tells mac (record { said = said; port = x; at = at }))
    where
      none : (b : Bool) → (b || false) ≡ b
      none true = refl
      none false = refl
  by_said x at (Err fault) = refl

  by_told : (own : List ℕ) (x : RingPort) (at : ℕ) (seen : Result Seen FrameFault) → list_any (tells mac) (hearing_by (Some own) (Some x) at seen) ≡ is_mac mac (told_in own seen)
  by_told own x at seen = each (is_told own seen)
    where
      each : (b : Bool) → list_any (tells mac) (cond b (hearing_if x at (read_of (payload_in seen))) []) ≡ is_mac mac (cond b (about_of (read_of (payload_in seen))) None)
      each true = by_said x at (read_of (payload_in seen))
      each false = refl

  by_port : (place : Place) (o : Option RingPort) (at : ℕ) (seen : Result Seen FrameFault) → list_any (tells mac) (hearing_by (ring_address place) o at seen) ≡ is_mac mac (told_with (with_own place o) seen)
  by_port (Danh own mode) None at seen = refl
  by_port (Danh own mode) (Some x) at seen = by_told own x at seen
  by_port (RedBox own mode) None at seen = refl
  by_port (RedBox own mode) (Some x) at seen = by_told own x at seen
  by_port QuadBox None at seen = refl
  by_port QuadBox (Some x) at seen = refl
  by_port (Station macs) None at seen = refl
  by_port (Station macs) (Some x) at seen = refl

  by_event : (place : Place) (at : ℕ) (event : Event) → list_any (tells mac) (hearings_from place at event) ≡ is_mac mac (told_by place event)
  by_event place at (Arrive port copy) = by_port place (hears_on place port) at (classified copy.octets)
  by_event place at (Send from dst vlan kind payload) = refl
  by_event place at (Supervise about) = refl
  by_event place at Age = refl

  by_past : (place : Place) (past : List Entry) → is_told_of place past mac ≡ list_any (λ (x : Entry). is_mac mac (told_by place x.event)) past
  by_past place [] = refl
  by_past place (x ∷ past) =
      any-append (tells mac) (hearings_from place (now (x ∷ past)) x.event) (hearings place past)
      ∙ (ap (λ b. b || is_told_of place past mac) (by_event place (now (x ∷ past)) x.event) ∙ ap (λ b. is_mac mac (told_by place x.event) || b) (by_past place past))

  pub told_same : (place : Place) (entries : List Entry) → list_any (λ (x : Entry). is_mac mac (told_by place x.event)) entries ≡ is_told_of place (reverse entries) mac
  told_same place entries = sym (by_past place (reverse entries) ∙ turned (λ (x : Entry). is_mac mac (told_by place x.event)) entries)
