-- What is read of the octets that a node writes and passes.
use Rattle.std.proofs.Common.{◌≡◌, ℕ, ◌+◌, ◌%◌, ◌≤◌, ◌==◌, ◌||◌, ◌&&◌, Bool, true, false, if◌then◌else◌, List, [], ◌∷◌, length, Option, Some, None, Ok, refl, sym, ap, ◌∙◌, subst, arith, length-take, eq-eqb, nat_lt, length-drop, ltb-false, ltb-true}
use Rattle.std.specs.Prelude.{slice_index, drop}
use Rattle.std.specs.Option.{option_or}
use Rattle.std.proofs.lemmas.Bool.{false≢true, or_parts}
use Rattle.hsr_frame.specs.Cases.{first_of, unless}
use Rattle.hsr_frame.specs.Grammar.{Fields, spelling, raw_fault, fields_of, head_len, has_vlan, number_at}
use Rattle.hsr_frame.specs.declared.fault.FrameFault.{FrameFault}
use Rattle.hsr_frame.specs.declared.fault.FrameFault.TheVariants.{Short, Long, GroupSource, DoubleVlan}
use Rattle.hsr_frame.proofs.Cells.{cells_of_6}
use Rattle.hsr_tag.specs.Seen.{classified, frame_fault, seen_in, tag_fault, tagged_of}
use Rattle.hsr_tag.specs.Tag.{tag_octets, tag_of, tagged_spelling}
use Rattle.hsr_tag.specs.declared.seen.Seen.{Seen}
use Rattle.hsr_tag.specs.declared.seen.Seen.TheVariants.{Plain, Tagged}
use Rattle.hsr_node.specs.Copies.{as_came}

-- octets that are read are no shorter and no longer than a frame, and are the frame of their fields
record IsRead (octets : List ℕ) (seen : Seen) : Type 0 where
  fields : seen_in (fields_of octets) ≡ seen
  long : 14 ≤ length octets
  short : length octets ≤ 1524

pub accepted : {A E : Type 0} (o : Option E) (x y : A) → unless o x ≡ Ok y → (o ≡ None) × (x ≡ y)
accepted None x y e = (refl, cc)
accepted (Some fault) x y e = absurd cc

pub none_before : {A : Type 0} (o other : Option A) → option_or o other ≡ None → o ≡ None
none_before None other e = refl
none_before (Some x) other e = absurd cc

first_two : (p q : Bool) (x y : FrameFault) (rest : List (Bool × Option FrameFault)) → first_of ((p, Some x) ∷ (q, Some y) ∷ rest) None ≡ None → (p ≡ false) × (q ≡ false)
first_two true q x y rest e = absurd cc
first_two false true x y rest e = absurd cc
first_two false false x y rest e = (refl, refl)

head_short : (octets : List ℕ) → head_len octets ≤ 18
head_short octets = by_vlan (has_vlan octets)
  where
    by_vlan : (b : Bool) → (if b then 18 else 14) ≤ 18
    by_vlan true = omega arith
    by_vlan false = omega arith

is_read : (octets : List ℕ) (seen : Seen) → classified octets ≡ Ok seen → IsRead octets seen
unfolding classified
is_read octets seen e =
    let parts = accepted (frame_fault octets) (seen_in (fields_of octets)) seen e in
    let raw = none_before (raw_fault octets) (tag_fault (fields_of octets)) parts.0 in
    let both = first_two (nat_lt (length octets) 14 || (has_vlan octets && nat_lt (length octets) 18)) (nat_lt (head_len octets + 1506) (length octets)) Short Long
    ((slice_index octets 6 % 2 == 1, Some GroupSource) ∷ (has_vlan octets && (number_at 16 octets == 0x8100), Some DoubleVlan) ∷ []) raw in
    let short = ltb-false (head_len octets + 1506) (length octets) both.1 in
    let long = ltb-false (length octets) 14 (or_parts (nat_lt (length octets) 14) _ both.0).0 in
    let head = head_short octets in
    record { fields = parts.1; long = omega arith; short = omega arith }

-- a frame that was read leaves as it came
pub came_fits : (octets : List ℕ) (seen : Seen) → classified octets ≡ Ok seen → as_came octets ≡ Some octets
came_fits octets seen e = let r = is_read octets seen e in let short = r.short in fits (nat_lt 1524 (length octets)) refl short
  where
    fits : (b : Bool) → nat_lt 1524 (length octets) ≡ b → length octets ≤ 1524 → (if b then None else Some octets) ≡ Some octets
    fits true e short = let long = ltb-true 1524 (length octets) e in absurd (omega arith)
    fits false e short = refl

-- ---- a frame that is written with a tag isn't read as the same frame with none

cells : List ℕ → List ℕ
cells xs = slice_index xs 0 ∷ slice_index xs 1 ∷ slice_index xs 2 ∷ slice_index xs 3 ∷ slice_index xs 4 ∷ slice_index xs 5 ∷ []

tag_kind : (d s : List ℕ) (vlan : Option ℕ) (rest : List ℕ) → (fields_of (spelling (record { dst = cells d; src = cells s; vlan = vlan; kind = 0x892F; rest = rest }))).kind ≡ 0x892F
unfolding cells
tag_kind d s None rest = refl
tag_kind d s (Some control) rest = refl

is_cells : (xs : List ℕ) → length xs ≡ 6 → xs ≡ cells xs
unfolding cells
is_cells xs h = cells_of_6 xs h

-- the kind of what is read plain is no tag's
plain_kind : (f g : Fields) → seen_in f ≡ Plain g → (f ≡ g) × (f.kind ≡ 0x892F → ⊥)
plain_kind f g e = by_kind (f.kind == 0x892F) refl e
  where
    by_kind : (b : Bool) → (f.kind == 0x892F) ≡ b → (if b then Tagged (tagged_of f) else Plain f) ≡ Plain g → (f ≡ g) × (f.kind ≡ 0x892F → ⊥)
    by_kind true k e = absurd cc
    by_kind false k e = (cc, λ h. false≢true (sym k ∙ eq-eqb f.kind 0x892F h))

pub never_plain : (f : Fields) (path seq : ℕ) → classified (tagged_spelling (tag_of f path seq)) ≡ Ok (Plain f) → ⊥
never_plain f path seq e =
    let octets : List ℕ = tagged_spelling (tag_of f path seq) in
    let r = is_read octets (Plain f) e in
    let long = r.long in
    let two = plain_kind (fields_of octets) f r.fields in
    let dst : length f.dst ≡ 6 = ap length (ap (λ (g : Fields). g.dst) (sym two.0)) ∙ (length-take 6 octets ∙ omega (arith, long)) in
    let src : length f.src ≡ 6 = ap length (ap (λ (g : Fields). g.src) (sym two.0)) ∙ (length-take 6 (drop 6 octets) ∙ omega (arith, long, length-drop 6 octets)) in
    let rest : List ℕ = tag_octets (tag_of f path seq) in
    let K : List ℕ → List ℕ → Type 0 = λ d s. (fields_of (spelling (record { dst = d; src = s; vlan = f.vlan; kind = 0x892F; rest = rest }))).kind ≡ 0x892F in
    let there : K (cells f.dst) (cells f.src) = tag_kind f.dst f.src f.vlan rest in
    two.1 (subst (λ d. K d f.src) (sym (is_cells f.dst dst)) (subst (λ s. K (cells f.dst) s) (sym (is_cells f.src src)) there))
