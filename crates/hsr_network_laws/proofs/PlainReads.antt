-- What is read of plain frames: a frame that is written plain isn't read as the same frame with a tag.
use Rattle.std.proofs.Common.{◌≡◌, ℕ, ◌+◌, ◌-◌, ◌%◌, ◌≤◌, ◌==◌, ◌&&◌, ◌||◌, Bool, true, false, if◌then◌else◌, List, [], ◌∷◌, length, Option, Some, None, Ok, refl, sym, ap, ◌∙◌, subst, arith, length-take, length-drop, length-append, nat_lt, ltb-false}
use Rattle.std.specs.Prelude.{slice_index, drop}
use Rattle.std.specs.Option.{option_or}
use Rattle.std.proofs.lemmas.Bool.{or_parts}
use Rattle.hsr_frame.specs.Cases.{first_of}
use Rattle.hsr_frame.specs.Grammar.{Fields, fields_of, has_vlan, head_len, number_at, raw_fault, spelling}
use Rattle.hsr_frame.specs.declared.fault.FrameFault.{FrameFault}
use Rattle.hsr_frame.specs.declared.fault.FrameFault.TheVariants.{DoubleVlan, GroupSource, Long, NestedTag, Short, ShortTag}
use Rattle.hsr_tag.specs.Seen.{classified, frame_fault, seen_in, tag_fault, tagged_of}
use Rattle.hsr_tag.specs.Tag.{TaggedFields, untag_of}
use Rattle.hsr_tag.specs.declared.seen.Seen.TheVariants.{Plain, Tagged}
use Rattle.hsr_run_laws.proofs.Written.{accepted, none_before}

-- ---- what is read

first_not : (b : Bool) (x : FrameFault) (rest : List (Bool × Option FrameFault)) → first_of ((b, Some x) ∷ rest) None ≡ None → b ≡ false
first_not true x rest e = absurd cc
first_not false x rest e = refl

-- it has as many octets as a frame at least
long_enough : (octets : List ℕ) → raw_fault octets ≡ None → 14 ≤ length octets
long_enough octets raw =
    let short = first_not (nat_lt (length octets) 14 || (has_vlan octets && nat_lt (length octets) 18)) Short
    ((nat_lt (head_len octets + 1506) (length octets), Some Long) ∷ (slice_index octets 6 % 2 == 1, Some GroupSource) ∷ (has_vlan octets && (number_at 16 octets == 0x8100), Some DoubleVlan) ∷ []) raw in
    ltb-false (length octets) 14 (or_parts (nat_lt (length octets) 14) _ short).0

-- ---- a frame that is written plain isn't read as the same frame with a tag

record IsTaggedRead (octets : List ℕ) (t : TaggedFields) : Type 0 where
  same : tagged_of (fields_of octets) ≡ t
  room : 6 ≤ length (fields_of octets).rest
  long : 14 ≤ length octets

tagged_parts : (g : Fields) (t : TaggedFields) → tag_fault g ≡ None → seen_in g ≡ Tagged t → (tagged_of g ≡ t) × (6 ≤ length g.rest)
tagged_parts g t fine e = by_kind (g.kind == 0x892F) fine e
  where
    by_size : (b : Bool) → nat_lt (length g.rest) 6 ≡ b → (other : Option FrameFault) → first_of ((b, Some ShortTag) ∷ []) other ≡ None → 6 ≤ length g.rest
    by_size true is other h = absurd cc
    by_size false is other h = ltb-false (length g.rest) 6 is

    by_kind : (b : Bool) → (if b
        then first_of ((nat_lt (length g.rest) 6, Some ShortTag) ∷ (number_at 4 g.rest == 0x892F, Some NestedTag) ∷ (number_at 4 g.rest == 0x8100, Some DoubleVlan) ∷ []) None
        else first_of ((nat_lt 1500 (length g.rest), Some Long) ∷ []) None) ≡ None → (if b then Tagged (tagged_of g) else Plain g) ≡ Tagged t → (tagged_of g ≡ t) × (6 ≤ length g.rest)
    by_kind true fine e = (cc, by_size (nat_lt (length g.rest) 6) refl (first_of ((number_at 4 g.rest == 0x892F, Some NestedTag) ∷ (number_at 4 g.rest == 0x8100, Some DoubleVlan) ∷ []) None) fine)
    by_kind false fine e = absurd cc

tagged_read : (octets : List ℕ) (t : TaggedFields) → classified octets ≡ Ok (Tagged t) → IsTaggedRead octets t
unfolding classified
tagged_read octets t e =
    let parts = accepted (frame_fault octets) (seen_in (fields_of octets)) (Tagged t) e in
    let raw = none_before (raw_fault octets) (tag_fault (fields_of octets)) parts.0 in
    let fine : tag_fault (fields_of octets) ≡ None = sym (ap (λ o. option_or o (tag_fault (fields_of octets))) raw) ∙ parts.0 in
    let two = tagged_parts (fields_of octets) t fine parts.1 in
    record { same = two.0; room = two.1; long = long_enough octets raw }

spelling_length : (f : Fields) (b : Bool) (control : ℕ) → f.vlan ≡ (if b then Some control else None) → length (spelling f) ≡ length f.dst + (length f.src + ((if b then 6 else 2) + length f.rest))
spelling_length f true control e =
    let P : Option ℕ → Type 0 = λ v. length (spelling (record { dst = f.dst; src = f.src; vlan = v; kind = f.kind; rest = f.rest })) ≡ length f.dst + (length f.src + (6 + length f.rest)) in
    subst P (sym e) (simp (length-append) (omega arith))
spelling_length f false control e =
    let P : Option ℕ → Type 0 = λ v. length (spelling (record { dst = f.dst; src = f.src; vlan = v; kind = f.kind; rest = f.rest })) ≡ length f.dst + (length f.src + (2 + length f.rest)) in
    subst P (sym e) (simp (length-append) (omega arith))

pub never_tagged : (f : Fields) (t : TaggedFields) → classified (spelling f) ≡ Ok (Tagged t) → untag_of t ≡ f → ⊥
never_tagged f t e is =
    let octets : List ℕ = spelling f in
    let r = tagged_read octets t e in
    let long = r.long in
    let room = r.room in
    let g : Fields = fields_of octets in
    let same : f ≡ untag_of (tagged_of g) = sym is ∙ ap untag_of (sym r.same) in
    let dst : length f.dst ≡ 6 = ap (λ (h : Fields). length h.dst) same ∙ (length-take 6 octets ∙ omega (arith, long)) in
    let src : length f.src ≡ 6 = ap (λ (h : Fields). length h.src) same ∙ (length-take 6 (drop 6 octets) ∙ omega (arith, long, length-drop 6 octets)) in
    let vlan : f.vlan ≡ (if has_vlan octets then Some (number_at 14 octets) else None) = ap (λ (h : Fields). h.vlan) same in
    let rest : length f.rest ≡ length g.rest - 6 = ap (λ (h : Fields). length h.rest) same ∙ length-drop 6 g.rest in
    let head : length g.rest ≡ length octets - head_len octets = length-drop (head_len octets) octets in
    let whole = spelling_length f (has_vlan octets) (number_at 14 octets) vlan in
    none (has_vlan octets) (length octets) (length g.rest) (length f.rest) (length f.dst) (length f.src) whole dst src rest head room
  where
    none : (b : Bool) (n m l d s : ℕ) → n ≡ d + (s + ((if b then 6 else 2) + l)) → d ≡ 6 → s ≡ 6 → l ≡ m - 6 → m ≡ n - (if b then 18 else 14) → 6 ≤ m → ⊥
    none true n m l d s whole dst src rest head room = omega arith
    none false n m l d s whole dst src rest head room = omega arith
