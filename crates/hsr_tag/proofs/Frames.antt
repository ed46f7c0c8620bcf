-- What is spelled as a frame, tagged or not, is seen as it.
use Rattle.std.proofs.Common.{◌≡◌, ℕ, ◌+◌, ◌*◌, ◌%◌, ◌/◌, ◌^◌, ◌<◌, List, Some, None, Option, Result, Ok, Err, refl, sym, ap, ◌∙◌, inl, inr, arith}
use Rattle.std.proofs.lemmas.Bool.Decides.{nat_tests}
use Rattle.std.specs.Prelude.{IfOk, IfErr, ◌⊎◌}
use Rattle.std.specs.Option.{option_or}
use Rattle.hsr_frame.specs.declared.fault.FrameFault.{FrameFault}
use Rattle.hsr_frame.specs.Cases.{unless}
use Rattle.hsr_frame.specs.Grammar.{Fields, IsRaw, spelling, raw_fault, raw_of, fields_of}
use Rattle.hsr_tag.specs.declared.seen.Seen.{Seen}
use Rattle.hsr_tag.specs.declared.seen.Seen.TheVariants.{Plain, Tagged}
use Rattle.hsr_tag.specs.Tag.{TaggedFields, IsPlain, IsTagged, tagged_spelling, with_tag}
use Rattle.hsr_tag.specs.Seen.{IsFaultyText, IsPlainText, IsReadOneWay, IsTaggedText, Sees, Spells, classified, frame_fault, seen_in, tag_fault, tagged_of}

-- ---- the parts of an answer

read : (o : Option FrameFault) (g f : Fields) → Ok f ≡ unless o g → unless (option_or o (tag_fault g)) (seen_in g) ≡ unless (tag_fault f) (seen_in f)
read None g f e = let same : g ≡ f = cc in ap (λ (x : Fields). unless (tag_fault x) (seen_in x)) same
read (Some x) g f e = absurd cc

refused : (o : Option FrameFault) (g : Fields) (x : FrameFault) → Err x ≡ unless o g → unless (option_or o (tag_fault g)) (seen_in g) ≡ Err x
refused None g x e = absurd cc
refused (Some y) g x e = let same : y ≡ x = cc in ap (λ (z : FrameFault). unless (Some z) (seen_in g)) same

-- what the type on says is the answer
pub seen_answer : (g : Fields) (r : Result Seen FrameFault) → IfOk r (λ s. (tag_fault g ≡ None) × (s ≡ seen_in g)) → IfErr r (λ e. tag_fault g ≡ Some e)
    → r ≡ unless (tag_fault g) (seen_in g)
seen_answer g (Ok s) found fault = rw found.0 (ap Ok found.1)
seen_answer g (Err x) found fault = rw fault refl

pub classified-ok : (octets : List ℕ) (f : Fields) → Ok f ≡ raw_of octets → classified octets ≡ unless (tag_fault f) (seen_in f)
unfolding classified
classified-ok octets f e = read (raw_fault octets) (fields_of octets) f e

pub classified-err : (octets : List ℕ) (x : FrameFault) → Err x ≡ raw_of octets → classified octets ≡ Err x
unfolding classified
classified-err octets x e = refused (raw_fault octets) (fields_of octets) x e

pub spells : (octets : List ℕ) (f : Fields) (r : Result Seen FrameFault) → octets ≡ spelling f → IfOk r (λ s. Sees f s) → IfOk r (λ s. Spells octets s)
spells octets f (Ok (Plain g)) e sees = (sees.0, e ∙ ap spelling (sym sees.1))
spells octets f (Ok (Tagged t)) e sees = (sees.0, e ∙ ap spelling (sym sees.1))
spells octets f (Err x) e sees = tt

-- ---- frames that are spelled

plain_right : (f : Fields) → IsPlain f → tag_fault f ≡ None
plain_right f w = grind (arith, nat_tests)

plain_seen : (f : Fields) → IsPlain f → seen_in f ≡ Plain f
plain_seen f w = grind (arith, nat_tests)

pub seen-plain : (f : Fields) → IsPlain f → unless (tag_fault f) (seen_in f) ≡ Ok (Plain f)
seen-plain f w = rw (plain_right f w, plain_seen f w) refl

pub tagged_raw : (t : TaggedFields) → IsTagged t → IsRaw (with_tag t)
tagged_raw t w = record {
  dst = w.dst;
  src = w.src;
  vlan = w.vlan;
  kind = omega arith;
  rest = omega (arith, w.payload);
  station = w.station;
  one_tag = λ e. absurd (omega arith);
}

tagged_right : (t : TaggedFields) → IsTagged t → tag_fault (with_tag t) ≡ None
tagged_right t w = grind (arith, nat_tests)

pair_number : (n : ℕ) → n < 2 ^ 16 → n / 256 % 256 * 256 + n % 256 ≡ n
pair_number n lt = omega arith

-- the tag's octets have its fields at their places
tagged_of-with_tag : (t : TaggedFields) → IsTagged t → tagged_of (with_tag t) ≡ t
tagged_of-with_tag t w =
    let first = pair_number (t.path * 4096 + t.size) (omega (arith, w.path, w.size)) in
    let path : (t.path * 4096 + t.size) / 4096 ≡ t.path = omega (arith, w.size) in
    let size : (t.path * 4096 + t.size) % 4096 ≡ t.size = omega (arith, w.size) in
    rw (first, path, size, pair_number t.seq w.seq, pair_number t.kind w.kind) refl

pub seen-tagged : (t : TaggedFields) → IsTagged t → unless (tag_fault (with_tag t)) (seen_in (with_tag t)) ≡ Ok (Tagged t)
seen-tagged t w = rw (tagged_right t w, tagged_of-with_tag t w) refl

-- ---- one way to read

faulty : (octets : List ℕ) (s : Seen) (e : FrameFault) → Ok s ≡ classified octets → frame_fault octets ≡ Some e → ⊥
unfolding classified
faulty octets s e is h = let other : classified octets ≡ Err e = rw h refl in absurd cc

a_fault : (octets : List ℕ) (e : FrameFault) → Err e ≡ classified octets → frame_fault octets ≡ Some e
unfolding classified
a_fault octets e is = of_err (frame_fault octets) (seen_in (fields_of octets)) e is
  where
    of_err : (o : Option FrameFault) (s : Seen) (x : FrameFault) → Err x ≡ unless o s → o ≡ Some x
    of_err None s x e = absurd cc
    of_err (Some y) s x e = cc

pub read_one_way : (octets : List ℕ) (r : Result Seen FrameFault) → r ≡ classified octets → IfOk r (λ s. Spells octets s)
    → ((f : Fields) → IsPlain f → octets ≡ spelling f → r ≡ Ok (Plain f)) → ((t : TaggedFields) → IsTagged t → octets ≡ tagged_spelling t → r ≡ Ok (Tagged t))
    → IsReadOneWay octets
read_one_way octets r exact found plain tagged = record {
  some_way = ways r exact found;
  plain_alone = λ p. (
    λ t. let one = plain p.0 p.1 p.2 in let other = tagged t.0 t.1 t.2 in absurd cc,
    λ e. faulty octets (Plain p.0) e.0 (sym (plain p.0 p.1 p.2) ∙ exact) e.1,
  );
  tagged_alone = λ t e. faulty octets (Tagged t.0) e.0 (sym (tagged t.0 t.1 t.2) ∙ exact) e.1;
}
  where
    ways : (r : Result Seen FrameFault) → r ≡ classified octets → IfOk r (λ s. Spells octets s) → IsPlainText octets ⊎ IsTaggedText octets ⊎ IsFaultyText octets
    ways (Ok (Plain f)) is s = inl (f, s.0, s.1)
    ways (Ok (Tagged t)) is s = inr (inl (t, s.0, s.1))
    ways (Err e) is s = inr (inr (e, a_fault octets e is))
