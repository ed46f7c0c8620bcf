-- What is read of octets that a node writes.
use Rattle.std.proofs.Common.{◌≡◌, ℕ, ◌<◌, Bool, true, false, List, Option, Some, None, Ok, refl, sym, ap, ◌∙◌, arith, [], length, ◌⊎◌, inl, inr, ◌==◌, if◌then◌else◌, nat_lt, eqb-true, ⊎_elim}
use Rattle.std.proofs.lemmas.Bool.{cases_Bool, cond-false, cond-true}
use Rattle.std.specs.Prelude.{IfOk, IfErr}
use Rattle.hsr_frame.proofs.Raws.{only_frame}
use Rattle.hsr_frame.specs.Cases.{unless}
use Rattle.hsr_frame.specs.Grammar.{Fields, IsRaw, fields_of, raw_fault, raw_of, spelling}
use Rattle.hsr_frame.specs.declared.fault.FrameFault.{FrameFault}
use Rattle.hsr_frame.specs.declared.node.Mode.TheVariants.{H}
use Rattle.hsr_node.specs.Copies.{as_came, forwarded, other_side, plain_in, ring_side, side_of, written}
use Rattle.hsr_node.specs.declared.place.Place.{Place}
use Rattle.hsr_node.specs.declared.place.Place.TheVariants.{Danh, RedBox, QuadBox, Station}
use Rattle.hsr_tag.proofs.Frames.{classified-ok, seen-plain, seen-tagged, tagged_raw}
use Rattle.hsr_tag.specs.Seen.{classified}
use Rattle.hsr_tag.specs.Tag.{IsPlain, IsTagged, TaggedFields, tag_of, tagged_spelling, with_tag}
use Rattle.hsr_tag.specs.declared.seen.Seen.TheVariants.{Plain, Tagged}

raw_again : (f : Fields) → IsRaw f → raw_of (spelling f) ≡ Ok f
raw_again f w = only_frame (spelling f) (raw_of (spelling f)) (found (raw_fault (spelling f)) refl) (faulty (raw_fault (spelling f)) refl) f w refl
  where
    found : (o : Option FrameFault) → raw_fault (spelling f) ≡ o → IfOk (unless o (fields_of (spelling f))) (λ r. (raw_fault (spelling f) ≡ None) × (r ≡ fields_of (spelling f)))
    found None e = (e, refl)
    found (Some x) e = tt

    faulty : (o : Option FrameFault) → raw_fault (spelling f) ≡ o → IfErr (unless o (fields_of (spelling f))) (λ x. raw_fault (spelling f) ≡ Some x)
    faulty None e = tt
    faulty (Some x) e = e

pub plain_read : (f : Fields) → IsPlain f → classified (spelling f) ≡ Ok (Plain f)
plain_read f w = classified-ok (spelling f) f (sym (raw_again f w.raw)) ∙ seen-plain f w

pub tagged_read : (t : TaggedFields) → IsTagged t → classified (tagged_spelling t) ≡ Ok (Tagged t)
tagged_read t w = classified-ok (spelling (with_tag t)) (with_tag t) (sym (raw_again (with_tag t) (tagged_raw t w))) ∙ seen-tagged t w

tag_fits : (f : Fields) (path seq : ℕ) → IsPlain f → path < 16 → seq < 65536 → IsTagged (tag_of f path seq)
tag_fits f path seq w small fits = record {
  dst = w.raw.dst;
  src = w.raw.src;
  vlan = w.raw.vlan;
  path = small;
  size = let long = w.payload in omega (arith, long);
  seq = fits;
  kind = w.raw.kind;
  payload = w.payload;
  station = w.raw.station;
  one_vlan = w.raw.one_tag;
  one_tag = w.no_tag;
}

-- a number has 16 bits
abbrev pub Fits : Option ℕ → Type 0
Fits seq = (k : ℕ) → seq ≡ Some k → k < 65536

-- octets are read as a frame, plain or with its number
pub record IsWritten (frame : Fields) (seq : Option ℕ) (octets : List ℕ) : Type 0 where
  pub read : plain_in (classified octets) ≡ Some frame
  pub number : (tagged : TaggedFields) → classified octets ≡ Ok (Tagged tagged) → seq ≡ Some tagged.seq

-- ---- where a port leads: each does as one of a RedBox's, or as one that isn't there

pub data Lead : Type 0 where
  to_a : Lead
  to_b : Lead
  to_edge : Lead
  nowhere : Lead

abbrev lead_port : Lead → ℕ
lead_port to_a = 0
lead_port to_b = 1
lead_port to_edge = 2
lead_port nowhere = 3

abbrev box : Place
box = RedBox [] H

record Leads (place : Place) (port : ℕ) : Type 0 where
  way : Lead
  is : side_of place port ≡ side_of box (lead_port way)

leads_ring : (port : ℕ) → (way : Lead) × (ring_side port ≡ side_of box (lead_port way))
leads_ring port =
    ⊎_elim (λ zero. (to_a, ap ring_side (eqb-true port 0 zero)))
    (λ more. ⊎_elim (λ one. (to_b, ap ring_side (eqb-true port 1 one))) (λ other. (nowhere, cond-false (port == 0) _ _ more ∙ cond-false (port == 1) _ _ other)) (cases_Bool (port == 1)))
    (cases_Bool (port == 0))

leads_other : (port : ℕ) → (way : Lead) × (other_side port ≡ side_of box (lead_port way))
leads_other port =
    ⊎_elim (λ two. (to_a, ap other_side (eqb-true port 2 two)))
    (λ more. ⊎_elim (λ three. (to_b, ap other_side (eqb-true port 3 three))) (λ other. (nowhere, cond-false (port == 2) _ _ more ∙ cond-false (port == 3) _ _ other)) (cases_Bool (port == 3)))
    (cases_Bool (port == 2))

leads : (place : Place) (port : ℕ) → Leads place port
leads (Danh mac mode) port = let r = leads_ring port in record { way = r.0; is = r.1 }
leads (RedBox mac mode) port =
    ⊎_elim (λ edge. record { way = to_edge; is = ap (side_of (RedBox mac mode)) (eqb-true port 2 edge) })
    (λ other. let r = leads_ring port in record { way = r.0; is = cond-false (port == 2) _ _ other ∙ r.1 })
    (cases_Bool (port == 2))
leads QuadBox port =
    ⊎_elim (λ low. let r = leads_ring port in record { way = r.0; is = cond-true (nat_lt port 2) _ _ low ∙ r.1 })
    (λ high. let r = leads_other port in record { way = r.0; is = cond-false (nat_lt port 2) _ _ high ∙ r.1 })
    (cases_Bool (nat_lt port 2))
leads (Station macs) port =
    ⊎_elim (λ edge. record { way = to_edge; is = cond-true (port == 0) _ _ edge })
    (λ other. record { way = nowhere; is = cond-false (port == 0) _ _ other })
    (cases_Bool (port == 0))

-- ---- a frame that leaves by a port

plain_is : (frame : Fields) (seq : Option ℕ) (octets : List ℕ) → IsPlain frame → spelling frame ≡ octets → IsWritten frame seq octets
plain_is frame seq octets w same =
    let read : classified octets ≡ Ok (Plain frame) = ap classified (sym same) ∙ plain_read frame w in
    record { read = ap plain_in read; number = λ t e. let both : Ok (Plain frame) ≡ Ok (Tagged t) = sym read ∙ e in absurd cc }

tagged_is : (frame : Fields) (path k : ℕ) (octets : List ℕ) → IsPlain frame → path < 16 → k < 65536 → tagged_spelling (tag_of frame path k) ≡ octets → IsWritten frame (Some k) octets
tagged_is frame path k octets w small fits same =
    let read : classified octets ≡ Ok (Tagged (tag_of frame path k)) = ap classified (sym same) ∙ tagged_read (tag_of frame path k) (tag_fits frame path k w small fits) in
    record {
      read = ap plain_in read;
      number = λ u e.
          let both : Ok (Tagged (tag_of frame path k)) ≡ Ok (Tagged u) = sym read ∙ e in
          let is : tag_of frame path k ≡ u = cc in
          ap (λ (v : TaggedFields). Some v.seq) is;
    }

written_by : (way : Lead) (seq : Option ℕ) (frame : Fields) (octets : List ℕ) → IsPlain frame → Fits seq → written (side_of box (lead_port way)) seq (Some frame) ≡ Some octets → IsWritten frame seq octets
written_by nowhere seq frame octets w fits h = absurd cc
written_by to_edge seq frame octets w fits h = plain_is frame seq octets w (let same : spelling frame ≡ octets = cc in same)
written_by to_a None frame octets w fits h = absurd cc
written_by to_b None frame octets w fits h = absurd cc
written_by to_a (Some k) frame octets w fits h = tagged_is frame 0 k octets w (omega arith) (fits k refl) (let same : tagged_spelling (tag_of frame 0 k) ≡ octets = cc in same)
written_by to_b (Some k) frame octets w fits h = tagged_is frame 1 k octets w (omega arith) (fits k refl) (let same : tagged_spelling (tag_of frame 1 k) ≡ octets = cc in same)

pub written_is : (place : Place) (port : ℕ) (seq : Option ℕ) (frame : Fields) (octets : List ℕ) → IsPlain frame → Fits seq → written (side_of place port) seq (Some frame) ≡ Some octets → IsWritten frame seq octets
written_is place port seq frame octets w fits h = let l = leads place port in written_by l.way seq frame octets w fits (ap (λ side. written side seq (Some frame)) (sym l.is) ∙ h)

-- ---- what came to a port and leaves by another: as it came, or written anew

came_same : (octets out : List ℕ) → as_came octets ≡ Some out → out ≡ octets
came_same octets out h = by_length (nat_lt 1524 (length octets)) h
  where
    by_length : (b : Bool) → (if b then None else Some octets) ≡ Some out → out ≡ octets
    by_length true h = absurd cc
    by_length false h = let same : octets ≡ out = cc in sym same

abbrev Forwarded : Lead → Option ℕ → List ℕ → List ℕ → Type 0
Forwarded to seq octets out = (out ≡ octets) ⊎ (written (side_of box (lead_port to)) seq (plain_in (classified octets)) ≡ Some out)

forwarded_by : (from to : Lead) (seq : Option ℕ) (octets out : List ℕ) → forwarded (side_of box (lead_port from)) (side_of box (lead_port to)) seq octets ≡ Some out → Forwarded to seq octets out
forwarded_by nowhere to seq octets out h = absurd cc
forwarded_by to_a to_a seq octets out h = inl (came_same octets out h)
forwarded_by to_a to_b seq octets out h = inl (came_same octets out h)
forwarded_by to_b to_a seq octets out h = inl (came_same octets out h)
forwarded_by to_b to_b seq octets out h = inl (came_same octets out h)
forwarded_by to_a to_edge seq octets out h = inr h
forwarded_by to_b to_edge seq octets out h = inr h
forwarded_by to_edge to_a seq octets out h = inr h
forwarded_by to_edge to_b seq octets out h = inr h
forwarded_by to_edge to_edge seq octets out h = inr h
forwarded_by to_a nowhere seq octets out h = absurd cc
forwarded_by to_b nowhere seq octets out h = absurd cc
forwarded_by to_edge nowhere seq octets out h = absurd cc

pub forwarded_is : (place : Place) (x port : ℕ) (seq : Option ℕ) (octets out : List ℕ) → forwarded (side_of place x) (side_of place port) seq octets ≡ Some out →
    (out ≡ octets) ⊎ (written (side_of place port) seq (plain_in (classified octets)) ≡ Some out)
forwarded_is place x port seq octets out h =
    let f = leads place x in
    let t = leads place port in
    ⊎_elim inl (λ anew. inr (ap (λ side. written side seq (plain_in (classified octets))) t.is ∙ anew))
    (forwarded_by f.way t.way seq octets out (ap (λ side. forwarded side (side_of box (lead_port t.way)) seq octets) (sym f.is) ∙ ap (λ side. forwarded (side_of place x) side seq octets) (sym t.is) ∙ h))
