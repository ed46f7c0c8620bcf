-- What is spelled as a frame is read as it.
use Rattle.std.proofs.Common.{Result, Ok, Err, ◌≡◌, ◌≢◌, ℕ, ◌+◌, ◌*◌, ◌%◌, ◌/◌, ◌^◌, ◌<◌, ◌≤◌, List, [], ◌∷◌, length, slice_index, Some, None, Option, refl, sym, ap, subst, ◌∙◌, arith}
use Rattle.std.proofs.lemmas.Bool.Decides.{nat_tests}
use Rattle.std.specs.Prelude.{IfSome, IfOk, IfErr}
use Rattle.std.proofs.lemmas.Bool.{ne_eqb}
use Rattle.hsr_frame.specs.declared.fault.FrameFault.{FrameFault}
use Rattle.hsr_frame.specs.declared.raw.Raw.{Raw}
use Rattle.hsr_frame.proofs.Cells.{cells_of_6}
use Rattle.hsr_frame.specs.Address.{IsGroup}
use Rattle.hsr_frame.specs.Layout.{ethertype_vlan, max_rest}
use Rattle.hsr_frame.specs.Grammar.{Fields, spelling, IsRaw, raw_fault, fields_of}

abbrev pub of_cells : (d s : List ℕ) (vlan : Option ℕ) (ethertype : ℕ) (rest : List ℕ) → Fields
of_cells d s vlan ethertype rest = record {
  dst = slice_index d 0 ∷ slice_index d 1 ∷ slice_index d 2 ∷ slice_index d 3 ∷ slice_index d 4 ∷ slice_index d 5 ∷ [];
  src = slice_index s 0 ∷ slice_index s 1 ∷ slice_index s 2 ∷ slice_index s 3 ∷ slice_index s 4 ∷ slice_index s 5 ∷ [];
  vlan = vlan;
  kind = ethertype;
  rest = rest;
}

pair_number : (n : ℕ) → n < 2 ^ 16 → n / 256 % 256 * 256 + n % 256 ≡ n
pair_number n lt = omega arith

plain_fault : (d s : List ℕ) (ethertype : ℕ) (rest : List ℕ) → ¬ IsGroup s → ethertype < 2 ^ 16 → ethertype ≢ ethertype_vlan → length rest ≤ max_rest → raw_fault (spelling (of_cells d s None ethertype rest)) ≡ None
plain_fault d s ethertype rest station fits one len = grind (arith, nat_tests)

tagged_fault : (d s : List ℕ) (control ethertype : ℕ) (rest : List ℕ) → ¬ IsGroup s → ethertype < 2 ^ 16 → ethertype ≢ ethertype_vlan → length rest ≤ max_rest → raw_fault (spelling (of_cells d s (Some control) ethertype rest)) ≡ None
tagged_fault d s control ethertype rest station fits one len = grind (arith, nat_tests)

plain_fields : (d s : List ℕ) (ethertype : ℕ) (rest : List ℕ) → ethertype < 2 ^ 16 → ethertype ≢ ethertype_vlan → fields_of (spelling (of_cells d s None ethertype rest)) ≡ of_cells d s None ethertype rest
plain_fields d s ethertype rest fits one =
    let number = pair_number ethertype fits in
    let plain = ne_eqb (ethertype / 256 % 256 * 256 + ethertype % 256) ethertype_vlan (λ e. one (omega arith)) in
    rw (plain, number) refl

tagged_fields : (d s : List ℕ) (control ethertype : ℕ) (rest : List ℕ) → control < 2 ^ 16 → ethertype < 2 ^ 16 → fields_of (spelling (of_cells d s (Some control) ethertype rest)) ≡ of_cells d s (Some control) ethertype rest
tagged_fields d s control ethertype rest small fits = rw (pair_number control small, pair_number ethertype fits) refl

by_cells : (d s : List ℕ) (vlan : Option ℕ) (ethertype : ℕ) (rest : List ℕ) → IfSome vlan (λ control. control < 2 ^ 16) → ¬ IsGroup s → ethertype < 2 ^ 16 → ethertype ≢ ethertype_vlan → length rest ≤ max_rest
    → (raw_fault (spelling (of_cells d s vlan ethertype rest)) ≡ None) × (fields_of (spelling (of_cells d s vlan ethertype rest)) ≡ of_cells d s vlan ethertype rest)
by_cells d s None ethertype rest small station fits one len = (plain_fault d s ethertype rest station fits one len, plain_fields d s ethertype rest fits one)
by_cells d s (Some control) ethertype rest small station fits one len = (tagged_fault d s control ethertype rest station fits one len, tagged_fields d s control ethertype rest small fits)

-- what is spelled as a frame has no fault, and its fields are the frame's
again : (f : Fields) → IsRaw f → (raw_fault (spelling f) ≡ None) × (fields_of (spelling f) ≡ f)
again f w =
    let cells = by_cells f.dst f.src f.vlan f.kind f.rest w.vlan w.station w.kind w.one_tag w.rest in
    let one : of_cells f.dst f.src f.vlan f.kind f.rest ≡ record { dst = f.dst; src = (of_cells f.dst f.src f.vlan f.kind f.rest).src; vlan = f.vlan; kind = f.kind; rest = f.rest }
    = ap (λ (x : List ℕ). record { dst = x; src = (of_cells f.dst f.src f.vlan f.kind f.rest).src; vlan = f.vlan; kind = f.kind; rest = f.rest }) (sym (cells_of_6 f.dst w.dst)) in
    let two : of_cells f.dst f.src f.vlan f.kind f.rest ≡ f
    = one ∙ ap (λ (x : List ℕ). record { dst = f.dst; src = x; vlan = f.vlan; kind = f.kind; rest = f.rest }) (sym (cells_of_6 f.src w.src)) in
    subst (λ (g : Fields). (raw_fault (spelling g) ≡ None) × (fields_of (spelling g) ≡ g)) two cells

-- what is spelled as a frame is read as it
pub only_frame : (octets : List ℕ) (r : Result Raw FrameFault) → IfOk r (λ r. (raw_fault octets ≡ None) × (r ≡ fields_of octets)) → IfErr r (λ e. raw_fault octets ≡ Some e)
    → (f : Fields) → IsRaw f → octets ≡ spelling f → r ≡ Ok f
only_frame octets (Ok r) found fault f w e = ap Ok (found.1 ∙ ap fields_of e ∙ (again f w).1)
only_frame octets (Err x) found fault f w e =
    let none : raw_fault octets ≡ None = ap raw_fault e ∙ (again f w).0 in
    absurd cc
