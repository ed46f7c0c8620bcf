-- Zeros for what wasn't captured.
use Rattle.std.proofs.Common.{◌≡◌, ℕ, ◌+◌, ◌-◌, ◌<◌, ◌≤◌, Bool, true, false, ltb, List, [], ◌∷◌, ◌++◌, length, replicate, Err, refl, sym, ap, ◌∙◌, append_assoc, length-append, arith}
use Rattle.std.proofs.lemmas.List.{length-replicate, replicate_more}
use Rattle.std.proofs.lemmas.Bool.{le-ltb, lt-ltb}
use Rattle.hsr_frame.specs.Grammar.{has_vlan}
use Rattle.hsr_frame.specs.declared.fault.FrameFault.TheVariants.{Long}
use Rattle.hsr_tag.specs.Seen.{classified}
use Rattle.hsr_capture_reader.specs.Fields.{PacketFields}
use Rattle.hsr_frame_copies.specs.Contents.{filled}

-- one more zero behind octets
pub one_more_zero : (filled octets : List ℕ) (i : ℕ) → length octets ≤ i → filled ≡ octets ++ replicate (i - length octets) 0 → filled ++ 0 ∷ [] ≡ octets ++ replicate (i + 1 - length octets) 0
one_more_zero filled octets i le is =
    let more : i + 1 - length octets ≡ i - length octets + 1 = omega arith in
    ap (λ (xs : List ℕ). xs ++ 0 ∷ []) is ∙ append_assoc octets (replicate (i - length octets) 0) (0 ∷ [])
    ∙ ap (λ (xs : List ℕ). octets ++ xs) (replicate_more (i - length octets) 0) ∙ ap (λ n. octets ++ replicate n 0) (sym more)

-- so many octets are no frame, whether they have a VLAN tag or not
long_with : (octets : List ℕ) (b : Bool) → has_vlan octets ≡ b → 1524 < length octets → classified octets ≡ Err Long
unfolding classified
long_with octets true is long =
    let plain : ltb (length octets) 14 ≡ false = le-ltb (length octets) 14 (omega arith) in
    let tagged : ltb (length octets) 18 ≡ false = le-ltb (length octets) 18 (omega arith) in
    let over : ltb 1524 (length octets) ≡ true = lt-ltb 1524 (length octets) long in
    rw (is, plain, tagged, over) refl
long_with octets false is long =
    let plain : ltb (length octets) 14 ≡ false = le-ltb (length octets) 14 (omega arith) in
    let over : ltb 1520 (length octets) ≡ true = lt-ltb 1520 (length octets) (omega arith) in
    rw (is, plain, over) refl

pub too_long : (p : PacketFields) → length p.octets < p.length → 1524 < p.length → classified (filled p) ≡ Err Long
too_long p cut long =
    let all : length (filled p) ≡ p.length = omega (arith, length-append p.octets (replicate (p.length - length p.octets) 0), length-replicate {A = ℕ} (p.length - length p.octets) 0) in
    long_with (filled p) (has_vlan (filled p)) refl (omega arith)
