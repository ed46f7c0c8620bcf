-- Single words of entries are read as what they were written for.
use Rattle.std.proofs.Common.{◌≡◌, ℕ, zero, suc, ◌+◌, ◌*◌, ◌^◌, ◌<◌, nat_lt, Option, Some, None, IfSome, option_map, [], ◌∷◌, ◌++◌, ◌∙◌, length, refl, ap, arith, true, false, inl}
use Rattle.std.proofs.lemmas.Bool.{and_right, cond-false, cond-true}
use Rattle.std.proofs.lemmas.Bool.Decides.{nat_tests}
use Rattle.std.proofs.lemmas.Fmt.{decimal_digit}
use Rattle.std.proofs.lemmas.Nat.{from_be_bytes-to_be_bytes_2}
use Rattle.std.specs.Prelude.{codes}
use Rattle.std.specs.Fmt.{decimal}
use Rattle.std.specs.Result.{result_ok}
use Rattle.std.specs.Str.{bytes_eq}
use Rattle.hex.specs.Hex.{IsBytes, decode_sized, encode_upper, encode_with, upper_digits}
use Rattle.hex.proofs.HexLemmas.{decode_of-encode_upper, decode_sized-twice, length-encode_with}
use Rattle.hsr_frame.specs.Fault.{frame_fault_code}
use Rattle.hsr_frame.specs.Grammar.{pair}
use Rattle.hsr_text.specs.Words.{hex_pair_of, mac_text}
use Rattle.hsr_frame.specs.declared.fault.FrameFault.{FrameFault}
use Rattle.hsr_frame.specs.declared.fault.FrameFault.TheVariants.{Short, Long, GroupSource, DoubleVlan, ShortTag, NestedTag}
use Rattle.hsr_frame.specs.declared.node.Cause.{Cause}
use Rattle.hsr_frame.specs.declared.node.Cause.TheVariants.{Passed, Duplicate, Returned, Foreign, Local, Untagged, Tagged, Malformed}
use Rattle.hsr_frame.specs.declared.node.About.{About}
use Rattle.hsr_frame.specs.declared.node.About.TheVariants.{Own, Proxied}
use Rattle.hsr_node.specs.declared.event.Probe.{Probe}
use Rattle.hsr_node.specs.declared.place.Place.{Place}
use Rattle.hsr_node.specs.declared.place.Place.TheVariants.{Danh, RedBox, QuadBox, Station}
use Rattle.hsr_transcript_lines.specs.Fits.{IsAboutFit, IsNumberFit, IsProbeFit}
use Rattle.hsr_transcript_lines.specs.Parsed.{read_about, below, read_cause, read_port, read_seq, read_vlan}
use Rattle.hsr_transcript_lines.specs.Exact.{tested}
use Rattle.hsr_transcript_lines.proofs.Roles.{IsPortOf}
use Rattle.hsr_transcript_lines.specs.Spelled.{about_text, probe_text, seq_text, vlan_text}
use Rattle.hsr_node.specs.Words.{letter}
use Rattle.hsr_frame.specs.Words.{cause_text}
use Rattle.hsr_transcript_lines.proofs.Addressed.{mac_said, not_own, word_mac}
use Rattle.hsr_transcript_lines.proofs.Again.{lacks_decimal, number_again}
use Rattle.hsr_transcript_lines.proofs.WordTexts.{is_word, no_hyphen, word_decimal, word_hex, word_more}

-- ---- numbers

pub below_again : (bound n : ℕ) → n < bound → n < 2 ^ 64 → below bound (decimal n) ≡ Some n
below_again bound n h k =
    let small : nat_lt n bound ≡ true = grind (arith, nat_tests, h) in
    ap (tested (λ n. nat_lt n bound)) (number_again n k) ∙ cond-true (nat_lt n bound) (Some n) None small

pub seq_again : (seq : Option ℕ) → IsNumberFit seq → read_seq (seq_text seq) ≡ Some seq
seq_again None h = refl
seq_again (Some n) h =
    cond-false (bytes_eq (decimal n) (codes "-")) (Some None) _ (no_hyphen (decimal n) (lacks_decimal 45 n (omega arith) (inl (omega arith))))
    ∙ ap (option_map Some) (below_again (2 ^ 16) n h (omega arith))

pub word_seq : (seq : Option ℕ) → IsNumberFit seq → is_word (seq_text seq) ≡ true
word_seq None h = refl
word_seq (Some n) h = word_decimal n (omega arith)

-- ---- pairs of octets

pair_bytes : (n : ℕ) → IsBytes (pair n)
pair_bytes n zero = omega arith
pair_bytes n (suc zero) = omega arith
pair_bytes n (suc (suc i)) = omega arith

pub hex_pair_again : (n : ℕ) → n < 2 ^ 16 → hex_pair_of (encode_upper (pair n)) ≡ Some n
hex_pair_again n h =
    let len : length (encode_upper (pair n)) ≡ 2 * 2 = length-encode_with upper_digits (pair n) in
    let octets : result_ok (decode_sized (encode_upper (pair n)) 2) ≡ Some (pair n) = ap result_ok (decode_sized-twice (encode_upper (pair n)) 2 len ∙ decode_of-encode_upper (pair n) (pair_bytes n)) in
    rw octets (ap Some (from_be_bytes-to_be_bytes_2 n h))

pub word_pair : (n : ℕ) → is_word (encode_upper (pair n)) ≡ true
word_pair n = word_hex (pair n) (pair_bytes n)

four_digits : (n : ℕ) → bytes_eq (encode_upper (pair n)) (codes "-") ≡ false
unfolding encode_with
four_digits n = and_right _ _ refl

pub vlan_again : (vlan : Option ℕ) → IfSome vlan (λ control. control < 2 ^ 16) → read_vlan (vlan_text vlan) ≡ Some vlan
vlan_again None h = refl
vlan_again (Some control) h =
    cond-false (bytes_eq (encode_upper (pair control)) (codes "-")) (Some None) _ (four_digits control)
    ∙ ap (option_map Some) (hex_pair_again control h)

pub word_vlan : (vlan : Option ℕ) → is_word (vlan_text vlan) ≡ true
word_vlan None = refl
word_vlan (Some control) = word_pair control

-- ---- about whom a supervision frame tells

pub about_again : (about : About) → IsAboutFit about → read_about (about_text about) ≡ Some about
about_again Own h = refl
about_again (Proxied mac) h =
    cond-false (bytes_eq (mac_text mac) (codes "own")) (Some Own) _ (not_own mac) ∙ ap (option_map Proxied) (mac_said mac h)

pub word_about : (about : About) → is_word (about_text about) ≡ true
word_about Own = refl
word_about (Proxied mac) = word_mac mac

-- ---- ports, probes and causes

pub port_again : (place : Place) (port : ℕ) → IsPortOf place port → (read_port place (letter place port ∷ []) ≡ Some port) × (is_word (letter place port ∷ []) ≡ true)
port_again (Danh mac mode) zero h = (refl, refl)
port_again (Danh mac mode) (suc zero) h = (refl, refl)
port_again (Danh mac mode) (suc (suc n)) h = absurd (omega arith)
port_again (RedBox mac mode) zero h = (refl, refl)
port_again (RedBox mac mode) (suc zero) h = (refl, refl)
port_again (RedBox mac mode) (suc (suc zero)) h = (refl, refl)
port_again (RedBox mac mode) (suc (suc (suc n))) h = absurd (omega arith)
port_again QuadBox zero h = (refl, refl)
port_again QuadBox (suc zero) h = (refl, refl)
port_again QuadBox (suc (suc zero)) h = (refl, refl)
port_again QuadBox (suc (suc (suc zero))) h = (refl, refl)
port_again QuadBox (suc (suc (suc (suc n)))) h = absurd (omega arith)
port_again (Station macs) zero h = (refl, refl)
port_again (Station macs) (suc n) h = absurd (omega arith)

pub word_probe : (p : Probe) → IsProbeFit p → is_word (probe_text (Some p)) ≡ true
word_probe p h = word_more (decimal p.node) (58 ∷ decimal p.place) (word_decimal p.node h.0) (word_decimal p.place h.1)

fault_digit : (fault : FrameFault) → decimal (frame_fault_code fault) ≡ (48 + frame_fault_code fault) ∷ []
fault_digit Short = decimal_digit 1 (omega arith)
fault_digit Long = decimal_digit 2 (omega arith)
fault_digit GroupSource = decimal_digit 3 (omega arith)
fault_digit DoubleVlan = decimal_digit 4 (omega arith)
fault_digit ShortTag = decimal_digit 5 (omega arith)
fault_digit NestedTag = decimal_digit 6 (omega arith)

fault_again : (fault : FrameFault) → (read_cause (codes "malformed-" ++ (48 + frame_fault_code fault) ∷ []) ≡ Some (Malformed fault)) × (is_word (codes "malformed-" ++ (48 + frame_fault_code fault) ∷ []) ≡ true)
fault_again Short = (refl, refl)
fault_again Long = (refl, refl)
fault_again GroupSource = (refl, refl)
fault_again DoubleVlan = (refl, refl)
fault_again ShortTag = (refl, refl)
fault_again NestedTag = (refl, refl)

pub cause_again : (cause : Cause) → (read_cause (cause_text (codes "-") cause) ≡ Some cause) × (is_word (cause_text (codes "-") cause) ≡ true)
cause_again Passed = (refl, refl)
cause_again Duplicate = (refl, refl)
cause_again Returned = (refl, refl)
cause_again Foreign = (refl, refl)
cause_again Local = (refl, refl)
cause_again Untagged = (refl, refl)
cause_again Tagged = (refl, refl)
cause_again (Malformed fault) =
    let text : cause_text (codes "-") (Malformed fault) ≡ codes "malformed-" ++ (48 + frame_fault_code fault) ∷ [] = ap (λ digits. codes "malformed-" ++ digits) (fault_digit fault) in
    (ap read_cause text ∙ (fault_again fault).0, ap is_word text ∙ (fault_again fault).1)
