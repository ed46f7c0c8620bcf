-- Words that were written are read.
use Rattle.std.proofs.Common.{◌≡◌, ℕ, ◌/◌, ◌^◌, ◌<◌, ◌==◌, ◌&&◌, nat_lt, Option, None, Some, List, [], ◌∷◌, ◌++◌, ◌∙◌, length, slice_index, get_or, refl, sym, ap, subst, arith, cond, Bool, true, false, suc, inl, inr, ◌⊎◌}
use Rattle.std.proofs.lemmas.Bool.{and_from, and_parts, cases_lt, or_left}
use Rattle.std.proofs.lemmas.Bool.Decides.{nat_tests}
use Rattle.std.proofs.lemmas.Fmt.{digits_decimal, digits_value-decimal, first_decimal, decimal_digit}
use Rattle.std.specs.Str.{all_ascii_digits, bytes_eq}
use Rattle.std.specs.Char.{is_ascii_digit}
use Rattle.std.specs.Fmt.{decimal}
use Rattle.std.specs.Result.{result_ok}
use Rattle.hex.specs.Hex.{encode_upper, encode_with, upper_digits, decode_of, IsBytes}
use Rattle.hex.proofs.HexLemmas.{decode_of-encode_upper}
use Rattle.hsr_text.specs.Words.{cut, decimal_of, hex_octets_of, is_decimal, value_on}
use Rattle.hsr_node.specs.declared.event.Probe.{Probe}
use Rattle.hsr_link.specs.declared.row.Dir.{Dir}
use Rattle.hsr_link.specs.declared.row.Dir.TheVariants.{Forth, Back}
use Rattle.hsr_link.specs.declared.row.Fate.{Fate}
use Rattle.hsr_link.specs.declared.row.Fate.TheVariants.{Queued, Taken, LostDown, LostCut, LostOverrun}
use Rattle.hsr_link.specs.declared.row.Row.{Row}
use Rattle.std.proofs.lemmas.Slice.Eq.{bytes_eq-Decides}
use Rattle.hsr_transcript_lines.proofs.WordTexts.{lacks_word, own, word_octets}
use Rattle.hsr_transcript_lines.specs.Parsed.{read_fate, read_probe, row_of, read_row, turn_of}
use Rattle.hsr_link.specs.Words.{dir_of, dir_word, fate_word}
use Rattle.hsr_transcript_lines.specs.Exact.{checked, exactly}
use Rattle.hsr_transcript_lines.specs.Readable.{Lacks}
use Rattle.hsr_transcript_lines.specs.Spelled.{octets_text, probe_text, row_text}
use Rattle.hsr_transcript_lines.proofs.CutWords.{cut_word, cut_end, lacks_more}

-- ---- numbers

digits_read : (ds : List ℕ) → all_ascii_digits ds ≡ true → 48 < get_or ds 0 0 → value_on 0 ds < 2 ^ 64 → decimal_of ds ≡ Some (value_on 0 ds)
digits_read [] d first h = absurd (omega arith)
digits_read (b ∷ bs) d first h =
    let above : nat_lt 48 b ≡ true = grind (arith, nat_tests) in
    let below : nat_lt (value_on 0 (b ∷ bs)) (2 ^ 64) ≡ true = grind (arith, nat_tests, h) in
    let whole : (is_decimal (b ∷ bs) && nat_lt (value_on 0 (b ∷ bs)) (2 ^ 64)) ≡ true = and_from _ _ (and_from _ _ d (or_left _ _ above)) below in
    ap (λ t. cond t (Some (value_on 0 (b ∷ bs))) None) whole

pub number_again : (n : ℕ) → n < 2 ^ 64 → decimal_of (decimal n) ≡ Some n
number_again n h = elim (cases_lt 0 n) [
  | inl some ↦
      digits_read (decimal n) (digits_decimal own n h) (first_decimal n some h) (rw (digits_value-decimal own n h) h)
      ∙ ap Some (digits_value-decimal own n h)
  | inr none ↦ let e : n ≡ 0 = omega arith in rw e (ap decimal_of (decimal_digit 0 (omega arith)))
]

lacks_digits : (s : ℕ) (ds : List ℕ) → all_ascii_digits ds ≡ true → (s < 48) ⊎ (57 < s) → Lacks s ds
lacks_digits s [] d h = tt
lacks_digits s (c ∷ cs) d h =
    let parts = and_parts (is_ascii_digit c) (all_ascii_digits cs) d in
    (grind (arith, nat_tests), lacks_digits s cs parts.1 h)

pub lacks_decimal : (s n : ℕ) → n < 2 ^ 64 → (s < 48) ⊎ (57 < s) → Lacks s (decimal n)
lacks_decimal s n h k = lacks_digits s (decimal n) (digits_decimal own n h) k

-- ---- octets

never : (t : Bool) (n : ℕ) → (t && (suc n == 0)) ≡ false
never true n = grind (arith, nat_tests)
never false n = refl

pub octets_again : (xs : List ℕ) → IsBytes xs → hex_octets_of (octets_text xs) ≡ Some xs
unfolding encode_with
octets_again [] h = refl
octets_again (b ∷ bs) h =
    ap (λ t. cond t (Some []) (result_ok (decode_of (encode_upper (b ∷ bs))))) (never (slice_index upper_digits (b / 16) == 45) (length (encode_with upper_digits bs))) ∙ ap result_ok (decode_of-encode_upper (b ∷ bs) h)

-- ---- rows

-- the fate of a copy that waits no more
abbrev pub IsGone : Fate → Type 0
IsGone Queued = ⊥
IsGone fate = Unit {0}

-- a row of a copy that a node put, which names a send and waits no more; numbers have at most 64 bits
pub record IsFinishedRow (row : Row) : Type 0 where
  pub probe : Probe
  pub named : row.carried.probe ≡ Some probe
  pub node : probe.node < 2 ^ 64
  pub place : probe.place < 2 ^ 64
  pub octets : IsBytes row.carried.octets
  pub put : row.injected ≡ false
  pub gone : IsGone row.fate

dir_again : (d : Dir) → (dir_of (dir_word d) ≡ Some d) × Lacks 32 (dir_word d)
dir_again Forth = (refl, (refl, (refl, (refl, (refl, (refl, tt))))))
dir_again Back = (refl, (refl, (refl, (refl, (refl, tt)))))

fate_again : (f : Fate) → IsGone f → (read_fate (fate_word f) ≡ Some f) × Lacks 32 (fate_word f)
fate_again Queued h = absurd h
fate_again Taken h = (refl, (refl, (refl, (refl, (refl, (refl, tt))))))
fate_again LostDown h = (refl, (refl, (refl, (refl, (refl, tt)))))
fate_again LostCut h = (refl, (refl, (refl, (refl, tt))))
fate_again LostOverrun h = (refl, (refl, (refl, (refl, (refl, (refl, (refl, (refl, tt))))))))

probe_lacks : (p : Probe) → p.node < 2 ^ 64 → p.place < 2 ^ 64 → Lacks 32 (probe_text (Some p))
probe_lacks p h k = lacks_more 32 _ _ (lacks_decimal 32 p.node h (inl (omega arith))) (refl, lacks_decimal 32 p.place k (inl (omega arith)))

pub probe_again : (p : Probe) → p.node < 2 ^ 64 → p.place < 2 ^ 64 → read_probe (probe_text (Some p)) ≡ Some p
probe_again p h k =
    let c : cut 58 (decimal p.node ++ 58 ∷ decimal p.place) ≡ (decimal p.node, Some (decimal p.place)) = cut_word 58 (decimal p.node) (decimal p.place) (lacks_decimal 58 p.node h (inr (omega arith))) in
    rw (c, number_again p.node h, number_again p.place k) refl

row_again : (d : Dir) (p : Probe) (octets : List ℕ) (f : Fate) → p.node < 2 ^ 64 → p.place < 2 ^ 64 → IsBytes octets → IsGone f
    → read_row (row_text (record { dir = d; carried = record { probe = Some p; octets = octets }; injected = false; fate = f }))
    ≡ Some (record { dir = d; carried = record { probe = Some p; octets = octets }; injected = false; fate = f })
unfolding read_row row_text
row_again d p octets f node place bytes gone =
    let dir = dir_again d in
    let fate = fate_again f gone in
    let rest = octets_text octets ++ 32 ∷ fate_word f in
    let cut_fate : cut 32 (fate_word f) ≡ (fate_word f, None) = cut_end 32 (fate_word f) fate.1 in
    let cut_octets : cut 32 (octets_text octets ++ 32 ∷ fate_word f) ≡ (octets_text octets, Some (fate_word f)) = cut_word 32 (octets_text octets) (fate_word f) (lacks_word 32 (octets_text octets) (omega arith) (word_octets octets bytes)) in
    let cut_probe : cut 32 (probe_text (Some p) ++ 32 ∷ rest) ≡ (probe_text (Some p), Some rest) = cut_word 32 (probe_text (Some p)) rest (probe_lacks p node place) in
    let cut_dir : cut 32 (dir_word d ++ 32 ∷ (probe_text (Some p) ++ 32 ∷ rest)) ≡ (dir_word d, Some (probe_text (Some p) ++ 32 ∷ rest)) = cut_word 32 (dir_word d) (probe_text (Some p) ++ 32 ∷ rest) dir.1 in
    rw (cut_dir, dir.0, cut_probe, probe_again p node place, cut_octets, octets_again octets bytes, cut_fate, fate.0) refl

-- what is spelled is read exactly where it is read freely
pub exactly_again : {Y : Type 0} (spelled : Y → List ℕ) (said : List ℕ → Option Y) (y : Y) → said (spelled y) ≡ Some y → exactly spelled said (spelled y) ≡ Some y
exactly_again spelled said y e = ap (checked spelled (spelled y)) e ∙ ap (λ t. cond t (Some y) None) ((bytes_eq-Decides (spelled y) (spelled y)).1 refl)

-- what is read exactly is read freely
pub checked_was : {Y : Type 0} (spelled : Y → List ℕ) (line : List ℕ) (o : Option Y) (y : Y) → checked spelled line o ≡ Some y → o ≡ Some y
checked_was spelled line None y e = absurd (cc)
checked_was {Y} spelled line (Some z) y e = go (bytes_eq (spelled z) line) e
  where
    go : (t : Bool) → cond t (Some z) None ≡ Some y → Some z ≡ Some y
    go true e = e
    go false e = absurd (cc)

pub row_read : (r : Row) → IsFinishedRow r → row_of (row_text r) ≡ Some r
unfolding row_of
row_read r f =
    let again = row_again r.dir f.probe r.carried.octets r.fate f.node f.place f.octets f.gone in
    let whole : record { dir = r.dir; carried = record { probe = Some f.probe; octets = r.carried.octets }; injected = false; fate = r.fate } ≡ r
    = λ i. record { dir = r.dir; carried = record { probe = sym f.named i; octets = r.carried.octets }; injected = sym f.put i; fate = r.fate } in
    exactly_again row_text read_row r (subst (λ (x : Row). read_row (row_text x) ≡ Some x) whole again)

pub turn_read : (n : ℕ) → n < 2 ^ 64 → turn_of (decimal n) ≡ Some n
unfolding turn_of
turn_read n h = exactly_again decimal decimal_of n (number_again n h)
