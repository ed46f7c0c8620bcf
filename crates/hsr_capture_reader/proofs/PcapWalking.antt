-- The packets of a pcap file, one after the other: what is left behind a packet answers for all.
use Rattle.std.proofs.Common.{◌≡◌, ℕ, zero, suc, ◌+◌, ◌<◌, true, List, [], ◌∷◌, length, drop, refl, sym, ap, ◌∙◌, arith, Result, Ok, Err, Some, None}
use Rattle.std.proofs.lemmas.List.{nil_from_length}
use Rattle.hsr_capture_reader.specs.declared.fault.CaptureFault.{CaptureFault}
use Rattle.hsr_capture_reader.specs.declared.fault.Refusal.{Refusal}
use Rattle.hsr_capture_reader.specs.declared.fault.ReadFault.{ReadFault}
use Rattle.hsr_capture_reader.specs.declared.pcap.Format.{Format}
use Rattle.hsr_capture_reader.specs.Numbers.{number32}
use Rattle.hsr_capture_reader.specs.Reading.{Fails, ReadingFields, ◌>>=◌}
use Rattle.hsr_capture_reader.specs.Pcapng.{pushed}
use Rattle.hsr_capture_reader.specs.Pcap.{captured_at, kept_at, packets_past, then_on}
use Rattle.hsr_capture_reader.proofs.Walking.{fails_alike, fails_with}

-- a packet is stepped over
steps_over_packet : (n offset fcs : ℕ) (format : Format) (r : ReadingFields) (xs : List ℕ) → packets_past n offset fcs format r xs ≡ packets_past 0 (offset + n) fcs format r (drop n xs)
steps_over_packet zero offset fcs format r xs = let e : offset + 0 ≡ offset = omega arith in rw e refl
steps_over_packet (suc n) offset fcs format r [] = refl
steps_over_packet (suc n) offset fcs format r (x ∷ xs) = let e : offset + 1 + n ≡ offset + suc n = omega arith in steps_over_packet n (offset + 1) fcs format r xs ∙ rw e refl

-- what stands first decides
first_packet : (offset fcs : ℕ) (format : Format) (r : ReadingFields) (x : ℕ) (xs : List ℕ)
    → packets_past 0 offset fcs format r (x ∷ xs)
    ≡ then_on r offset (captured_at fcs format (x ∷ xs)) (λ next. packets_past (15 + number32 format.order (x ∷ xs) 8) (offset + 1) fcs format next xs) (kept_at format.order (x ∷ xs))
first_packet offset fcs format r x xs = refl

-- how many octets were captured is what the header says
pub kept_is : (format : Format) (xs : List ℕ) (kept : ℕ) → kept_at format.order xs ≡ Ok (Some kept) → number32 format.order xs 8 ≡ kept
unfolding kept_at
kept_is format xs kept is = grind arith

-- what stands behind a packet, with any reading
behind_packet : (offset fcs : ℕ) (format : Format) (next : ReadingFields) (x : ℕ) (xs : List ℕ) (kept : ℕ) → number32 format.order (x ∷ xs) 8 ≡ kept
    → packets_past (15 + number32 format.order (x ∷ xs) 8) (offset + 1) fcs format next xs ≡ packets_past 0 (offset + (16 + kept)) fcs format next (drop (16 + kept) (x ∷ xs))
behind_packet offset fcs format next x xs kept is =
    let there : offset + 1 + (15 + kept) ≡ offset + (16 + kept) = omega arith in
    let more : 16 + kept ≡ suc (15 + kept) = omega arith in
    rw (is, more) (steps_over_packet (15 + kept) (offset + 1) fcs format next xs ∙ ap (λ p. packets_past 0 p fcs format next (drop (15 + kept) xs)) (there ∙ ap (λ k. offset + k) more))

-- a packet, and those behind it
pub packets_go_on : (offset fcs : ℕ) (format : Format) (r next : ReadingFields) (xs : List ℕ) (kept : ℕ) → 0 < length xs → kept_at format.order xs ≡ Ok (Some kept)
    → pushed r offset (captured_at fcs format xs) ≡ Ok next → packets_past 0 offset fcs format r xs ≡ packets_past 0 (offset + (16 + kept)) fcs format next (drop (16 + kept) xs)
packets_go_on offset fcs format r next [] kept some is tells = absurd (omega (arith, some))
packets_go_on offset fcs format r next (x ∷ xs) kept some is tells = first_packet offset fcs format r x xs ∙ rw (is, tells) (behind_packet offset fcs format next x xs kept (kept_is format (x ∷ xs) kept is))

-- ---- a reading fails or ends

pub packet_fails : (e : ReadFault) (offset fcs : ℕ) (format : Format) (r : ReadingFields) (left : List ℕ) (kept : ℕ)
    → 0 < length left → kept_at format.order left ≡ Ok (Some kept) → Fails e (pushed r offset (captured_at fcs format left)) → Fails e (packets_past 0 offset fcs format r left)
packet_fails e offset fcs format r [] kept some is fails = absurd (omega (arith, some))
packet_fails e offset fcs format r (x ∷ xs) kept some is fails =
    let behind : ReadingFields → Result ReadingFields Refusal = λ next. packets_past (15 + number32 format.order (x ∷ xs) 8) (offset + 1) fcs format next xs in
    let there : packets_past 0 offset fcs format r (x ∷ xs) ≡ (pushed r offset (captured_at fcs format (x ∷ xs)) >>= behind) = first_packet offset fcs format r x xs ∙ rw is refl in
    fails_alike e (pushed r offset (captured_at fcs format (x ∷ xs)) >>= behind) (packets_past 0 offset fcs format r (x ∷ xs)) (sym there) (fails_with e (pushed r offset (captured_at fcs format (x ∷ xs))) behind fails)

pub packets_break_off : (offset fcs : ℕ) (format : Format) (r : ReadingFields) (left : List ℕ)
    → 0 < length left → kept_at format.order left ≡ Ok None → packets_past 0 offset fcs format r left ≡ Ok (record r { is_short = true })
packets_break_off offset fcs format r [] some is = absurd (omega (arith, some))
packets_break_off offset fcs format r (x ∷ xs) some is = first_packet offset fcs format r x xs ∙ rw is refl

pub packet_is_refused : (offset fcs : ℕ) (format : Format) (r : ReadingFields) (left : List ℕ) (f : CaptureFault)
    → 0 < length left → kept_at format.order left ≡ Err f → packets_past 0 offset fcs format r left ≡ Err (record { offset = offset; fault = f })
packet_is_refused offset fcs format r [] f some is = absurd (omega (arith, some))
packet_is_refused offset fcs format r (x ∷ xs) f some is = first_packet offset fcs format r x xs ∙ rw is refl

pub packets_are_over : (offset fcs : ℕ) (format : Format) (r : ReadingFields) (left : List ℕ) → length left ≡ 0 → packets_past 0 offset fcs format r left ≡ Ok r
packets_are_over offset fcs format r left none = ap (packets_past 0 offset fcs format r) (nil_from_length left none)
