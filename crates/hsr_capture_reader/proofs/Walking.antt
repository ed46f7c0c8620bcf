-- The blocks of a pcapng file, one after the other: what is left behind a block answers for all.
use Rattle.std.proofs.Common.{◌≡◌, ℕ, zero, suc, ◌+◌, ◌-◌, ◌<◌, ◌≤◌, true, false, List, [], ◌∷◌, length, drop, refl, sym, ap, ◌∙◌, arith, Result, Ok, Err, Some, None}
use Rattle.std.proofs.lemmas.List.{nil_from_length}
use Rattle.hsr_capture_reader.specs.declared.fault.CaptureFault.{CaptureFault}
use Rattle.hsr_capture_reader.specs.declared.fault.Refusal.{Refusal}
use Rattle.hsr_capture_reader.specs.declared.fault.ReadFault.{ReadFault}
use Rattle.hsr_capture_reader.specs.declared.fault.ReadFault.TheVariants.{Refused, NoMemory}
use Rattle.hsr_capture_reader.specs.declared.blocks.Start.{Start}
use Rattle.hsr_capture_reader.specs.declared.numbers.ByteOrder.{ByteOrder}
use Rattle.hsr_capture_reader.specs.Blocks.{block_of, blocks_past, length_in, no_more, onto, order_in, start_of}
use Rattle.hsr_capture_reader.specs.Reading.{Fails, ReadingFields, ◌>>=◌}
use Rattle.hsr_capture_reader.specs.Pcapng.{read_blocks, told}

-- a block is stepped over
steps_over_block : (n offset : ℕ) (before : ByteOrder) (xs : List ℕ) → blocks_past n offset before xs ≡ blocks_past 0 (offset + n) before (drop n xs)
steps_over_block zero offset before xs = let e : offset + 0 ≡ offset = omega arith in rw e refl
steps_over_block (suc n) offset before [] = refl
steps_over_block (suc n) offset before (x ∷ xs) = let e : offset + 1 + n ≡ offset + suc n = omega arith in steps_over_block n (offset + 1) before xs ∙ rw e refl

-- what stands first decides
first_block : (offset : ℕ) (before : ByteOrder) (x : ℕ) (xs : List ℕ)
    → blocks_past 0 offset before (x ∷ xs)
    ≡ onto offset (x ∷ xs) (start_of before (x ∷ xs)) (blocks_past (length_in (start_of before (x ∷ xs)) - 1) (offset + 1) (order_in before (start_of before (x ∷ xs))) xs)
first_block offset before x xs = refl

-- a block, and those behind it
pub stands_first : (offset : ℕ) (before : ByteOrder) (xs : List ℕ) (start : Start) → 0 < length xs → 12 ≤ start.len → start_of before xs ≡ Ok (Some start)
    → blocks_past 0 offset before xs ≡ onto offset xs (Ok (Some start)) (blocks_past 0 (offset + start.len) start.order (drop start.len xs))
stands_first offset before [] start some shortest is = absurd (omega (arith, some))
stands_first offset before (x ∷ xs) start some shortest is =
    let k : start.len ≡ suc (start.len - 1) = omega arith in
    let behind : blocks_past (start.len - 1) (offset + 1) start.order xs ≡ blocks_past 0 (offset + 1 + (start.len - 1)) start.order (drop (start.len - 1) xs)
    = steps_over_block (start.len - 1) (offset + 1) start.order xs in
    let there : offset + 1 + (start.len - 1) ≡ offset + start.len = omega arith in
    let rest : drop (start.len - 1) xs ≡ drop start.len (x ∷ xs) = sym (ap (λ n. drop n (x ∷ xs)) k) in
    first_block offset before x xs ∙ rw (is, behind, there, rest) refl

-- a file that breaks off
breaks_off_there : (offset : ℕ) (before : ByteOrder) (xs : List ℕ) → 0 < length xs → start_of before xs ≡ Ok None → blocks_past 0 offset before xs ≡ no_more (Ok true)
breaks_off_there offset before [] some is = absurd (omega (arith, some))
breaks_off_there offset before (x ∷ xs) some is = first_block offset before x xs ∙ rw is refl

refused_there : (offset : ℕ) (before : ByteOrder) (xs : List ℕ) (f : CaptureFault) → 0 < length xs → start_of before xs ≡ Err f
    → blocks_past 0 offset before xs ≡ no_more (Err (record { offset = offset; fault = f }))
refused_there offset before [] f some is = absurd (omega (arith, some))
refused_there offset before (x ∷ xs) f some is = first_block offset before x xs ∙ rw is refl

-- ---- a reading goes on

pub goes_on : (fcs : ℕ) (r next : ReadingFields) (offset : ℕ) (before : ByteOrder) (left : List ℕ) (start : Start)
    → 0 < length left → 12 ≤ start.len → start_of before left ≡ Ok (Some start) → told fcs r (block_of offset start left) ≡ Ok next
    → read_blocks fcs r (blocks_past 0 offset before left) ≡ read_blocks fcs next (blocks_past 0 (offset + start.len) start.order (drop start.len left))
goes_on fcs r next offset before left start some shortest is tells = ap (read_blocks fcs r) (stands_first offset before left start some shortest is) ∙ rw tells refl

pub fails_with : (e : ReadFault) (step : Result ReadingFields Refusal) (f : ReadingFields → Result ReadingFields Refusal) → Fails e step → Fails e (step >>= f)
fails_with NoMemory step f h = tt
fails_with (Refused refusal) step f h = rw h refl

pub fails_alike : (e : ReadFault) (a b : Result ReadingFields Refusal) → a ≡ b → Fails e a → Fails e b
fails_alike NoMemory a b same h = tt
fails_alike (Refused refusal) a b same h = sym same ∙ h

pub fails_there : (e : ReadFault) (fcs : ℕ) (r : ReadingFields) (offset : ℕ) (before : ByteOrder) (left : List ℕ) (start : Start)
    → 0 < length left → 12 ≤ start.len → start_of before left ≡ Ok (Some start) → Fails e (told fcs r (block_of offset start left))
    → Fails e (read_blocks fcs r (blocks_past 0 offset before left))
fails_there e fcs r offset before left start some shortest is fails =
    let behind = blocks_past 0 (offset + start.len) start.order (drop start.len left) in
    fails_alike e (told fcs r (block_of offset start left) >>= λ next. read_blocks fcs next behind) (read_blocks fcs r (blocks_past 0 offset before left))
    (sym (ap (read_blocks fcs r) (stands_first offset before left start some shortest is)))
    (fails_with e (told fcs r (block_of offset start left)) (λ next. read_blocks fcs next behind) fails)

pub breaks_off : (fcs : ℕ) (r : ReadingFields) (offset : ℕ) (before : ByteOrder) (left : List ℕ)
    → 0 < length left → start_of before left ≡ Ok None → read_blocks fcs r (blocks_past 0 offset before left) ≡ Ok (record r { is_short = true })
breaks_off fcs r offset before left some is = ap (read_blocks fcs r) (breaks_off_there offset before left some is)

pub is_refused : (fcs : ℕ) (r : ReadingFields) (offset : ℕ) (before : ByteOrder) (left : List ℕ) (f : CaptureFault)
    → 0 < length left → start_of before left ≡ Err f → read_blocks fcs r (blocks_past 0 offset before left) ≡ Err (record { offset = offset; fault = f })
is_refused fcs r offset before left f some is = ap (read_blocks fcs r) (refused_there offset before left f some is)

pub is_over : (fcs : ℕ) (r : ReadingFields) (offset : ℕ) (before : ByteOrder) (left : List ℕ)
    → length left ≡ 0 → read_blocks fcs r (blocks_past 0 offset before left) ≡ Ok (record r { is_short = false })
is_over fcs r offset before left none = ap (λ xs. read_blocks fcs r (blocks_past 0 offset before xs)) (nil_from_length left none)
