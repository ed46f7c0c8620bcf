-- What hsr_pcapng writes is read back: its numbers, its options, its blocks.
use Rattle.std.proofs.Common.{◌≡◌, ◌≢◌, ℕ, ◌+◌, ◌-◌, ◌/◌, ◌%◌, ◌^◌, ◌<◌, false, ltb, List, [], ◌∷◌, ◌++◌, length, take, drop, refl, ap, ◌∙◌, append_assoc, length-append, arith, eq-eqb, Ok, Some}
use Rattle.std.specs.Int.{w16, w32, to_le_bytes}
use Rattle.std.proofs.lemmas.Bool.{le-ltb, ne_eqb}
use Rattle.std.proofs.lemmas.List.{take_at, drop_at, length-replicate, get_or-append-add}
use Rattle.hsr_pcapng.specs.Blocks as written
use Rattle.hsr_capture_reader.specs.declared.numbers.ByteOrder.{ByteOrder}
use Rattle.hsr_capture_reader.specs.declared.numbers.ByteOrder.TheVariants.{Little}
use Rattle.hsr_capture_reader.specs.Numbers.{number16, number32}
use Rattle.hsr_capture_reader.specs.Options.{option_past, padded_len}
use Rattle.hsr_capture_reader.specs.Blocks.{order_at, start_of}
use Rattle.hsr_capture_reader.proofs.Passing.{steps_over_value}

-- ---- numbers

pub read16 : (n : ℕ) (more : List ℕ) → n < 2 ^ 16 → number16 Little (to_le_bytes w16 n ++ more) 0 ≡ n
read16 n more fits = omega arith

pub read32 : (n : ℕ) (more : List ℕ) → n < 2 ^ 32 → number32 Little (to_le_bytes w32 n ++ more) 0 ≡ n
read32 n more fits = omega arith

-- a number that stands behind octets
pub number32_behind : (xs ys : List ℕ) (at : ℕ) → length xs ≡ at → number32 Little (xs ++ ys) at ≡ number32 Little ys 0
number32_behind xs ys at is =
    let a = get_or-append-add xs ys 0 0 in
    let b = get_or-append-add xs ys 1 0 in
    let c = get_or-append-add xs ys 2 0 in
    let d = get_or-append-add xs ys 3 0 in
    let e0 : length xs + 0 ≡ at = omega arith in
    let e1 : length xs + 1 ≡ at + 1 = omega arith in
    let e2 : length xs + 2 ≡ at + 2 = omega arith in
    let e3 : length xs + 3 ≡ at + 2 + 1 = omega arith in
    omega (arith, rw e0 at a, rw e1 at b, rw e2 at c, rw e3 at d)

-- ---- options

padded_is : (value more : List ℕ) → drop (padded_len (length value)) (written.padded value ++ more) ≡ more
padded_is value more =
    let n = length value in
    drop_at (written.padded value) more (padded_len n)
    (omega (arith, length-append value (written.padding n), length-replicate {A = ℕ} ((4 - n % 4) % 4) 0))

value_is : (value more : List ℕ) → take (length value) (written.padded value ++ more) ≡ value
value_is value more = rw (append_assoc value (written.padding (length value)) more) (take_at value (written.padding (length value) ++ more) (length value) refl)

-- the option that is looked for
pub option_found : (code : ℕ) (value more : List ℕ) → code < 2 ^ 16 → code ≢ 0 → length value < 2 ^ 16 → option_past 0 Little code (written.option_of code value ++ more) ≡ Some value
unfolding written.option_of
option_found code value more code_fits some fits =
    let c : number16 Little (code % 256 ∷ code / 256 % 256 ∷ []) 0 ≡ code = omega arith in
    let l : number16 Little (length value % 256 ∷ length value / 256 % 256 ∷ []) 0 ≡ length value = omega arith in
    rw (c, l, ne_eqb code 0 some, eq-eqb code code refl) (ap Some (value_is value more))

-- another option is passed over
pub option_passed : (wanted code : ℕ) (value more : List ℕ) → code < 2 ^ 16 → code ≢ 0 → code ≢ wanted → length value < 2 ^ 16
    → option_past 0 Little wanted (written.option_of code value ++ more) ≡ option_past 0 Little wanted more
unfolding written.option_of
option_passed wanted code value more code_fits some other fits =
    let c : number16 Little (code % 256 ∷ code / 256 % 256 ∷ []) 0 ≡ code = omega arith in
    let l : number16 Little (length value % 256 ∷ length value / 256 % 256 ∷ []) 0 ≡ length value = omega arith in
    rw (c, l, ne_eqb code 0 some, ne_eqb code wanted other)
    (steps_over_value (padded_len (length value)) Little wanted (written.padded value ++ more) ∙ ap (option_past 0 Little wanted) (padded_is value more))

-- ---- blocks

-- what stands in front of a block's body, the body, and its length again
abbrev head : ℕ → List ℕ → List ℕ
head block_type body = to_le_bytes w32 block_type ++ to_le_bytes w32 (length body + 12)

-- the start of a block in a little-endian section
pub starts : (before : ByteOrder) (block_type : ℕ) (body more : List ℕ) → length body % 4 ≡ 0 → length body + 12 < 2 ^ 32
    → order_at before (written.block block_type body ++ more) ≡ Some Little
    → start_of before (written.block block_type body ++ more) ≡ Ok (Some (record { order = Little; len = length body + 12 }))
unfolding start_of written.block
starts before block_type body more whole fits order =
    let foot = to_le_bytes w32 (length body + 12) in
    let octets = written.block block_type body ++ more in
    let grouped : octets ≡ (head block_type body ++ body) ++ (foot ++ more) = append_assoc (head block_type body ++ body) foot more in
    let long : length octets ≡ length body + 12 + length more = omega (arith, length-append body foot, length-append (body ++ foot) more) in
    let enough : ltb (length octets) 12 ≡ false = le-ltb (length octets) 12 (omega arith) in
    let len : number32 Little octets 4 ≡ length body + 12 = omega arith in
    let room : ltb (length octets) (length body + 12) ≡ false = le-ltb (length octets) (length body + 12) (omega arith) in
    let least : ltb (length body + 12) 12 ≡ false = le-ltb (length body + 12) 12 (omega arith) in
    let four : (length body + 12) % 4 ≡ 0 = omega arith in
    let at_foot : length (head block_type body ++ body) ≡ length body + 12 - 4 = omega arith in
    let again : number32 Little octets (length body + 12 - 4) ≡ length body + 12
    = ap (λ o. number32 Little o (length body + 12 - 4)) grouped ∙ number32_behind (head block_type body ++ body) (foot ++ more) (length body + 12 - 4) at_foot ∙ read32 (length body + 12) more fits in
    rw (enough, order, len, least, eq-eqb _ _ four, room, eq-eqb _ _ again) refl
