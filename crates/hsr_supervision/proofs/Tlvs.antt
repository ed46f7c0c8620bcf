-- The TLVs of a payload, one after the other.
use Rattle.std.proofs.Common.{◌≡◌, ◌==◌, true, false, Bool, cond, ℕ, zero, suc, ◌<◌, ◌≤◌, List, [], ◌∷◌, length, slice_index, drop, take, refl, sym, ap, ◌∙◌, arith, if◌then◌else◌, Result, Ok, Err, Option, Some, None}
use Rattle.std.specs.Option.{option_or, option_map}
use Rattle.std.specs.Prelude.{find}
use Rattle.hsr_supervision.specs.declared.payload.SupFault.{SupFault}
use Rattle.hsr_supervision.specs.declared.payload.SupFault.TheVariants.{Truncated, RedBoxLength}
use Rattle.hsr_supervision.specs.Payload.{onto, Tlv, tlvs_past, result_map, lacks_address, redbox_among}

-- a value that isn't whole
pub is_short : (n : ℕ) (xs : List ℕ) → length xs < n → tlvs_past n xs ≡ Err Truncated
is_short zero [] h = absurd (omega (arith, h))
is_short zero (x ∷ xs) h = absurd (omega (arith, h))
is_short (suc n) [] h = refl
is_short (suc n) (x ∷ xs) h = is_short n xs (omega (arith, h))

-- a value is stepped over
pub steps_over : (n : ℕ) (xs : List ℕ) → n ≤ length xs → tlvs_past n xs ≡ tlvs_past 0 (drop n xs)
steps_over zero [] h = refl
steps_over zero (x ∷ xs) h = refl
steps_over (suc n) [] h = absurd (omega (arith, h))
steps_over (suc n) (x ∷ xs) h = steps_over n xs (omega (arith, h))

-- what stands first decides
pub first_decides : (xs : List ℕ) → 2 ≤ length xs
    → tlvs_past 0 xs ≡ (if slice_index xs 0 == 0 then Ok [] else (if lacks_address (slice_index xs 0) (slice_index xs 1) then Err RedBoxLength
    else onto (slice_index xs 0) (take (slice_index xs 1) (drop 2 xs)) (tlvs_past (slice_index xs 1) (drop 2 xs))))
first_decides [] h = absurd (omega (arith, h))
first_decides (x ∷ []) h = absurd (omega (arith, h))
first_decides (x ∷ y ∷ xs) h = refl

-- what was found so far, or else is found behind it
abbrev pub found_or : Option (List ℕ) → List Tlv → Option (List ℕ)
found_or found tlvs = option_or found (redbox_among tlvs)

-- the address that a TLV gives
abbrev pub given_by : ℕ → List ℕ → Option (List ℕ)
given_by kind value = if kind == 30 then Some value else None

found_or-first : (found : Option (List ℕ)) (kind : ℕ) (value : List ℕ) (more : List Tlv)
    → found_or found (record { kind = kind; value = value } ∷ more) ≡ found_or (option_or found (given_by kind value)) more
found_or-first (Some mac) kind value more = refl
found_or-first None kind value more = by_case (kind == 30)
  where
    by_case : (b : Bool) → option_map (λ t. t.value) (cond b (Some (record { kind = kind; value = value })) (find (λ t. t.kind == 30) more)) ≡ option_or (cond b (Some value) None) (redbox_among more)
    by_case true = refl
    by_case false = refl

result_map-after : {A B C : Type 0} (f : A → B) (g : B → C) (h : A → C) (r : Result A SupFault) → ((x : A) → g (f x) ≡ h x) → result_map g (result_map f r) ≡ result_map h r
result_map-after f g h (Ok x) same = ap Ok (same x)
result_map-after f g h (Err e) same = refl

-- what is left behind a TLV answers for all
pub onward : (found next : Option (List ℕ)) (left behind value : List ℕ) (kind : ℕ) (all : Result (Option (List ℕ)) SupFault)
    → next ≡ option_or found (given_by kind value)
    → tlvs_past 0 left ≡ onto kind value (tlvs_past 0 behind)
    → result_map (found_or found) (tlvs_past 0 left) ≡ all → result_map (found_or next) (tlvs_past 0 behind) ≡ all
onward found next left behind value kind all n split given =
    sym (rw (n, split) (result_map-after (λ more. record { kind = kind; value = value } ∷ more) (found_or found) (found_or (option_or found (given_by kind value))) (tlvs_past 0 behind) (found_or-first found kind value))) ∙ given

-- a TLV stands before those behind it
pub stands_first : (octets value behind : List ℕ) → 2 ≤ length octets
    → (slice_index octets 0 == 0) ≡ false → lacks_address (slice_index octets 0) (slice_index octets 1) ≡ false → slice_index octets 1 ≤ length (drop 2 octets)
    → value ≡ take (slice_index octets 1) (drop 2 octets) → behind ≡ drop (slice_index octets 1) (drop 2 octets)
    → tlvs_past 0 octets ≡ onto (slice_index octets 0) value (tlvs_past 0 behind)
stands_first octets value behind two more right room v b =
    let first : tlvs_past 0 octets ≡ onto (slice_index octets 0) (take (slice_index octets 1) (drop 2 octets)) (tlvs_past (slice_index octets 1) (drop 2 octets))
    = first_decides octets two ∙ rw (more, right) refl in
    rw (first, steps_over (slice_index octets 1) (drop 2 octets) room, v, b) refl

-- a fault was there before anything was made of what was read
pub fault_before : {A B C : Type 0} (f : A → B) (g : A → C) (r : Result A SupFault) (fault : SupFault) → result_map f r ≡ Err fault → result_map g r ≡ Err fault
fault_before f g (Ok x) fault h = absurd cc
fault_before f g (Err e) fault h = let same : e ≡ fault = cc in ap Err same
