-- The text of an address.
use Rattle.std.proofs.Common.{Ok, Some, None, add-zero, zero-add, suc, ◌≡◌, ◌==◌, ℕ, ◌+◌, ◌%◌, ◌/◌, ◌<◌, true, false, List, [], ◌∷◌, length, slice_index, refl, sym, ap, ◌∙◌, arith}
use Rattle.std.proofs.lemmas.List.{length-map, get_or-map}
use Rattle.std.proofs.lemmas.Slice.Eq.{text_from_reads}
use Rattle.std.proofs.lemmas.Bool.Decides.{nat_tests}
use Rattle.hsr_frame.specs.Address.{IsAddress, address_of, address_text, fault_from, hex_digit, hex_value, octet_of, place_fault, upper_digit, upper_text}
use Rattle.hsr_frame.proofs.UpTo.{UpTo, each_up_to}
use Rattle.hsr_frame.proofs.Cells.{cells_of_6}

-- what is right at the place of a hyphen is one
hyphen_there : (i c : ℕ) → (i % 3 == 2) ≡ true → place_fault i c ≡ None → c ≡ 45
hyphen_there i c at h = grind (arith, nat_tests)

-- the two digits at a place
pub record IsPairAt (t : List ℕ) (i n : ℕ) : Type 0 where
  pub high : upper_digit (slice_index t i) ≡ hex_digit (n / 16)
  pub low : upper_digit (slice_index t (i + 1)) ≡ hex_digit (n % 16)

-- in upper case a text of six pairs and five hyphens is that of the address
pub spelled : (t o : List ℕ) → length t ≡ 17 → ((k : ℕ) → k < 17 → place_fault k (slice_index t k) ≡ None)
    → IsPairAt t 0 (slice_index o 0) → IsPairAt t 3 (slice_index o 1) → IsPairAt t 6 (slice_index o 2)
    → IsPairAt t 9 (slice_index o 3) → IsPairAt t 12 (slice_index o 4) → IsPairAt t 15 (slice_index o 5)
    → upper_text t ≡ address_text o
spelled t o len right a b d e f g =
    let up : (i : ℕ) → i < 17 → slice_index (upper_text t) i ≡ upper_digit (slice_index t i) = λ i h. get_or-map upper_digit t i 0 0 (omega arith) in
    let hyphen : (i : ℕ) → i < 17 → (i % 3 == 2) ≡ true → slice_index (upper_text t) i ≡ 45 = λ i h at. up i h ∙ ap upper_digit (hyphen_there i (slice_index t i) at (right i h)) in
    let at : (i n : ℕ) → i < 17 → upper_digit (slice_index t i) ≡ n → slice_index (upper_text t) i ≡ n = λ i n h e. up i h ∙ e in
    text_from_reads (upper_text t) (address_text o) (length-map t upper_digit ∙ len) (
      at 0 _ (omega arith) a.high,
      (
        at 1 _ (omega arith) a.low,
        (
          hyphen 2 (omega arith) refl,
          (
            at 3 _ (omega arith) b.high,
            (
              at 4 _ (omega arith) b.low,
              (
                hyphen 5 (omega arith) refl,
                (
                  at 6 _ (omega arith) d.high,
                  (
                    at 7 _ (omega arith) d.low,
                    (
                      hyphen 8 (omega arith) refl,
                      (
                        at 9 _ (omega arith) e.high,
                        (
                          at 10 _ (omega arith) e.low,
                          (
                            hyphen 11 (omega arith) refl,
                            (
                              at 12 _ (omega arith) f.high,
                              (
                                at 13 _ (omega arith) f.low,
                                (
                                  hyphen 14 (omega arith) refl,
                                  (at 15 _ (omega arith) g.high, (at 16 _ (omega arith) g.low, tt)),
                                ),
                              ),
                            ),
                          ),
                        ),
                      ),
                    ),
                  ),
                ),
              ),
            ),
          ),
        ),
      ),
    )

-- a digit that in upper case is that of a number has its value
value_there : (c n : ℕ) → n < 16 → upper_digit c ≡ hex_digit n → hex_value c ≡ Some n
value_there c n lt h = grind (arith, nat_tests)

hyphen_read : (c : ℕ) → upper_digit c ≡ 45 → c ≡ 45
hyphen_read c h = grind (arith, nat_tests)

digit_right : (i c n : ℕ) → (i % 3 == 2) ≡ false → hex_value c ≡ Some n → place_fault i c ≡ None
digit_right i c n at h = rw (at, h) refl

hyphen_right : (i c : ℕ) → (i % 3 == 2) ≡ true → c ≡ 45 → place_fault i c ≡ None
hyphen_right i c at h = rw (at, h) refl

-- a text that is right at each place has no fault
fault_from-right : (i : ℕ) (text : List ℕ) → ((k : ℕ) → k < length text → place_fault (i + k) (slice_index text k) ≡ None) → fault_from i text ≡ None
fault_from-right i [] right = refl
fault_from-right i (c ∷ cs) right =
    let here : place_fault i c ≡ None = rw add-zero at (right 0 (omega arith)) in
    let more : fault_from (i + 1) cs ≡ None = fault_from-right (i + 1) cs (λ k lt. let at : i + 1 + k ≡ i + suc k = omega arith in rw at (right (suc k) (omega arith))) in
    rw (here, more) refl

-- what is printed is read, in either case of its digits
pub address_of-printed : (t o : List ℕ) → IsAddress o → upper_text t ≡ address_text o → address_of t ≡ Ok o
unfolding UpTo address_of
address_of-printed t o a e =
    let len : length t ≡ 17 = sym (length-map t upper_digit) ∙ ap length e in
    let up : (i : ℕ) → i < 17 → upper_digit (slice_index t i) ≡ slice_index (address_text o) i
    = λ i lt. sym (get_or-map upper_digit t i 0 0 (omega arith)) ∙ ap (λ (x : List ℕ). slice_index x i) e in
    let high : (i : ℕ) → slice_index o i / 16 < 16 = λ i. let h = a.each i in omega arith in
    let low : (i : ℕ) → slice_index o i % 16 < 16 = λ i. omega arith in
    let digit : (i n : ℕ) → i < 17 → n < 16 → slice_index (address_text o) i ≡ hex_digit n → hex_value (slice_index t i) ≡ Some n
    = λ i n lt small at. value_there (slice_index t i) n small (up i lt ∙ at) in
    let hyphen : (i : ℕ) → i < 17 → slice_index (address_text o) i ≡ 45 → slice_index t i ≡ 45 = λ i lt at. hyphen_read (slice_index t i) (up i lt ∙ at) in
    let octet : (i n : ℕ) → n < 256 → hex_value (slice_index t i) ≡ Some (n / 16) → hex_value (slice_index t (i + 1)) ≡ Some (n % 16) → octet_of t i ≡ n
    = λ i n lt h l. rw (h, l) (omega arith) in
    let first = λ (i j : ℕ) (lt : i < 17) (at : slice_index (address_text o) i ≡ hex_digit (slice_index o j / 16)). digit i _ lt (high j) at in
    let second = λ (i j : ℕ) (lt : i < 17) (at : slice_index (address_text o) i ≡ hex_digit (slice_index o j % 16)). digit i _ lt (low j) at in
    let right : (k : ℕ) → k < 17 → place_fault k (slice_index t k) ≡ None
    = each_up_to (λ k. place_fault k (slice_index t k) ≡ None) 17 (
      digit_right 0 (slice_index t 0) (slice_index o 0 / 16) refl (first 0 0 (omega arith) refl),
      (
        digit_right 1 (slice_index t 1) (slice_index o 0 % 16) refl (second 1 0 (omega arith) refl),
        (
          hyphen_right 2 (slice_index t 2) refl (hyphen 2 (omega arith) refl),
          (
            digit_right 3 (slice_index t 3) (slice_index o 1 / 16) refl (first 3 1 (omega arith) refl),
            (
              digit_right 4 (slice_index t 4) (slice_index o 1 % 16) refl (second 4 1 (omega arith) refl),
              (
                hyphen_right 5 (slice_index t 5) refl (hyphen 5 (omega arith) refl),
                (
                  digit_right 6 (slice_index t 6) (slice_index o 2 / 16) refl (first 6 2 (omega arith) refl),
                  (
                    digit_right 7 (slice_index t 7) (slice_index o 2 % 16) refl (second 7 2 (omega arith) refl),
                    (
                      hyphen_right 8 (slice_index t 8) refl (hyphen 8 (omega arith) refl),
                      (
                        digit_right 9 (slice_index t 9) (slice_index o 3 / 16) refl (first 9 3 (omega arith) refl),
                        (
                          digit_right 10 (slice_index t 10) (slice_index o 3 % 16) refl (second 10 3 (omega arith) refl),
                          (
                            hyphen_right 11 (slice_index t 11) refl (hyphen 11 (omega arith) refl),
                            (
                              digit_right 12 (slice_index t 12) (slice_index o 4 / 16) refl (first 12 4 (omega arith) refl),
                              (
                                digit_right 13 (slice_index t 13) (slice_index o 4 % 16) refl (second 13 4 (omega arith) refl),
                                (
                                  hyphen_right 14 (slice_index t 14) refl (hyphen 14 (omega arith) refl),
                                  (
                                    digit_right 15 (slice_index t 15) (slice_index o 5 / 16) refl (first 15 5 (omega arith) refl),
                                    (digit_right 16 (slice_index t 16) (slice_index o 5 % 16) refl (second 16 5 (omega arith) refl), tt),
                                  ),
                                ),
                              ),
                            ),
                          ),
                        ),
                      ),
                    ),
                  ),
                ),
              ),
            ),
          ),
        ),
      ),
    ) in
    let none : fault_from 0 t ≡ None = fault_from-right 0 t (λ k lt. rw (zero-add k) (right k (omega arith))) in
    let o0 = octet 0 (slice_index o 0) (a.each 0) (first 0 0 (omega arith) refl) (second 1 0 (omega arith) refl) in
    let o1 = octet 3 (slice_index o 1) (a.each 1) (first 3 1 (omega arith) refl) (second 4 1 (omega arith) refl) in
    let o2 = octet 6 (slice_index o 2) (a.each 2) (first 6 2 (omega arith) refl) (second 7 2 (omega arith) refl) in
    let o3 = octet 9 (slice_index o 3) (a.each 3) (first 9 3 (omega arith) refl) (second 10 3 (omega arith) refl) in
    let o4 = octet 12 (slice_index o 4) (a.each 4) (first 12 4 (omega arith) refl) (second 13 4 (omega arith) refl) in
    let o5 = octet 15 (slice_index o 5) (a.each 5) (first 15 5 (omega arith) refl) (second 16 5 (omega arith) refl) in
    rw (len, none, o0, o1, o2, o3, o4, o5) (ap Ok (sym (cells_of_6 o a.six)))
