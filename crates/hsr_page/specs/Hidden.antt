-- Characters that turn the order of letters or can't be seen, and how they are shown. A text is a list of characters here.
--     is_hidden   whether a character is one of them
--     shown       a character as it is shown
--     seen        a text in which each of them is shown
use Rattle.std.specs.Prelude.{ℕ, ◌/◌, ◌%◌, Bool, true, nat_le, nat_lt, ◌&&◌, if◌then◌else◌, List, [], ◌∷◌, ◌++◌}
use Rattle.std.specs.Fmt.{digit_glyph}
use Rattle.std.specs.List.{flat_map, list_any}

-- Of each run the first and the last: controls but tab and line feed (category Cc of Unicode), line and paragraph separators (Zl, Zp), what is
-- to be ignored where it isn't supported (Default_Ignorable_Code_Point, UAX 44), and the marks of interlinear annotation.
unfoldable pub hidden_ranges : List (ℕ × ℕ)
hidden_ranges =
    (0x0, 0x8) ∷ (0xB, 0x1F) ∷ (0x7F, 0x9F) ∷ (0xAD, 0xAD) ∷ (0x34F, 0x34F) ∷ (0x61C, 0x61C) ∷ (0x115F, 0x1160) ∷ (0x17B4, 0x17B5) ∷ (0x180B, 0x180F)
    ∷ (0x200B, 0x200F) ∷ (0x2028, 0x202E) ∷ (0x2060, 0x206F) ∷ (0x3164, 0x3164) ∷ (0xFE00, 0xFE0F) ∷ (0xFEFF, 0xFEFF) ∷ (0xFFA0, 0xFFA0)
    ∷ (0xFFF0, 0xFFFB) ∷ (0x1BCA0, 0x1BCA3) ∷ (0x1D173, 0x1D17A) ∷ (0xE0000, 0xE0FFF) ∷ []

unfoldable pub is_hidden : ℕ → Bool
is_hidden c = list_any (λ range. nat_le range.0 c && nat_le c range.1) hidden_ranges

-- ---- numbers to the base 16, in upper case

-- the digit that counts such units
abbrev pub digit_of : ℕ → ℕ → ℕ
digit_of c unit = digit_glyph true (c / unit % 16)

-- what stands before the last four digits
abbrev pub high_digits : ℕ → List ℕ
high_digits c =
    if nat_lt c 0x1_0000 then [] else (if nat_lt c 0x10_0000 then digit_of c 0x1_0000 ∷ [] else digit_of c 0x10_0000 ∷ digit_of c 0x1_0000 ∷ [])

-- four digits, or as many as it has
unfoldable pub hex_number : ℕ → List ℕ
hex_number c = high_digits c ++ digit_of c 0x1000 ∷ digit_of c 0x100 ∷ digit_of c 0x10 ∷ digit_of c 1 ∷ []

-- ---- what is seen

-- its number between angle brackets, such as ⟨U+202E⟩
unfoldable pub shown_number : ℕ → List ℕ
shown_number c = 0x27E8 ∷ 85 ∷ 43 ∷ hex_number c ++ 0x27E9 ∷ []

abbrev pub shown : ℕ → List ℕ
shown c = if is_hidden c then shown_number c else c ∷ []

unfoldable pub seen : List ℕ → List ℕ
seen text = flat_map shown text
