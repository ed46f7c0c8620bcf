-- The sizes of duplicate tables, how many entries they hold, and their words.
--     capacity_of, table_with   how many entries, and the size with so many
--     table_word, table_of      the word of a size, and the size that a word chooses
--     table_words               all words that choose one
use Rattle.std.specs.Prelude.{ℕ, ◌==◌, List, [], ◌∷◌, codes, Option, Some, None}
use Rattle.std.specs.Str.{bytes_eq}
use Rattle.hsr_frame.specs.Cases.{first_of}
use Rattle.hsr_text.specs.Words.{◌>>=◌, decimal_of}
use Rattle.hsr_table_size.specs.declared.size.TableSize.{TableSize}
use Rattle.hsr_table_size.specs.declared.size.TableSize.TheVariants.{Small, Entries8, Entries16, Entries32, Entries64, Entries128, Entries256, Large, Entries1024, Entries2048, Entries4096, Entries8192, Entries16384, Entries32768, Entries65535}

-- how many entries a duplicate table holds
abbrev pub capacity_of : TableSize → ℕ
capacity_of Small = 4
capacity_of Entries8 = 8
capacity_of Entries16 = 16
capacity_of Entries32 = 32
capacity_of Entries64 = 64
capacity_of Entries128 = 128
capacity_of Entries256 = 256
capacity_of Large = 512
capacity_of Entries1024 = 1024
capacity_of Entries2048 = 2048
capacity_of Entries4096 = 4096
capacity_of Entries8192 = 8192
capacity_of Entries16384 = 16384
capacity_of Entries32768 = 32768
capacity_of Entries65535 = 65535

-- the size of tables with so many entries
abbrev pub table_with : ℕ → Option TableSize
table_with n = first_of
    ((n == 4, Some Small) ∷ (n == 8, Some Entries8) ∷ (n == 16, Some Entries16) ∷ (n == 32, Some Entries32)
    ∷ (n == 64, Some Entries64) ∷ (n == 128, Some Entries128) ∷ (n == 256, Some Entries256) ∷ (n == 512, Some Large)
    ∷ (n == 1024, Some Entries1024) ∷ (n == 2048, Some Entries2048) ∷ (n == 4096, Some Entries4096) ∷ (n == 8192, Some Entries8192)
    ∷ (n == 16384, Some Entries16384) ∷ (n == 32768, Some Entries32768) ∷ (n == 65535, Some Entries65535) ∷ [])
    None

abbrev pub table_word : TableSize → List ℕ
table_word Small = codes "small"
table_word Entries8 = codes "8"
table_word Entries16 = codes "16"
table_word Entries32 = codes "32"
table_word Entries64 = codes "64"
table_word Entries128 = codes "128"
table_word Entries256 = codes "256"
table_word Large = codes "large"
table_word Entries1024 = codes "1024"
table_word Entries2048 = codes "2048"
table_word Entries4096 = codes "4096"
table_word Entries8192 = codes "8192"
table_word Entries16384 = codes "16384"
table_word Entries32768 = codes "32768"
table_word Entries65535 = codes "65535"

-- the size that a word chooses: one of two names, or how many entries
abbrev pub table_of : List ℕ → Option TableSize
table_of w = first_of ((bytes_eq w (codes "small"), Some Small) ∷ (bytes_eq w (codes "large"), Some Large) ∷ []) (decimal_of w >>= table_with)

-- the words that choose a size
abbrev pub table_words : List (List ℕ)
table_words =
    codes "small" ∷ codes "large" ∷ codes "4" ∷ codes "8" ∷ codes "16" ∷ codes "32"
    ∷ codes "64" ∷ codes "128" ∷ codes "256" ∷ codes "512" ∷ codes "1024" ∷ codes "2048"
    ∷ codes "4096" ∷ codes "8192" ∷ codes "16384" ∷ codes "32768" ∷ codes "65535" ∷ []
