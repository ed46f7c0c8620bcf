-- What was written as a word, or told as a number, is read again.
use Rattle.std.proofs.Common.{◌≡◌, Some, refl}
use Rattle.hsr_table_size.specs.Sizes.{capacity_of, table_of, table_with, table_word}
use Rattle.hsr_table_size.specs.declared.size.TableSize.{TableSize}
use Rattle.hsr_table_size.specs.declared.size.TableSize.TheVariants.{Small, Entries8, Entries16, Entries32, Entries64, Entries128, Entries256, Large, Entries1024, Entries2048, Entries4096, Entries8192, Entries16384, Entries32768, Entries65535}

pub with_again : (table : TableSize) → table_with (capacity_of table) ≡ Some table
with_again Small = refl
with_again Entries8 = refl
with_again Entries16 = refl
with_again Entries32 = refl
with_again Entries64 = refl
with_again Entries128 = refl
with_again Entries256 = refl
with_again Large = refl
with_again Entries1024 = refl
with_again Entries2048 = refl
with_again Entries4096 = refl
with_again Entries8192 = refl
with_again Entries16384 = refl
with_again Entries32768 = refl
with_again Entries65535 = refl

pub table_again : (table : TableSize) → table_of (table_word table) ≡ Some table
table_again Small = refl
table_again Entries8 = refl
table_again Entries16 = refl
table_again Entries32 = refl
table_again Entries64 = refl
table_again Entries128 = refl
table_again Entries256 = refl
table_again Large = refl
table_again Entries1024 = refl
table_again Entries2048 = refl
table_again Entries4096 = refl
table_again Entries8192 = refl
table_again Entries16384 = refl
table_again Entries32768 = refl
table_again Entries65535 = refl
