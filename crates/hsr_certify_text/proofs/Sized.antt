-- Each size that is chosen is one that tables may have.
use Rattle.std.proofs.Common.{arith}
use Rattle.hsr_duptable.specs.Table.{IsTableSize}
use Rattle.hsr_table_size.specs.Sizes.{capacity_of}
use Rattle.hsr_table_size.specs.declared.size.TableSize.{TableSize}
use Rattle.hsr_table_size.specs.declared.size.TableSize.TheVariants.{Small, Entries8, Entries16, Entries32, Entries64, Entries128, Entries256, Large, Entries1024, Entries2048, Entries4096, Entries8192, Entries16384, Entries32768, Entries65535}

pub is_sized : (table : TableSize) → IsTableSize (capacity_of table)
is_sized Small = (omega arith, omega arith)
is_sized Entries8 = (omega arith, omega arith)
is_sized Entries16 = (omega arith, omega arith)
is_sized Entries32 = (omega arith, omega arith)
is_sized Entries64 = (omega arith, omega arith)
is_sized Entries128 = (omega arith, omega arith)
is_sized Entries256 = (omega arith, omega arith)
is_sized Large = (omega arith, omega arith)
is_sized Entries1024 = (omega arith, omega arith)
is_sized Entries2048 = (omega arith, omega arith)
is_sized Entries4096 = (omega arith, omega arith)
is_sized Entries8192 = (omega arith, omega arith)
is_sized Entries16384 = (omega arith, omega arith)
is_sized Entries32768 = (omega arith, omega arith)
is_sized Entries65535 = (omega arith, omega arith)
