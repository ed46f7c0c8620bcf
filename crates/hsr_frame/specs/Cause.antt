-- Why an arrival went where it did.
use Rattle.std.specs.Prelude.{Bool, true, false}
use Rattle.hsr_frame.specs.declared.node.Cause.{Cause}
use Rattle.hsr_frame.specs.declared.node.Cause.TheVariants as cause

abbrev pub is_duplicate : Cause → Bool
is_duplicate cause.Duplicate = true
is_duplicate _ = false

abbrev pub is_returned : Cause → Bool
is_returned cause.Returned = true
is_returned _ = false

abbrev pub is_foreign : Cause → Bool
is_foreign cause.Foreign = true
is_foreign _ = false

abbrev pub is_local : Cause → Bool
is_local cause.Local = true
is_local _ = false

abbrev pub is_untagged : Cause → Bool
is_untagged cause.Untagged = true
is_untagged _ = false

abbrev pub is_tagged : Cause → Bool
is_tagged cause.Tagged = true
is_tagged _ = false

abbrev pub is_malformed : Cause → Bool
is_malformed (cause.Malformed fault) = true
is_malformed _ = false
