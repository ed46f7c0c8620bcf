use Rattle.std.proofs.Common.{◌≡◌, ◌+◌, ◌-◌, take, reverse}
use Rattle.hsr_duptable.specs.Notes.{has_key, unexpired_notes, IsRising}
use Rattle.hsr_duptable.specs.Buckets.{bucket_of, bucket_notes, looks_until, looks_of}
use Rattle.hsr_duptable.specs.Chains.{notes_of, IsYoungest}
use Rattle.hsr_duptable.proofs.chain.look_up.Given as goal

-- what is left of the bucket answers for all
abbrev pub invariant-loop-entry : goal.invariant-loop-entry
invariant-loop-entry g l =
    let bucket = bucket_of g.row.C l.key in
    let left = bucket_notes g.row.C bucket (notes_of (take (l.serial - l.gone) l.ring.items)) in
    record {
      youngest : IsYoungest g.row.C bucket l.gone (take (l.serial - l.gone) l.ring.items) l.serial;
      rising : IsRising 0 left l.at;
      seen : has_key l.key (unexpired_notes l.forget l.at left) ≡ has_key l.key (unexpired_notes l.forget l.at (notes_of l.ring.items));
      counted : l.looks + looks_until l.key (reverse left) ≡ looks_of g.row.C l.key (notes_of l.ring.items);
    }

abbrev pub decreases-loop-entry : goal.decreases-loop-entry
decreases-loop-entry g l = l.serial
