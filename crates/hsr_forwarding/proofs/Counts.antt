-- What is counted of an arrival, count by count.
use Rattle.std.proofs.Common.{◌≡◌, ℕ, ◌+◌, ◌≤◌, not, Bool, true, false, if◌then◌else◌, refl, ap, ◌∙◌, add-zero}
use Rattle.hsr_frame.specs.Cause.{is_duplicate, is_returned, is_foreign, is_local, is_untagged, is_tagged, is_malformed}
use Rattle.hsr_frame.specs.Counters.{AreWithin, bit, counted, counted_cause}
use Rattle.hsr_frame.specs.declared.counters.Counters.{Counters}
use Rattle.hsr_frame.specs.declared.node.Cause.{Cause}
use Rattle.hsr_frame.specs.declared.node.Cause.TheVariants as cause
use Rattle.hsr_frame.proofs.Counting.{AreWithin-counted_bad}
use Rattle.hsr_forwarding.specs.Tables.{copies_of, counted_with}
use Rattle.hsr_forwarding.specs.declared.judged.Judged.{Judged}

pub one-more : (p : Bool) (n : ℕ) → n + bit p ≡ (if p then n + 1 else n)
one-more true n = refl
one-more false n = add-zero n

-- the counts after one more arrival, by its cause, whether it went up, its copies, and whether it was a bad supervision frame
abbrev pub counts_plus : Counters → Cause → Bool → ℕ → Bool → Counters
counts_plus k why up copies bad = record {
  sent = k.sent;
  life = k.life;
  up = if up then k.up + 1 else k.up;
  forwarded = k.forwarded + copies;
  duplicate = if is_duplicate why then k.duplicate + 1 else k.duplicate;
  returned = if is_returned why then k.returned + 1 else k.returned;
  foreign = if is_foreign why then k.foreign + 1 else k.foreign;
  local = if is_local why then k.local + 1 else k.local;
  untagged = if is_untagged why then k.untagged + 1 else k.untagged;
  tagged = if is_tagged why then k.tagged + 1 else k.tagged;
  malformed = if is_malformed why then k.malformed + 1 else k.malformed;
  bad_life = if bad then k.bad_life + 1 else k.bad_life;
}

-- what is counted of an arrival, count by count
pub counted-as : (k : Counters) (why : Cause) (up : Bool) (copies : ℕ) → counted k why up copies ≡ counts_plus k why up copies false
counted-as k why up copies = by_cause why
  where
    ups : k.up + bit up ≡ (if up then k.up + 1 else k.up)
    ups = one-more up k.up

    by_cause : (w : Cause) → counted k w up copies ≡ counts_plus k w up copies false
    by_cause (cause.Malformed fault) = λ i. record (counted_cause k (cause.Malformed fault)) { up = ups i; forwarded = k.forwarded + copies }
    by_cause cause.Passed = λ i. record (counted_cause k cause.Passed) { up = ups i; forwarded = k.forwarded + copies }
    by_cause cause.Duplicate = λ i. record (counted_cause k cause.Duplicate) { up = ups i; forwarded = k.forwarded + copies }
    by_cause cause.Returned = λ i. record (counted_cause k cause.Returned) { up = ups i; forwarded = k.forwarded + copies }
    by_cause cause.Foreign = λ i. record (counted_cause k cause.Foreign) { up = ups i; forwarded = k.forwarded + copies }
    by_cause cause.Local = λ i. record (counted_cause k cause.Local) { up = ups i; forwarded = k.forwarded + copies }
    by_cause cause.Untagged = λ i. record (counted_cause k cause.Untagged) { up = ups i; forwarded = k.forwarded + copies }
    by_cause cause.Tagged = λ i. record (counted_cause k cause.Tagged) { up = ups i; forwarded = k.forwarded + copies }

-- the same, with a supervision payload that could be read or not
pub counted-plus : (k : Counters) (judged : Judged) (readable bad : Bool) → not readable ≡ bad → counted_with k judged readable ≡ counts_plus k judged.cause judged.passes.up (copies_of judged.passes) bad
counted-plus k judged readable bad e =
    let bads : k.bad_life + bit (not readable) ≡ (if bad then k.bad_life + 1 else k.bad_life) = ap (λ p. k.bad_life + bit p) e ∙ one-more bad k.bad_life in
    ap (λ (arrived : Counters). record arrived { bad_life = arrived.bad_life + bit (not readable) }) (counted-as k judged.cause judged.passes.up (copies_of judged.passes))
    ∙ (λ i. record (counts_plus k judged.cause judged.passes.up (copies_of judged.passes) false) { bad_life = bads i })

-- an arrival that at most three ports passed
pub AreWithin-arrived : (counters : Counters) (judged : Judged) (readable : Bool) (accepted : ℕ) → copies_of judged.passes ≤ 3 → AreWithin counters accepted
    → AreWithin (counted_with counters judged readable) (accepted + 1)
AreWithin-arrived counters judged readable accepted few w =
    AreWithin-counted_bad counters judged.cause judged.passes.up (not readable) (copies_of judged.passes) accepted few w
