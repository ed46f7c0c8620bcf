use Rattle.std.proofs.Common.{rules, ◌≡◌, ◌<◌, ◌∙◌, ℕ, Bool, not, ap, arith, length, slice_index_or, subst, sym}
use Rattle.hsr_faults.specs.CutOff.{is_cut}
use Rattle.hsr_faults.specs.Lines.{told_at}
use Rattle.hsr_faults.proofs.Counting.{all_below, count_map, counted_more, none_below}
use Rattle.hsr_faults.proofs.outage.all_cut.Goals as goal

pub loop-j-init : goal.loop-j-init
loop-j-init c =
    sym (none_below (λ x. is_cut (told_at c.args.groups.now c.args.missed.now x)) c.args.of.now)

pub loop-j-preserved : goal.loop-j-preserved
loop-j-preserved c =
    let p : ℕ → Bool = λ x. is_cut (told_at c.args.groups.now c.args.missed.now x) in
    let j : ℕ = c.loop-j.j in
    let low : j < length c.args.missed.now = search rules in
    let many = c.requires.many in
    let below : j < length c.args.groups.now = omega (arith, low, many) in
    counted_more p j c.args.of.now c.loop-j.sends c.if_one-sends.result (slice_index_or c.args.counts.now j 0) (not c.is_empty.result) c.loop-j.invariant c.if_one-sends.ensures (ap not c.is_empty.ensures)
    (c.requires.counts_are.each j 0 below)

pub returns : goal.returns
returns c =
    let p : ℕ → Bool = λ x. is_cut (told_at c.args.groups.now c.args.missed.now x) in
    let end : c.loop-j.j ≡ length c.args.missed.now = search rules in
    let same : c.loop-j.j ≡ length c.args.groups.now = end ∙ c.requires.many in
    c.loop-j.invariant
    ∙ (all_below p c.loop-j.j c.args.of.now (λ i d low. subst (λ n. slice_index_or c.args.of.now i d < n) (sym same) (c.requires.below i d low))
    ∙ sym (count_map is_cut (told_at c.args.groups.now c.args.missed.now) c.args.of.now))
