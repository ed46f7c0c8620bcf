use Rattle.std.proofs.Common.{◌≡◌, ◌+◌, ◌∙◌, ap, length, rules, Some}
use Rattle.std.specs.Prelude.{slice_get}
use Rattle.std.proofs.lemmas.List.{length_push}
use Rattle.hsr_taps.specs.Came.{tally_if}
use Rattle.hsr_taps.specs.Tallies.{is_at}
use Rattle.hsr_taps.specs.declared.tally.Tally.{Tally}
use Rattle.hsr_taps.proofs.Coming.{tally_put}
use Rattle.hsr_taps.proofs.Tallying.{all_more}
use Rattle.hsr_taps.proofs.tapping.tallies_if.Goals as goal

pub loop-i-preserved : goal.loop-i-preserved
loop-i-preserved c =
    let looked = c.args.looked_at.now in
    let tallies = c.args.tallies.now in
    let i = c.loop-i.i in
    record {
      long = ap length c.in_ok-push.ensures.items ∙ length_push c.loop-i.all.items c.tally_if.result ∙ ap (λ n. n + 1) c.loop-i.invariant.long;
      tallies = λ k own tally at_k there. all_more (λ n x. (t : Tally) → slice_get tallies n ≡ Some t → x ≡ tally_if (is_at looked n) t) c.loop-i.all.items _ i c.tally_if.result c.loop-i.invariant.long
          c.in_ok-push.ensures.items (λ n x at_n t at_t. c.loop-i.invariant.tallies n x t at_n at_t) (λ t at_t. tally_put looked tallies i c.tally_if.result _ _ t at_t (search rules) (search rules) c.tally_if.ensures) k own at_k tally there;
    }
