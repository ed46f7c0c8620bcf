use Rattle.std.proofs.Common.{◌≡◌, ◌∙◌, ◌⊎◌, ◌++◌, ℕ, List, [], ◌∷◌, Some, ap, inl, inr, length, subst, sym}
use Rattle.std.specs.Prelude.{slice_get}
use Rattle.hsr_frame_groups.specs.Frames.{CaughtFields}
use Rattle.hsr_sightings.specs.Read.{AreCrowds, IsCrowd}
use Rattle.hsr_sightings.specs.Ring.{Ring}
use Rattle.hsr_sightings.specs.declared.late.Crowd.{Crowd}
use Rattle.hsr_sightings.proofs.Counting.{long_more}
use Rattle.hsr_sightings.proofs.Gathering.{slice_get_push}
use Rattle.hsr_sightings.proofs.late.crowds_of.Goals as goal

crowds_more : (ring : Ring) (copies : List CaughtFields) (crowds new : List Crowd) (found : Crowd) (n : ℕ) → length crowds ≡ n → new ≡ crowds ++ found ∷ [] → AreCrowds ring copies crowds
    → IsCrowd ring copies n found → AreCrowds ring copies new
crowds_more ring copies crowds new found n long is are crowd point own here = by_case (slice_get_push crowds found own point (ap (λ l. slice_get l point) (sym is) ∙ here))
  where
    by_case : (slice_get crowds point ≡ Some own) ⊎ ((point ≡ length crowds) × (own ≡ found)) → IsCrowd ring copies point own
    by_case (inl before) = are point own before
    by_case (inr last) = subst (λ k. IsCrowd ring copies k own) (sym (last.0 ∙ long)) (subst (IsCrowd ring copies n) (sym last.1) crowd)

pub loop-point-preserved : goal.loop-point-preserved
loop-point-preserved c =
    let before = c.loop-point.invariant in
    record {
      long = long_more c.loop-point.crowds.items _ c.loop-point.point _ before.long c.in_ok-push.ensures.items;
      crowds = crowds_more c.args.ring.now c.args.copies.now c.loop-point.crowds.items c.push.new.self.items _ c.loop-point.point before.long c.in_ok-push.ensures.items before.crowds c.in_ok-crowd_of.ensures;
    }
