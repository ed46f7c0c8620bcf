use Rattle.std.proofs.Common.{◌≡◌, ℕ, ◌-◌, ◌++◌, ◌∙◌, List, [], take, Option, None, refl}
use Rattle.std.specs.Prelude.{replicate}
use Rattle.hsr_playback.specs.Own.{none_begun}
use Rattle.hsr_playback.proofs.own.none_begun.Goals as goal

-- room that was empty has them alone
filled : (old : List (Option ℕ)) (len : ℕ) → old ≡ [] → len ≡ 0 → take 65536 old ++ replicate (65536 - len) None ≡ none_begun
unfolding none_begun
filled old len empty none = rw (empty, none) refl

pub returns : goal.returns
returns c = c.in_ok-resize.ensures.items ∙ filled _ _ c.new-begun.ensures.items c.new-begun.ensures.len
