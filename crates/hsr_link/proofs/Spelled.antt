-- What was written as a word is read again.
use Rattle.std.proofs.Common.{◌≡◌, Some, refl}
use Rattle.hsr_link.specs.Words.{dir_of, dir_word, fate_of, fate_word}
use Rattle.hsr_link.specs.declared.row.Dir.{Dir}
use Rattle.hsr_link.specs.declared.row.Dir.TheVariants.{Forth, Back}
use Rattle.hsr_link.specs.declared.row.Fate.{Fate}
use Rattle.hsr_link.specs.declared.row.Fate.TheVariants.{Queued, Taken, LostDown, LostCut, LostOverrun}

pub dir_again : (dir : Dir) → dir_of (dir_word dir) ≡ Some dir
dir_again Forth = refl
dir_again Back = refl

pub fate_again : (fate : Fate) → fate_of (fate_word fate) ≡ Some fate
fate_again Queued = refl
fate_again Taken = refl
fate_again LostDown = refl
fate_again LostCut = refl
fate_again LostOverrun = refl
