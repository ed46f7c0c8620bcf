-- The words that texts have for directions and fates.
use Rattle.std.specs.Prelude.{ℕ, List, [], ◌∷◌, codes, Option, Some, None}
use Rattle.std.specs.Str.{bytes_eq}
use Rattle.hsr_frame.specs.Cases.{first_of}
use Rattle.hsr_link.specs.declared.row.Dir.{Dir}
use Rattle.hsr_link.specs.declared.row.Dir.TheVariants.{Forth, Back}
use Rattle.hsr_link.specs.declared.row.Fate.{Fate}
use Rattle.hsr_link.specs.declared.row.Fate.TheVariants.{Queued, Taken, LostDown, LostCut, LostOverrun}

abbrev pub dir_word : Dir → List ℕ
dir_word Forth = codes "forth"
dir_word Back = codes "back"

-- the direction of a word
abbrev pub dir_of : List ℕ → Option Dir
dir_of w = first_of ((bytes_eq w (codes "forth"), Some Forth) ∷ (bytes_eq w (codes "back"), Some Back) ∷ []) None

abbrev pub fate_word : Fate → List ℕ
fate_word Queued = codes "queued"
fate_word Taken = codes "taken"
fate_word LostDown = codes "down"
fate_word LostCut = codes "cut"
fate_word LostOverrun = codes "overrun"

-- the fate of a word
abbrev pub fate_of : List ℕ → Option Fate
fate_of w = first_of
    ((bytes_eq w (codes "queued"), Some Queued) ∷ (bytes_eq w (codes "taken"), Some Taken)
    ∷ (bytes_eq w (codes "down"), Some LostDown) ∷ (bytes_eq w (codes "cut"), Some LostCut)
    ∷ (bytes_eq w (codes "overrun"), Some LostOverrun) ∷ [])
    None
