-- The kinds of node that `node` may be, and their words.
use Rattle.std.specs.Prelude.{ℕ, List, [], ◌∷◌, codes, Option, Some, None}
use Rattle.std.specs.Str.{bytes_eq}
use Rattle.hsr_frame.specs.Cases.{first_of}
use Rattle.hsr_options.specs.declared.role.NodeRole.{NodeRole}
use Rattle.hsr_options.specs.declared.role.NodeRole.TheVariants.{Danh, RedBox, QuadBox}

abbrev pub node_role_word : NodeRole → List ℕ
node_role_word Danh = codes "danh"
node_role_word RedBox = codes "redbox"
node_role_word QuadBox = codes "quadbox"

-- the kind of a word
abbrev pub node_role_of : List ℕ → Option NodeRole
node_role_of w = first_of ((bytes_eq w (codes "danh"), Some Danh) ∷ (bytes_eq w (codes "redbox"), Some RedBox) ∷ (bytes_eq w (codes "quadbox"), Some QuadBox) ∷ []) None
