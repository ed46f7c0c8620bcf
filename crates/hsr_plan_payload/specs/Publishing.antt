-- Who publishes, and what its frames say of it.
use Rattle.std.specs.Prelude.{ℕ, List, Option, Some, None, ◌∷◌, ◌++◌, codes}

pub record Publisher : Type 0 where
  -- the name of the device
  pub device : List ℕ
  pub appid : ℕ
  -- the names of its control block and of the data set, without the device's
  pub control_block : List ℕ
  pub data_set : List ℕ
  -- goID or svID
  pub id : Option (List ℕ)

-- what follows the device's name in references to a control block of GOOSE, and to a data set (IEC 61850-8-1)
unfoldable pub goose_block : List ℕ
goose_block = codes "/LLN0$GO$"

unfoldable pub logical_node : List ℕ
logical_node = codes "/LLN0$"

abbrev pub block_reference : Publisher → List ℕ
block_reference p = p.device ++ (goose_block ++ p.control_block)

abbrev pub set_reference : Publisher → List ℕ
set_reference p = p.device ++ (logical_node ++ p.data_set)

-- where no id is said: the device and its control block, with a low line between them
abbrev pub id_if : Publisher → Option (List ℕ) → List ℕ
id_if p None = p.device ++ 95 ∷ p.control_block
id_if p (Some id) = id

abbrev pub id_of : Publisher → List ℕ
id_of p = id_if p p.id
