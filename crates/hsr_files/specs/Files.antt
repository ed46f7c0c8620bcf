-- Files that were put into folders.
--     Puts        these were put, one after the other
--     PutsFront   the first of them were, and not all
use Rattle.std.specs.Prelude.{ℕ, ◌≡◌, ◌<◌, ⊤, List, ◌++◌, length, map, take, Option, Some, None}
use Rattle.hsr_files.specs.declared.disk.NewFile.{NewFile}

pub record File : Type 0 where
  pub folder : List ℕ
  pub name : List ℕ
  pub octets : List ℕ

abbrev pub file_in : List ℕ → NewFile → File
file_in folder file = record { folder = folder; name = file.name.now; octets = file.octets.now }

abbrev pub files_in : List ℕ → List NewFile → List File
files_in folder files = map (file_in folder) files

-- the files that are known to have been put grow by these
abbrev pub Puts : Option (List File) → Option (List File) → List File → Type 0
Puts None new files = ⊤
Puts (Some xs) None files = ⊥
Puts (Some xs) (Some ys) files = ys ≡ xs ++ files

-- by some of the first of these, and not by all
abbrev pub PutsFront : Option (List File) → Option (List File) → List File → Type 0
PutsFront old new files = (n : ℕ) × (n < length files) × Puts old new (take n files)
