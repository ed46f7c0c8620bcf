-- The files of a run's tables.
use Rattle.std.proofs.Common.{◌≡◌, ◌∙◌, List, [], ◌∷◌, ℕ}
use Rattle.std.specs.Prelude.{codes}
use Rattle.hsr_files.specs.Files.{File, files_in}
use Rattle.hsr_files.specs.declared.disk.NewFile.{NewFile}
use Rattle.hsr_run_tables.specs.declared.tables.RunTables.{RunTables}
use Rattle.hsr_commands.specs.Shown.{file, table_files}

abbrev pub six : (folder nodes links sends load latency doubt : List ℕ) → List File
six folder nodes links sends load latency doubt =
    file folder (codes "nodes.csv") nodes ∷ file folder (codes "links.csv") links ∷ file folder (codes "sends.csv") sends
    ∷ file folder (codes "load.csv") load ∷ file folder (codes "latency.csv") latency ∷ file folder (codes "doubt.csv") doubt ∷ []

-- files with the octets of the tables are theirs
pub are_table_files : (folder : List ℕ) (tables : RunTables) (files : List NewFile) (nodes links sends load latency doubt : List ℕ) → nodes ≡ tables.nodes.items
    → links ≡ tables.links.items → sends ≡ tables.sends.items → load ≡ tables.load.items → latency ≡ tables.latency.items → doubt ≡ tables.doubt.items
    → files_in folder files ≡ six folder nodes links sends load latency doubt → files_in folder files ≡ table_files folder tables
are_table_files folder tables files nodes links sends load latency doubt a b c d e f are = are ∙ (λ i. six folder (a i) (b i) (c i) (d i) (e i) (f i))
