-- The document that a text is.
use Rattle.std.specs.Prelude.{ℕ, ◌^◌, nat_le, Bool, true, false, List, length, Option, Some, None, if◌then◌else◌}
use Rattle.toml.specs.Data.{Members}
use Rattle.toml.specs.Parse.{parse_document}
use Rattle.hsr_toml.specs.declared.document.NoDocument.{NoDocument}
use Rattle.hsr_toml.specs.declared.document.NoDocument.TheVariants.{NoToml, NoMemory}

abbrev pub is_memory : NoDocument → Bool
is_memory NoToml = false
is_memory NoMemory = true

-- a text of at most 16 MiB that is a document of TOML
abbrev pub document_of : List ℕ → Option Members
document_of text = if nat_le (length text) (2 ^ 24) then parse_document text else None
