-- The lines of a plan's text.
--     IsLineOf   a line where a part of the plan stands
use Rattle.std.specs.Prelude.{ℕ, ◌≡◌, ◌≤◌, true, List, length, Option, Some, None}
use Rattle.hsr_toml.specs.Lexing.{bare}
use Rattle.hsr_toml.specs.Places.{stands}
use Rattle.hsr_toml.specs.Position.{position_of}
use Rattle.hsr_toml.specs.declared.lexing.Lexing.TheVariants.{Plain}
use Rattle.hsr_plan_network.specs.Nodes.{Node as PlanNode}
use Rattle.hsr_plan_certify.specs.Parts.{node_name}
use Rattle.hsr_plan_certify.specs.declared.part.Part.{Part}
use Rattle.hsr_plan_certify.specs.declared.part.Part.TheVariants.{Stream, Node, Mode}

-- the line of an octet, from 1
abbrev pub IsLineAt : List ℕ → ℕ → ℕ → Type 0
IsLineAt text at line = (at ≤ length text) × (line ≡ (position_of text at).line)

abbrev pub IsLineIn : List ℕ → ℕ → Type 0
IsLineIn text line = (at : ℕ) × IsLineAt text at line

-- a word stands in the line, by itself or as a string, and in no comment
abbrev pub IsLineWith : List ℕ → List ℕ → List ℕ → ℕ → Type 0
IsLineWith text bare word line = (at : ℕ) × IsLineAt text at line × (stands text bare word at ≡ true)

abbrev pub IsLineFor : List ℕ → List ℕ → List PlanNode → Part → ℕ → Type 0
IsLineFor text bare nodes (Stream i) line = IsLineIn text line
IsLineFor text bare nodes (Node k) line = IsLineWith text bare (node_name nodes k) line
IsLineFor text bare nodes (Mode k) line = IsLineWith text bare (node_name nodes k) line

-- of a node, or its mode, one in which the node's name stands; there is none where there is no part of the plan to stand there
abbrev pub IsLineOf : List ℕ → List PlanNode → Option Part → Option ℕ → Type 0
IsLineOf text nodes part None = Unit {0}
IsLineOf text nodes None (Some line) = ⊥
IsLineOf text nodes (Some part) (Some line) = IsLineFor text (bare Plain text) nodes part line
