use Rattle.std.proofs.Common.{◌≡◌, ◌++◌, length, drop, map, option_map}
use Rattle.hsr_scenario.specs.Tables.{each_of}
use Rattle.hsr_toml.specs.Names.{mac_of}
use Rattle.hsr_scenario.proofs.nodes.each_mac.Given as goal

abbrev pub invariant-loop-text : goal.invariant-loop-text
invariant-loop-text l =
    (length l.macs.items ≡ l.text-index)
    × (option_map (λ xs. l.macs.items ++ xs) (each_of mac_of (map (λ s. s.now) (drop l.text-index l.texts))) ≡ each_of mac_of (map (λ s. s.now) l.texts))
