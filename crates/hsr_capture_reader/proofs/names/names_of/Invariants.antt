use Rattle.std.proofs.Common.{◌≡◌, length, take}
use Rattle.hsr_capture_reader.specs.Names.{interfaces_by}
use Rattle.hsr_capture_reader.proofs.Naming.{len_of}
use Rattle.hsr_capture_reader.proofs.names.names_of.Given as goal

abbrev pub invariant-loop-interface : goal.invariant-loop-interface
invariant-loop-interface l = record {
  so_far : interfaces_by l.names.items l.others.items ≡ take l.interface-index l.interfaces;
  whole : len_of l.others.items ≡ length l.names.items;
}
