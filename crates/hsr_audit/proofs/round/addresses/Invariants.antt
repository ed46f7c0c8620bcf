use Rattle.std.proofs.Common.{◌≡◌, ◌++◌, filter_map, drop}
use Rattle.hsr_audit.specs.Round.{address_of}
use Rattle.hsr_audit.proofs.round.addresses.Given as goal

-- what is left answers for all
abbrev pub invariant-loop-place : goal.invariant-loop-place
invariant-loop-place l = l.macs.items ++ filter_map address_of (drop l.place-index l.places) ≡ filter_map address_of l.places
