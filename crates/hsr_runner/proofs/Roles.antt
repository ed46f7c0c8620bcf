-- One worker more.
use Rattle.std.proofs.Common.{◌≡◌, ℕ, ◌+◌, [], ◌∷◌, ◌++◌, filter_map, map, ap, ◌∙◌, arith}
use Rattle.std.specs.List.{cons_option, range_with_len}
use Rattle.std.proofs.lemmas.List.Elements.{filter_map-append}
use Rattle.std.proofs.lemmas.List.FromFn.{map-range_with_len_more}
use Rattle.hsr_topology.specs.Topology.{Topology}
use Rattle.hsr_runner.specs.Wires.{role_at, roles_below}

pub one_more : (topology : Topology) (n : ℕ) → roles_below topology (n + 1) ≡ roles_below topology n ++ cons_option (role_at topology n) []
one_more topology n =
    ap (filter_map (λ role. role)) (map-range_with_len_more (role_at topology) 0 n n (omega arith))
    ∙ filter_map-append (λ role. role) (map (role_at topology) (range_with_len 0 n)) (role_at topology n ∷ [])
