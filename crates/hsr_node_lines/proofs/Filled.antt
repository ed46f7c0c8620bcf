-- Octets of a packet that was captured whole.
use Rattle.std.proofs.Common.{◌≡◌, ◌-◌, ◌≤◌, ◌++◌, length, ap, ◌∙◌, arith}
use Rattle.std.proofs.lemmas.List.{append-nil}
use Rattle.std.specs.Prelude.{replicate}
use Rattle.hsr_capture_reader.specs.Fields.{PacketFields}
use Rattle.hsr_frame_copies.specs.Contents.{filled}

-- nothing was cut off
pub whole_filled : (p : PacketFields) → p.length ≤ length p.octets → filled p ≡ p.octets
whole_filled p h =
    let none : p.length - length p.octets ≡ 0 = omega arith in
    ap (λ n. p.octets ++ replicate n 0) none ∙ append-nil p.octets
