use Rattle.std.proofs.Common.{[], ◌∷◌, arith}
use Rattle.hsr_frame.proofs.Texts.{spelled}
use Rattle.hsr_frame.proofs.mac.read_mac.Goals as goal

pub returns-clause-found : goal.returns-clause-found
returns-clause-found c =
    rw c.new.ensures (spelled c.args.text.now (c.octet_at-a.result ∷ c.octet_at-b.result ∷ c.octet_at-c.result ∷ c.octet_at-d.result ∷ c.octet_at-e.result ∷ c.octet_at-g.result ∷ [])
    (omega arith) (λ k lt. c.in_default.ensures.right k (omega arith))
    (record { high = c.octet_at-a.ensures.high; low = c.octet_at-a.ensures.low })
    (record { high = c.octet_at-b.ensures.high; low = c.octet_at-b.ensures.low })
    (record { high = c.octet_at-c.ensures.high; low = c.octet_at-c.ensures.low })
    (record { high = c.octet_at-d.ensures.high; low = c.octet_at-d.ensures.low })
    (record { high = c.octet_at-e.ensures.high; low = c.octet_at-e.ensures.low })
    (record { high = c.octet_at-g.ensures.high; low = c.octet_at-g.ensures.low }))
