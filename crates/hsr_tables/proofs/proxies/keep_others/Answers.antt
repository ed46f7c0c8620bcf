use Rattle.std.proofs.Common.{rules, not}
use Rattle.arrayvec.proofs.ArrayVecLemmas.{filter-from_retain}
use Rattle.hsr_frame.specs.Address.{is_same_address}
use Rattle.hsr_tables.proofs.proxies.keep_others.Goals as goal

pub returns : goal.returns
returns c =
    filter-from_retain _ (λ h. not (is_same_address h.0 c.args.mac)) _
    (λ x b f' y k. search rules)
    c.args.rows.now.items _ c.retain.ensures.filtered
