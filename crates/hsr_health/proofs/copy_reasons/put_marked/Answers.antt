use Rattle.hsr_health.proofs.copy_reasons.put_marked.Goals as goal

pub returns : goal.returns
returns c = λ ring is_by_lane carried marks seen. record {
  reason = c.in_ok-reason.reason;
  told = c.in_ok-reason.ensures ring is_by_lane carried marks seen;
  put = c.in_ok-put_reason.ensures;
}
