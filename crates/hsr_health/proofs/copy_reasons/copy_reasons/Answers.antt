use Rattle.std.proofs.Common.{◌++◌, ◌∙◌, ap}
use Rattle.std.specs.Prelude.{option_to_list}
use Rattle.hsr_health.proofs.copy_reasons.copy_reasons.Goals as goal

pub returns : goal.returns
returns c = λ ring is_by_lane carried marks seen over.
    let storm = c.in_ok-put_marked.ensures ring is_by_lane carried marks seen in
    let again = c.in_ok-put_marked-2.ensures ring is_by_lane carried marks seen in
    let clash = c.in_ok-put_marked-3.ensures ring is_by_lane carried marks seen in
    let late = c.in_ok-put_marked-4.ensures ring is_by_lane carried marks seen in
    let size = c.in_ok-put_marked-5.ensures ring is_by_lane carried marks seen in
    let lane = c.in_ok-put_marked-6.ensures ring is_by_lane carried marks seen in
    record {
      storm = storm.reason;
      again = again.reason;
      clash = clash.reason;
      late = late.reason;
      size = size.reason;
      lane = lane.reason;
      overtaken = c.overtaken_reason-overtaken.result;
      storm_told = storm.told;
      again_told = again.told;
      clash_told = clash.told;
      late_told = late.told;
      size_told = size.told;
      lane_told = lane.told;
      overtaken_told = c.overtaken_reason-overtaken.ensures over;
      all =
          c.in_ok-put_reason.ensures
          ∙ ap (λ l. l ++ option_to_list c.overtaken_reason-overtaken.result)
          (lane.put ∙ ap (λ l. l ++ option_to_list lane.reason)
          (size.put ∙ ap (λ l. l ++ option_to_list size.reason)
          (late.put ∙ ap (λ l. l ++ option_to_list late.reason)
          (clash.put ∙ ap (λ l. l ++ option_to_list clash.reason)
          (again.put ∙ ap (λ l. l ++ option_to_list again.reason) (storm.put ∙ ap (λ l. l ++ option_to_list storm.reason) c.new-reasons.ensures.items))))));
    }
