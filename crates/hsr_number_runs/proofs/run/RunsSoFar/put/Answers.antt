use Rattle.std.proofs.Common.{◌≡◌, ◌+◌, ◌≤◌, ◌∷◌, ◌++◌, [], ◌<◌, ◌^◌, ap, arith, length, refl, reverse, subst, sym}
use Rattle.std.proofs.lemmas.List.{length-reverse}
use Rattle.hsr_number_runs.specs.Runs.{in_runs, numbers_of, run_count}
use Rattle.hsr_number_runs.proofs.Back.{large_more, numbers_more, past_more}
use Rattle.hsr_number_runs.proofs.Running.{AreSmall, few_more, has_room, in_runs_more, knows_more, restarts_more, run_small, small_more}
use Rattle.hsr_number_runs.proofs.run.RunsSoFar.put.Goals as goal

pub put-requires : goal.put-requires
put-requires c =
    let is = c.self.invariant in
    let numbers = numbers_of c.self.inside.in_runs.items in
    let past = reverse numbers in
    let short : length past < 2 ^ 31 = omega (arith, length-reverse numbers, ap length c.self.view_is, c.requires) in
    let placed = c.place-placed.ensures (in_runs past) is.knows (has_room (in_runs past) (length past) short is.small) in
    let few = run_small (in_runs past) c.args.n c.place-placed.result.in_run (length past) placed.is is.few in
    omega (arith, few, short)

pub invariant_of-result : goal.invariant_of-result
invariant_of-result c =
    let is = c.self.invariant in
    let done = c.self.inside.in_runs.items in
    let numbers = numbers_of done in
    let past = reverse numbers in
    let new = c.push.new.self.items in
    let short : length past < 2 ^ 31 = omega (arith, length-reverse numbers, ap length c.self.view_is, c.requires) in
    let placed = c.place-placed.ensures (in_runs past) is.knows (has_room (in_runs past) (length past) short is.small) in
    let more : numbers_of new ≡ numbers ++ c.args.n ∷ [] =
    numbers_more done new numbers past c.args.n c.place-placed.result.in_run c.in_ok-push.ensures.items refl placed.is is.large placed.number in
    let past' = reverse (numbers_of new) in
    let next : past' ≡ c.args.n ∷ past = past_more numbers (numbers_of new) c.args.n more in
    let long : length past + 1 ≡ length past' = omega (arith, ap length next) in
    record {
      knows = knows_more c.put.new.self past past' c.args.n c.place-placed.result.in_run next placed.is (c.in_ok-put.ensures (in_runs past) is.knows);
      few = subst (λ k. run_count (in_runs past') ≤ k) long (few_more past past' c.args.n (length past) next is.few);
      small = subst (AreSmall (in_runs past')) long (small_more past past' c.args.n (length past) next placed.number is.small);
      large = large_more past past' c.args.n next is.large;
      placed = in_runs_more done new past past' c.args.n c.place-placed.result.in_run next placed.is c.in_ok-push.ensures.items is.placed;
      begun = restarts_more c.self.inside.restarts.items c.put_restart.new.restarts.items past past' c.args.n c.place-placed.result.restart next placed.restart c.in_ok-put_restart.ensures is.begun;
    }

pub returns : goal.returns
returns c =
    let is = c.self.invariant in
    let done = c.self.inside.in_runs.items in
    let numbers = numbers_of done in
    let past = reverse numbers in
    let short : length past < 2 ^ 31 = omega (arith, length-reverse numbers, ap length c.self.view_is, c.requires) in
    let placed = c.place-placed.ensures (in_runs past) is.knows (has_room (in_runs past) (length past) short is.small) in
    numbers_more done c.push.new.self.items c.args.self past c.args.n c.place-placed.result.in_run c.in_ok-push.ensures.items (sym c.self.view_is) placed.is is.large placed.number
