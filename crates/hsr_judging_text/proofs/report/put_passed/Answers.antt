use Rattle.std.proofs.Common.{List, ℕ, ◌++◌, codes, refl}
use Rattle.std.specs.Fmt.{decimal}
use Rattle.hsr_judging_text.proofs.Joining.{last_piece, next_count}
use Rattle.hsr_judging_text.specs.Report.{dropped, passed_text}
use Rattle.hsr_judging_text.proofs.report.put_passed.Goals as goal

pub returns : goal.returns
unfolding passed_text
returns c =
    let old : List ℕ = c.args.text.now.items in
    let forwarded : List ℕ = codes " forwarded " ++ decimal c.args.counters.now.forwarded in
    let duplicate : List ℕ = forwarded ++ codes " duplicate " ++ decimal c.args.counters.now.duplicate in
    let returned : List ℕ = duplicate ++ codes " returned " ++ decimal c.args.counters.now.returned in
    let all : List ℕ = returned ++ codes " dropped " ++ decimal (dropped c.args.counters.now) in
    last_piece c.put.result old c.put_count-4.new.text.items c.put.new.text.items all (codes "\n")
    (next_count old c.put_count-3.new.text.items c.put_count-4.new.text.items returned (codes " dropped ") c.dropped.result (dropped c.args.counters.now) c.dropped.ensures
    (next_count old c.put_count-2.new.text.items c.put_count-3.new.text.items duplicate (codes " returned ") c.args.counters.now.returned c.args.counters.now.returned refl
    (next_count old c.put_count.new.text.items c.put_count-2.new.text.items forwarded (codes " duplicate ") c.args.counters.now.duplicate c.args.counters.now.duplicate refl
    c.in_ok-put_count.ensures c.in_ok-put_count-2.ensures) c.in_ok-put_count-3.ensures) c.in_ok-put_count-4.ensures) c.put.ensures.ok
