use Rattle.std.proofs.Common.{List, ℕ, ◌++◌, codes, refl}
use Rattle.std.specs.Fmt.{decimal}
use Rattle.hsr_judging_text.proofs.Joining.{last_count, next_count}
use Rattle.hsr_judging_text.specs.Report.{sent_text}
use Rattle.hsr_judging_text.proofs.report.put_sent.Goals as goal

pub returns : goal.returns
unfolding sent_text
returns c =
    let old : List ℕ = c.args.text.now.items in
    let own : List ℕ = codes "reference own " ++ decimal c.args.own in
    let sent : List ℕ = own ++ codes " sent " ++ decimal c.args.counters.now.sent in
    let life : List ℕ = sent ++ codes " life " ++ decimal c.args.counters.now.life in
    last_count c.put_count-4.result old c.put_count-3.new.text.items c.put_count-4.new.text.items life (codes " up ") c.args.counters.now.up c.args.counters.now.up refl
    (next_count old c.put_count-2.new.text.items c.put_count-3.new.text.items sent (codes " life ") c.args.counters.now.life c.args.counters.now.life refl
    (next_count old c.put_count.new.text.items c.put_count-2.new.text.items own (codes " sent ") c.args.counters.now.sent c.args.counters.now.sent refl
    c.in_ok-put_count.ensures c.in_ok-put_count-2.ensures) c.in_ok-put_count-3.ensures) c.put_count-4.ensures
