use Rattle.std.proofs.Common.{◌≡◌, arith, false, rules, sym, true}
use Rattle.hsr_frame.specs.Address.{is_same_address}
use Rattle.hsr_health.proofs.Finding.{find_here, find_none_more}
use Rattle.hsr_heard.specs.declared.abouts.About.{About}
use Rattle.hsr_health.proofs.ledger.about_of.Goals as goal

pub returns-then-eq : goal.returns-then-eq
returns-then-eq c =
    let yes : is_same_address c.about-item.result.mac c.args.mac ≡ true = search rules in
    sym (find_here (λ (about : About). is_same_address about.mac c.args.mac) c.args.abouts.now c.loop-about.about-index c.about-item.result c.about-item.result (omega arith) c.about-item.is yes
    c.loop-about.invariant)

pub loop-about-preserved : goal.loop-about-preserved
loop-about-preserved c =
    let no : is_same_address c.about-item.result.mac c.args.mac ≡ false = search rules in
    find_none_more (λ (about : About). is_same_address about.mac c.args.mac) c.args.abouts.now c.loop-about.about-index c.about-item.result c.about-item.result (omega arith) c.about-item.is no
    c.loop-about.invariant
