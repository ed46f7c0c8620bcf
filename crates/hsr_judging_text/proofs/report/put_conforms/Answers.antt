use Rattle.std.proofs.Common.{List, ℕ, ◌++◌, codes}
use Rattle.std.specs.Fmt.{decimal}
use Rattle.hsr_tap_device.specs.Words.{end_word}
use Rattle.hsr_judging.specs.declared.fates.ObservedFate.TheVariants as observed
use Rattle.hsr_judging_text.proofs.Joining.{first_count, last_piece, next_count, next_piece}
use Rattle.hsr_judging_text.specs.Ports.{observed_as}
use Rattle.hsr_judging_text.specs.Report.{conforms_line, ignored_of, open_of}
use Rattle.hsr_judging_text.specs.Words.{parted}
use Rattle.hsr_judging_text.proofs.report.put_conforms.Goals as goal

pub returns : goal.returns
unfolding conforms_line
returns c =
    let old : List ℕ = c.args.text.now.items in
    let same : ℕ = observed_as c.args.judgement.now observed.Same in
    let ignored : ℕ = ignored_of c.args.judgement.now in
    let outside : ℕ = open_of c.args.judgement.now in
    let one : List ℕ = codes "conforms " ++ decimal same in
    let two : List ℕ = one ++ codes " ignored " ++ decimal ignored in
    let three : List ℕ = two ++ codes " open " ++ decimal outside in
    let four : List ℕ = three ++ codes " not-tapped " in
    let five : List ℕ = four ++ parted end_word c.args.left.now in
    last_piece c.put-2.result old c.put_ends.new.text.items c.put-2.new.text.items five (codes "\n")
    (next_piece old c.put.new.text.items c.put_ends.new.text.items four (parted end_word c.args.left.now)
    (next_piece old c.put_count-3.new.text.items c.put.new.text.items three (codes " not-tapped ")
    (next_count old c.put_count-2.new.text.items c.put_count-3.new.text.items two (codes " open ") c.open_of.result outside c.open_of.ensures
    (next_count old c.put_count.new.text.items c.put_count-2.new.text.items one (codes " ignored ") c.ignored_of.result ignored c.ignored_of.ensures
    (first_count old c.put_count.new.text.items (codes "conforms ") c.observed_as.result same c.observed_as.ensures c.in_ok-put_count.ensures)
    c.in_ok-put_count-2.ensures) c.in_ok-put_count-3.ensures) c.in_ok-put.ensures.ok) c.in_ok-put_ends.ensures) c.put-2.ensures.ok
