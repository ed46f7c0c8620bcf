use Rattle.std.proofs.lemmas.Result.{err_from_is_err_and}
use Rattle.std.proofs.Common.{◌≡◌, ◌∙◌, ap, sym}
use Rattle.hsr_frame.specs.Grammar.{Fields}
use Rattle.hsr_frame.specs.Cases.{unless}
use Rattle.hsr_tag.specs.Tag.{with_tag}
use Rattle.hsr_tag.specs.Seen.{seen_in, tag_fault}
use Rattle.hsr_tag.proofs.Frames.{classified-err, classified-ok, seen-tagged, seen_answer, spells, tagged_raw}
use Rattle.hsr_tag.proofs.seen.read_seen.Goals as goal

pub returns-in_err-head-clause-exact : goal.returns-in_err-head-clause-exact
returns-in_err-head-clause-exact c =
    let exit = err_from_is_err_and c.from_residual.result c.from_residual.ensures.1 in
    rw (exit.1, exit.2) (sym (classified-err c.args.octets.now c.in_err-head.field-0.0 c.in_err-head.ensures.exact))

pub returns-in_err-head-clause-only_tagged : goal.returns-in_err-head-clause-only_tagged
returns-in_err-head-clause-only_tagged c = λ t w e. let read = c.in_err-head.ensures.only (with_tag t) (tagged_raw t w) e in absurd cc

pub returns-clause-exact : goal.returns-clause-exact
returns-clause-exact c =
    seen_answer c.in_ok-head.head c.seen_of.result c.seen_of.ensures.found c.seen_of.ensures.fault
    ∙ sym (classified-ok c.args.octets.now c.in_ok-head.head c.in_ok-head.ensures.exact)

pub returns-clause-found : goal.returns-clause-found
returns-clause-found c = spells c.args.octets.now c.in_ok-head.head c.seen_of.result c.in_ok-head.ensures.found.1 c.seen_of.ensures.sees

pub returns-clause-only_tagged : goal.returns-clause-only_tagged
returns-clause-only_tagged c = λ t w e.
    let raw : c.in_ok-head.head ≡ with_tag t = let read = c.in_ok-head.ensures.only (with_tag t) (tagged_raw t w) e in cc in
    seen_answer c.in_ok-head.head c.seen_of.result c.seen_of.ensures.found c.seen_of.ensures.fault
    ∙ ap (λ (g : Fields). unless (tag_fault g) (seen_in g)) raw ∙ seen-tagged t w
