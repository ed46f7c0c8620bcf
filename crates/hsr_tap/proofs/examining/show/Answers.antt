use Rattle.std.proofs.Common.{subst}
use Rattle.std.specs.Prelude.{IfSome}
use Rattle.hsr_tap.specs.Examining.{IsSeen}
use Rattle.hsr_tap.specs.declared.examining.Seen.{Seen}
use Rattle.hsr_tap.proofs.Examined.{delivered}
use Rattle.hsr_tap.proofs.examining.show.Goals as goal

pub returns-in_ok-report_to-in-Told : goal.returns-in_ok-report_to-in-Told
returns-in_ok-report_to-in-Told g c =
    let text = g.R.Read.remaining c.args.reader.now in
    let seen = subst (λ (s : Seen). IfSome text (λ octets. IsSeen c.args.looking.now c.args.expected.now octets s)) c.in-Told.is c.in_ok-report.ensures.seen in
    let said = c.in_ok-report_to-in-Told.ensures in
    delivered c.args.looking.now c.args.expected.now text (g.W.Write.contents c.args.writer.now) _ c.in-Told.report c.in_ok-report_to-in-Told.field-0 said.0 said.1 seen
