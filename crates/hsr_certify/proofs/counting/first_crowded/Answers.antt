use Rattle.std.proofs.Common.{rules, ◌≡◌, ◌<◌, ◌∙◌, Bool, true, false, List, length, Some, refl, sym, arith}
use Rattle.std.specs.Prelude.{slice_get}
use Rattle.std.proofs.lemmas.Option.{slice_get_read}
use Rattle.hsr_plays.specs.declared.span.SendSpan.{SendSpan}
use Rattle.hsr_certify.specs.Tests.{is_uncrowded}
use Rattle.hsr_certify.proofs.Seeking.{seek_found, seek_more}
use Rattle.hsr_certify.proofs.Standing.{ended_more, met_within}
use Rattle.hsr_certify.proofs.counting.first_crowded.Goals as goal

pub loop-i-init : goal.loop-i-init
loop-i-init c = (refl, λ j k a b low. absurd (omega (arith, low)))

pub is_uncrowded-requires : goal.is_uncrowded-requires
is_uncrowded-requires c =
    let spans : List SendSpan = c.args.spans.now in
    let below : c.loop-i.i < length spans = search rules in
    let listed : slice_get spans c.loop-i.i ≡ Some c.index-spans-i.result = slice_get_read spans (length spans) c.loop-i.i c.index-spans-i.result refl below c.index-spans-i.is in
    met_within spans c.loop-i.i c.loop-i.low c.first_open-low.result c.index-spans-i.result c.requires listed c.loop-i.invariant.1 c.first_open-low.ensures c.first_from-high.result c.first_from-high.ensures

pub returns-then-not-is_uncrowded : goal.returns-then-not-is_uncrowded
returns-then-not-is_uncrowded c =
    let spans : List SendSpan = c.args.spans.now in
    let passes : SendSpan → Bool = is_uncrowded c.args.table spans in
    let below : c.loop-i.i < length spans = search rules in
    let told : c.is_uncrowded.result ≡ passes c.index-spans-i.result = c.is_uncrowded.ensures in
    let no : c.is_uncrowded.result ≡ false = search rules in
    seek_found passes spans c.loop-i.i c.index-spans-i.result below c.index-spans-i.is c.loop-i.invariant.0 (sym told ∙ no)

pub loop-i-preserved : goal.loop-i-preserved
loop-i-preserved c =
    let spans : List SendSpan = c.args.spans.now in
    let passes : SendSpan → Bool = is_uncrowded c.args.table spans in
    let below : c.loop-i.i < length spans = search rules in
    let listed : slice_get spans c.loop-i.i ≡ Some c.index-spans-i.result = slice_get_read spans (length spans) c.loop-i.i c.index-spans-i.result refl below c.index-spans-i.is in
    let told : c.is_uncrowded.result ≡ passes c.index-spans-i.result = c.is_uncrowded.ensures in
    let yes : c.is_uncrowded.result ≡ true = search rules in (
      seek_more passes spans c.loop-i.i c.index-spans-i.result below c.index-spans-i.is c.loop-i.invariant.0 (sym told ∙ yes),
      ended_more spans c.loop-i.i c.loop-i.low c.first_open-low.result c.index-spans-i.result c.requires listed c.loop-i.invariant.1 c.first_open-low.ensures,
    )
