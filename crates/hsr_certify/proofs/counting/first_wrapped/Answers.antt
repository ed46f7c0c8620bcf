use Rattle.std.proofs.Common.{rules, ◌≡◌, ◌<◌, ◌≤◌, ◌^◌, ◌∙◌, ℕ, Bool, true, false, List, length, take, Some, refl, sym, arith, cond, count_by, le-leb}
use Rattle.std.specs.Prelude.{slice_get}
use Rattle.std.proofs.lemmas.List.{get_or-replicate}
use Rattle.std.proofs.lemmas.List.Sums.{count_by-le-length, sum_by-take-le}
use Rattle.std.proofs.lemmas.Option.{slice_get_read}
use Rattle.hsr_run_laws.specs.Run.{Run}
use Rattle.hsr_plays.specs.Conditions.{is_numbered_by_then}
use Rattle.hsr_plays.specs.declared.span.SendSpan.{SendSpan}
use Rattle.hsr_routes.specs.Routes.{bare}
use Rattle.hsr_certify.proofs.Standing.{is_numbered_by}
use Rattle.hsr_certify.specs.Tests.{is_unwrapped}
use Rattle.hsr_certify.proofs.Seeking.{seek_found, seek_more, seek_none}
use Rattle.hsr_certify.proofs.Standing.{counted_next, numbered_most}
use Rattle.hsr_certify.proofs.counting.first_wrapped.Goals as goal

pub count_at-most-requires : goal.count_at-most-requires
count_at-most-requires c = λ node small.
    let net : Run = bare c.args.topology.now.places c.args.topology.now.links in
    let spans : List SendSpan = c.args.spans.now in
    let short : length spans < 2 ^ 63 = search rules in
    let own = c.loop-i.invariant.1 node small in
    let some : count_by (is_numbered_by net node) (take c.loop-i.i spans) ≤ count_by (is_numbered_by net node) spans = sum_by-take-le (λ a. cond {A = ℕ} (is_numbered_by net node a) 1 0) spans c.loop-i.i in
    let all = count_by-le-length (is_numbered_by net node) spans in
    omega (arith, short, own, some, all)

pub is_unwrapped-requires : goal.is_unwrapped-requires
is_unwrapped-requires c =
    let net : Run = bare c.args.topology.now.places c.args.topology.now.links in
    let spans : List SendSpan = c.args.spans.now in
    let short : length spans < 2 ^ 63 = search rules in
    let below : c.loop-i.i < length spans = search rules in
    let listed : slice_get spans c.loop-i.i ≡ Some c.index-spans-i.result = slice_get_read spans (length spans) c.loop-i.i c.index-spans-i.result refl below c.index-spans-i.is in
    let most = numbered_most net spans c.loop-i.i c.index-spans-i.result listed c.numbers_of-counter.result c.numbers_of-counter.ensures c.loop-i.counts c.count_at-most.new.counts c.loop-i.invariant.1 c.count_at-most.ensures.counts c.requires short in
    let same = c.count_at-most.ensures.most in
    omega (arith, most, same)

pub returns-then-not-is_unwrapped : goal.returns-then-not-is_unwrapped
returns-then-not-is_unwrapped c =
    let spans : List SendSpan = c.args.spans.now in
    let passes : SendSpan → Bool = is_unwrapped (bare c.args.topology.now.places c.args.topology.now.links) spans in
    let below : c.loop-i.i < length spans = search rules in
    let told : c.is_unwrapped.result ≡ passes c.index-spans-i.result = c.is_unwrapped.ensures in
    let no : c.is_unwrapped.result ≡ false = search rules in
    seek_found passes spans c.loop-i.i c.index-spans-i.result below c.index-spans-i.is c.loop-i.invariant.0 (sym told ∙ no)

pub loop-i-init : goal.loop-i-init
loop-i-init c = (refl, λ node small. get_or-replicate 64 node 0 0 small)

pub loop-i-preserved : goal.loop-i-preserved
loop-i-preserved c =
    let net : Run = bare c.args.topology.now.places c.args.topology.now.links in
    let spans : List SendSpan = c.args.spans.now in
    let passes : SendSpan → Bool = is_unwrapped net spans in
    let below : c.loop-i.i < length spans = search rules in
    let listed : slice_get spans c.loop-i.i ≡ Some c.index-spans-i.result = slice_get_read spans (length spans) c.loop-i.i c.index-spans-i.result refl below c.index-spans-i.is in
    let told : c.is_unwrapped.result ≡ passes c.index-spans-i.result = c.is_unwrapped.ensures in
    let yes : c.is_unwrapped.result ≡ true = search rules in (
      seek_more passes spans c.loop-i.i c.index-spans-i.result below c.index-spans-i.is c.loop-i.invariant.0 (sym told ∙ yes),
      counted_next net spans c.loop-i.i c.index-spans-i.result listed c.numbers_of-counter.result c.numbers_of-counter.ensures c.loop-i.counts c.count_at-most.new.counts c.loop-i.invariant.1 c.count_at-most.ensures.counts,
    )

pub returns-then-spans-le-NUMBER_RANGE : goal.returns-then-spans-le-NUMBER_RANGE
returns-then-spans-le-NUMBER_RANGE c =
    let spans : List SendSpan = c.args.spans.now in
    let net = bare c.args.topology.now.places c.args.topology.now.links in
    let few : length spans ≤ 65536 = search rules in
    seek_none (is_unwrapped net spans) spans
    (λ span. let most = count_by-le-length (is_numbered_by_then net span) spans in le-leb (count_by (is_numbered_by_then net span) spans) 65536 (omega (arith, most, few)))
