use Rattle.std.proofs.Common.{◌<◌, ◌∙◌, ap, map, length, subst, arith, List}
use Rattle.std.proofs.lemmas.List.{length-map}
use Rattle.std.proofs.lemmas.Bool.Decides.{nat_tests}
use Rattle.clap.specs.Words.{Text, app_of}
use Rattle.hsr_cli.specs.Options.{ChosenIn, IsBench, SaysNothing, silent_usage_in}
use Rattle.hsr_cli.proofs.BenchFound.{faulty, is_free, is_simple_so, says, silent, taken}
use Rattle.hsr_cli.proofs.Refusing.{fault_found, usage_weaker}
use Rattle.hsr_cli.proofs.bench_words.options.Goals as goal

pub returns-in-Some-clause-found : goal.returns-in-Some-clause-found
returns-in-Some-clause-found c =
    let words : List Text = map (λ s. s.now) c.args.words.now in
    let app = app_of c.in_ok-command.command in
    let some : 0 < length c.args.words.now = grind (arith, nat_tests, c.if-is_empty.false, c.is_empty.ensures) in
    let more : 0 < length words = simp length-map (omega arith) in
    let is : IsBench app =
    (c.roles.result, c.modes.result, c.tables.result, c.choices.result, c.units.result, c.roles.ensures, c.modes.ensures, c.tables.ensures, c.choices.ensures, c.units.ensures, c.in_ok-command.ensures) in
    let found = (c.in-Ok.ensures.matches (is_simple_so app is)).1 in
    says words app c.in-Some.options more is (subst (λ f. ChosenIn f c.in-Some.options) found c.in-Some.ensures.found)

pub returns-in-Some-clause-taken : goal.returns-in-Some-clause-taken
returns-in-Some-clause-taken c =
    let words : List Text = map (λ s. s.now) c.args.words.now in
    let app = app_of c.in_ok-command.command in
    let some : 0 < length c.args.words.now = grind (arith, nat_tests, c.if-is_empty.false, c.is_empty.ensures) in
    let more : 0 < length words = simp length-map (omega arith) in
    let is : IsBench app =
    (c.roles.result, c.modes.result, c.tables.result, c.choices.result, c.units.result, c.roles.ensures, c.modes.ensures, c.tables.ensures, c.choices.ensures, c.units.ensures, c.in_ok-command.ensures) in
    taken words app more is (c.in-Ok.ensures.kinds (is_free app is))

pub returns-in-Ok-clause-refused : goal.returns-in-Ok-clause-refused
returns-in-Ok-clause-refused c =
    let words : List Text = map (λ s. s.now) c.args.words.now in
    let app = app_of c.in_ok-command.command in
    let some : 0 < length c.args.words.now = grind (arith, nat_tests, c.if-is_empty.false, c.is_empty.ensures) in
    let more : 0 < length words = simp length-map (omega arith) in
    let is : IsBench app =
    (c.roles.result, c.modes.result, c.tables.result, c.choices.result, c.units.result, c.roles.ensures, c.modes.ensures, c.tables.ensures, c.choices.ensures, c.units.ensures, c.in_ok-command.ensures) in
    let found = (c.in-Ok.ensures.matches (is_simple_so app is)).1 in
    let nothing = subst SaysNothing found c.in-None.ensures.none in
    usage_weaker c.usage.result _ _
    (λ text said. silent words app text more is (c.in-Ok.ensures.kinds (is_free app is)) nothing (said ∙ c.silent_parse.ensures ∙ ap silent_usage_in found)) c.usage.ensures

pub returns-clause-refused : goal.returns-clause-refused
returns-clause-refused c =
    let words : List Text = map (λ s. s.now) c.args.words.now in
    let app = app_of c.in_ok-command.command in
    let some : 0 < length c.args.words.now = grind (arith, nat_tests, c.if-is_empty.false, c.is_empty.ensures) in
    let more : 0 < length words = simp length-map (omega arith) in
    let is : IsBench app =
    (c.roles.result, c.modes.result, c.tables.result, c.choices.result, c.units.result, c.roles.ensures, c.modes.ensures, c.tables.ensures, c.choices.ensures, c.units.ensures, c.in_ok-command.ensures) in
    usage_weaker c.refused.result _ _
    (λ text room. faulty words app text more is (fault_found _ c.in-Err.error (c.in-Err.ensures.kinds (is_free app is)) room)) c.refused.ensures.kind
