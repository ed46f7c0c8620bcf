use Rattle.std.proofs.Common.{◌≡◌, ◌∙◌, ◌&&◌, ◌||◌, Bool, true, false, ap, arith, length, nat_eq, refl, rules, sym, tests}
use Rattle.std.specs.List.{list_any}
use Rattle.std.proofs.lemmas.Bool.{eq-eqb}
use Rattle.std.proofs.lemmas.Iterator.{YieldsList-from_slice}
use Rattle.std.proofs.lemmas.Iterator.Search.{any_from_yields_List}
use Rattle.hsr_taps.proofs.tally.is_looked_at.Goals as goal

looked : (linked empty any : Bool) → linked ≡ true → empty ≡ false → any ≡ (linked && (empty || any))
looked true true any linked empty = absurd cc
looked true false any linked empty = refl
looked false empty any linked filled = absurd cc

pub returns-else-is_empty : goal.returns-else-is_empty
returns-else-is_empty c =
    let i = c.args.i in
    let choice = c.args.choice.now in
    let interface = c.args.interface.now in
    let list : c.deref.result.now ≡ choice.interfaces = c.deref.ensures.value ∙ ap (λ x. x.interfaces) c.choice.view_is in
    let found : c.any.result ≡ list_any (λ j. nat_eq j i) c.deref.result.now
    = any_from_yields_List (λ j. nat_eq j i) _ _ c.any.result c.any.ensures.ran (YieldsList-from_slice c.deref.result.now cc) (λ x b q k. search (rules, tests)) in
    let linked : nat_eq interface.link 1 ≡ true = eq-eqb interface.link 1 (omega (arith, ap (λ x. x.link) c.interface.view_is)) in
    let filled : nat_eq (length choice.interfaces) 0 ≡ false = ap (λ n. nat_eq n 0) (ap length (sym list) ∙ c.deref.ensures.len) ∙ sym c.if-is_empty.ensures in
    found ∙ looked (nat_eq interface.link 1) (nat_eq (length choice.interfaces) 0) _ linked filled
    ∙ ap (λ l. nat_eq interface.link 1 && (nat_eq (length choice.interfaces) 0 || list_any (λ j. nat_eq j i) l)) list
