use Rattle.std.proofs.Common.{List, map, refl, subst}
use Rattle.std.specs.Global.{Global}
use Rattle.std.specs.Prelude.{Vec, ℕ}
use Rattle.hsr_run_names.specs.Naming.{AreNamesOf}
use Rattle.hsr_timeline.specs.Fronts.{lists_of}
use Rattle.hsr_commands.proofs.naming.called.Goals as goal

pub returns-in-Ok-clause-ok : goal.returns-in-Ok-clause-ok
returns-in-Ok-clause-ok g c =
    let P : List (Vec (Vec ℕ Global) Global) → Type 0 = λ streams. AreNamesOf c.args.closed.now.run (lists_of c.args.names.names.items) (map (λ list. lists_of list.items) streams) c.in-Ok.names in
    (c.in-Ok.names, subst P c.as_slice.ensures.value c.in-Ok.ensures, refl)
