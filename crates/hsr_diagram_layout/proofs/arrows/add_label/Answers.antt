use Rattle.std.proofs.Common.{sym, append-nil}
use Rattle.std.proofs.lemmas.Option.{slice_get_past}
use Rattle.hsr_diagram_layout.proofs.arrows.add_label.Goals as goal

pub returns-in-None : goal.returns-in-None
returns-in-None g c = rw (← c.rows_at.ensures.rows, slice_get_past _ _ c.in-None.ensures.lookup.3) (sym (append-nil _))
