use Rattle.std.proofs.Common.{◌∙◌}
use Rattle.hsr_devices.proofs.Telling.{told_same}
use Rattle.hsr_devices.proofs.unheard.is_told_of.Goals as goal

pub returns : goal.returns
returns c = c.any_tells.ensures ∙ told_same c.args.mac c.args.place.now c.args.entries.now
