use Rattle.std.proofs.Common.{codes}
use Rattle.hsr_text.specs.Words.{mac_text}
use Rattle.hsr_health_text.specs.Sources.{supervision_name}
use Rattle.hsr_health_text.proofs.Rows.{behind}
use Rattle.hsr_health_text.proofs.sources.put_supervision_name.Goals as goal

pub returns : goal.returns
unfolding supervision_name
returns c = behind c.put_mac.result _ _ _ (codes "supervision ") (mac_text c.args.mac) c.in_ok-put.ensures.ok c.put_mac.ensures
