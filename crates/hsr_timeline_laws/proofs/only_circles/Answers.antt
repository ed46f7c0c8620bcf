use Rattle.hsr_timeline_laws.proofs.Standing.{no_stamps}
use Rattle.hsr_timeline_laws.proofs.only_circles.Goals as goal

pub returns : goal.returns
returns c = λ f finished none. no_stamps f.run f.plan finished.closed none
