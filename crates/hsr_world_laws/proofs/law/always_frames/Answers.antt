use Rattle.hsr_world_laws.proofs.FitFrames as fit
use Rattle.hsr_world_laws.proofs.law.always_frames.Goals as goal

pub returns : goal.returns
returns c = fit.always_frames
