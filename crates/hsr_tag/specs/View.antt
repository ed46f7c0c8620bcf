-- What a frame is whose payload stands elsewhere.
use Rattle.hsr_tag.specs.declared.seen.Seen.{Seen}
use Rattle.hsr_tag.specs.declared.seen.Seen.TheVariants.{Plain, Tagged}
use Rattle.hsr_tag.specs.declared.view.EitherView.{EitherView}
use Rattle.hsr_tag.specs.declared.view.EitherView.TheVariants as either

-- the same frame, with its payload
abbrev pub seen_by : EitherView → Seen
seen_by (either.Plain frame) = Plain frame
seen_by (either.Tagged frame) = Tagged frame
