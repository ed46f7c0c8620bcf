-- A scenario, and what each fault looks at.
--     Swept      nodes and links, the steps, and how long a copy lives
--     sends_of   the spans of its sends
--     IsSwept    groups of its sends, with what each fault looks at
use Rattle.std.specs.Prelude.{ℕ, List, length, Option}
use Rattle.hsr_run_laws.specs.Run.{Run}
use Rattle.hsr_scenario.specs.declared.steps.Order.{Order}
use Rattle.hsr_plays.specs.Setup.{Setup, net_of}
use Rattle.hsr_plays.specs.Spans.{spans_from}
use Rattle.hsr_plays.specs.declared.span.SendSpan.{SendSpan}
use Rattle.hsr_faults.specs.Course.{AreCourses}
use Rattle.hsr_faults.specs.Groups.{AreCounts, AreGrouped}
use Rattle.hsr_faults.specs.Search.{AreInto}
use Rattle.hsr_faults.specs.declared.channels.Channels.{Channels}
use Rattle.hsr_faults.specs.declared.course.Course.{Course}
use Rattle.hsr_faults.specs.declared.groups.Group.{Group}

pub record Swept : Type 0 where
  pub net : Run
  pub orders : List Order
  pub within : Option ℕ

-- of a setup, however much waits and is noted
abbrev pub swept_of : Setup → Swept
swept_of s = record { net = net_of s; orders = s.orders; within = s.within }

-- the spans of its sends
abbrev pub sends_of : Swept → List SendSpan
sends_of s = spans_from s.within 0 0 s.orders

pub record IsSwept (s : Swept) (groups : List Group) (of counts : List ℕ) (courses : List Course) (into : List Channels) : Type 0 where
  pub grouped : AreGrouped s.orders (sends_of s) (length (sends_of s)) groups of
  pub counted : AreCounts (length groups) of counts
  pub coursed : AreCourses s.net groups (length groups) courses
  pub stops : AreInto s.net into
