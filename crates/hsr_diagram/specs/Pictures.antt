-- What a picture of a finished run shows.
--     IsPicture   its panels, arrows and sends
--     IsRefused   why there is none
use Rattle.std.specs.Prelude.{ℕ, ◌≡◌, ◌≤◌, ◌<◌, true, false, List, length, map, filter, Option}
use Rattle.hsr_node.specs.declared.event.Probe.{Probe}
use Rattle.hsr_run_laws.specs.Run.{Run}
use Rattle.hsr_finished_run.specs.declared.planned.Planned.{Planned}
use Rattle.hsr_timeline.specs.Stamps.{AreStamps}
use Rattle.hsr_timeline.specs.declared.origin.Spot.{Spot}
use Rattle.hsr_timeline.specs.declared.stamp.Stamp.{Stamp}
use Rattle.hsr_diagram.specs.Panels.{ArePanels, Panel}
use Rattle.hsr_deliveries.specs.Delivered.{Delivery, deliveries}
use Rattle.hsr_timeline.specs.Causes.{origins}
use Rattle.hsr_timeline.specs.Story.{HasNoStory, IsStory}
use Rattle.hsr_timeline.specs.declared.shown.Shown.{Shown}
use Rattle.hsr_timeline.specs.declared.telling.StoryFault.{StoryFault}
use Rattle.hsr_timeline.specs.declared.telling.StoryFault.TheVariants as story
use Rattle.hsr_diagram.specs.Arrows.{arrow_of, hops_by_link}
use Rattle.hsr_diagram.specs.Sends.{sents}
use Rattle.hsr_diagram.specs.Wanted.{has_all, is_pictured, is_reversed}
use Rattle.hsr_diagram.specs.declared.arrow.Arrow.{Arrow}
use Rattle.hsr_diagram.specs.declared.picturing.PictureFault.{PictureFault}
use Rattle.hsr_diagram.specs.declared.picturing.PictureFault.TheVariants.{NoSend, Reversed, Circle, TooMany, NoMemory}
use Rattle.hsr_diagram.specs.declared.sending.Sent.{Sent}
use Rattle.hsr_diagram.specs.declared.span.Span.{Span}

pub record Picture : Type 0 where
  pub panels : List Panel
  pub arrows : List Arrow
  pub deliveries : List Delivery
  pub sends : List Sent

-- a list of rows in the order of time, each once; and of those the ones that are wanted
pub record AreWanted (run : Run) (plan : List Planned) (sends : List Probe) (span : Span) (wanted : List Shown) : Type 0 where
  pub rows : List Shown
  pub story : IsStory run plan rows
  pub chosen : wanted ≡ filter (is_pictured run sends span) rows

-- each row that is wanted is an arrow just once, in the order of time
pub record IsPicture (run : Run) (plan : List Planned) (sends : List Probe) (span : Span) (most : ℕ) (picture : Picture) : Type 0 where
  pub has : has_all run sends ≡ true
  pub forwards : is_reversed span ≡ false
  pub panels : ArePanels (record { places = run.places; links = run.links }) picture.panels
  pub wanted : List Shown
  pub rows : AreWanted run plan sends span wanted
  pub few : length wanted ≤ most
  pub stamp : Spot → Option Stamp
  pub stamps : AreStamps (origins run plan) stamp
  pub arrows : picture.arrows ≡ map (arrow_of run (hops_by_link run (length run.links)) stamp) wanted
  pub all : picture.deliveries ≡ deliveries run
  pub listed : picture.sends ≡ sents stamp sends span picture.deliveries

-- the run hasn't a send that is asked for; the span ends before it begins; the rows have no order of time; too many are wanted
abbrev pub IsRefused : Run → List Planned → List Probe → Span → ℕ → PictureFault → Type 0
IsRefused run plan sends span most NoSend = has_all run sends ≡ false
IsRefused run plan sends span most Reversed = is_reversed span ≡ true
IsRefused run plan sends span most Circle = HasNoStory run plan
IsRefused run plan sends span most (TooMany copies) = (wanted : List Shown) × AreWanted run plan sends span wanted × (copies ≡ length wanted) × (most < copies)
IsRefused run plan sends span most NoMemory = Unit {0}

abbrev pub story_fault : StoryFault → PictureFault
story_fault story.Circle = Circle
story_fault story.NoMemory = NoMemory
