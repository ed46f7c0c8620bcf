-- What is shown of a finished run.
--     IsCaptureOf   the capture of the rows that are wanted
--     AreNames      the names of a scenario with this topology
--     IsSend        the send that words mean
--     AreSends      the sends that words mean
--     IsPictured    the drawing of a picture of what is wanted
--     IsPaged       the page of what is wanted
--     IsShownOf     what is shown of the text of a run
use Rattle.std.specs.Prelude.{ℕ, ◌≡◌, ◌<◌, ◌==◌, ◌&&◌, ◌||◌, Bool, false, List, map, filter, length, Ok, [], Option, Some, None, is_some, option_map}
use Rattle.hsr_node.specs.declared.event.Probe.{Probe}
use Rattle.hsr_topology.specs.Topology.{Topology}
use Rattle.hsr_finished_run.specs.Finished.{Finished}
use Rattle.hsr_scenario.specs.Names.{NamesMeant, names_meant}
use Rattle.hsr_scenario.specs.declared.steps.Order.{Order}
use Rattle.hsr_timeline.specs.Names.{node_called}
use Rattle.hsr_timeline.specs.Choice.{checked, is_wanted}
use Rattle.hsr_timeline.specs.Story.{IsStory}
use Rattle.hsr_timeline.specs.declared.choice.Choice.{Choice}
use Rattle.hsr_timeline.specs.declared.shown.Shown.{Shown}
use Rattle.hsr_capture.specs.Capture.{capture}
use Rattle.hsr_capture.specs.Fits.{Fits}
use Rattle.hsr_devices.specs.Listing.{IsListing}
use Rattle.hsr_downs.specs.Downs.{downs}
use Rattle.hsr_downs.specs.Drains.{drains}
use Rattle.hsr_downs.specs.Switches.{switches}
use Rattle.hsr_diagram_layout.specs.Drawing.{IsDrawing}
use Rattle.hsr_run_page.specs.Whole.{IsPageWith}
use Rattle.hsr_run_laws.specs.Run.{Run}
use Rattle.hsr_transcript.specs.Answers.{IsTextOf}
use Rattle.std.specs.Borrow.{Bor}
use Rattle.hsr_view.specs.Agreeing.{AreSteps}
use Rattle.hsr_view.specs.declared.views.What.{What}
use Rattle.hsr_view.specs.declared.views.What.TheVariants as asked
use Rattle.hsr_diagram.specs.Pictures.{IsPicture, Picture}
use Rattle.hsr_diagram.specs.declared.span.Span.{Span}

-- ---- names

-- a scenario that is this topology, with the names of its nodes
pub record IsNamed (topology : Topology) (text : List ℕ) (names : List (List ℕ)) : Type 0 where
  pub meant : NamesMeant
  pub read : names_meant text ≡ Ok meant
  pub same : meant.topology ≡ topology
  pub names_are : names ≡ meant.names

-- without a scenario there are no names
abbrev pub AreNames : Topology → Option (List ℕ) → List (List ℕ) → Type 0
AreNames topology None names = names ≡ []
AreNames topology (Some text) names = IsNamed topology text names

-- the send that the name of a node and a place mean
abbrev pub probe_of : List (List ℕ) → Bor (List ℕ) × ℕ → Option Probe
probe_of names asked = option_map (λ node. record { node = node; place = asked.1 }) (node_called names asked.0.now)

-- the send that is asked for, if one is
abbrev pub IsSend : List (List ℕ) → Option (Bor (List ℕ) × ℕ) → Option Probe → Type 0
IsSend names None send = send ≡ None
IsSend names (Some asked) send = (one : Probe) × (probe_of names asked ≡ Some one) × (send ≡ Some one)

abbrev pub AreSends : List (List ℕ) → List (Bor (List ℕ) × ℕ) → List Probe → Type 0
AreSends names asked sends = map (probe_of names) asked ≡ map (λ send. Some send) sends

-- ---- captures

-- a link or a send is asked for
abbrev pub is_made : Choice → Bool
is_made wanted = is_some wanted.link || is_some wanted.send

-- something is asked for, and no row is left
abbrev pub leaves_none : Choice → List Shown → Bool
leaves_none wanted rows = is_made wanted && length rows == 0

-- The run has what is wanted, and this is the capture of those of its rows that are wanted, in the order of time; each block fits. Where
-- something is asked for there is such a row.
pub record IsCaptureOf (names : List (List ℕ)) (f : Finished) (wanted : Choice) (octets : List ℕ) : Type 0 where
  pub has : checked f.run wanted ≡ Ok tt
  pub rows : List Shown
  pub story : IsStory f.run f.plan rows
  pub some : leaves_none wanted (filter (is_wanted f.run wanted) rows) ≡ false
  pub fits : Fits names f.run (filter (is_wanted f.run wanted) rows)
  pub octets_are : octets ≡ capture names f.run (filter (is_wanted f.run wanted) rows)

-- ---- pictures

-- What is asked for is there, a picture shows some of it, and this is its drawing, with the times in which the steps of a scenario have
-- links down, and with the nodes that go off or come on by them.
pub record IsPictured (names : List (List ℕ)) (f : Finished) (scenario : Option (List ℕ)) (asked : List (Bor (List ℕ) × ℕ)) (span : Span) (octets : List ℕ) : Type 0 where
  pub sends : List Probe
  pub meant : AreSends names asked sends
  pub picture : Picture
  pub shows : IsPicture f.run f.plan sends span 400 picture
  pub some : 0 < length picture.arrows
  pub steps : List Order
  pub are_steps : AreSteps f.plan scenario steps
  pub drawn : IsDrawing names f.run picture (downs steps) (switches f.run.links steps) octets

-- ---- pages

-- What is asked for is there, a page shows some of it, with what the steps of a scenario say of links that are down and of drains.
pub record IsPaged (names : List (List ℕ)) (f : Finished) (scenario : Option (List ℕ)) (title : List ℕ) (asked : List (Bor (List ℕ) × ℕ)) (span : Span) (octets : List ℕ) : Type 0 where
  pub sends : List Probe
  pub meant : AreSends names asked sends
  pub picture : Picture
  pub shows : IsPicture f.run f.plan sends span 6000 picture
  pub some : 0 < length picture.arrows
  pub steps : List Order
  pub are_steps : AreSteps f.plan scenario steps
  pub page : IsPageWith names f title sends span (downs steps) (drains steps) picture octets

-- ---- all that can be asked for

abbrev pub topology_of : Run → Topology
topology_of run = record { places = run.places; links = run.links }

-- with these names this is the capture that is wanted, the drawing of the picture, the page, or the list of devices
abbrev pub Shows : List (List ℕ) → Finished → Option (List ℕ) → What → List ℕ → Type 0
Shows names f scenario (asked.Capture link send) octets = (probe : Option Probe) × IsSend names send probe × IsCaptureOf names f (record { link = link; send = probe }) octets
Shows names f scenario (asked.Picture sends span) octets = IsPictured names f scenario sends.items span octets
Shows names f scenario (asked.Page sends span title) octets = IsPaged names f scenario title.now sends.items span octets
Shows names f scenario asked.Devices octets = IsListing names f.run octets

pub record IsShown (f : Finished) (what : What) (scenario : Option (List ℕ)) (octets : List ℕ) : Type 0 where
  pub names : List (List ℕ)
  pub named : AreNames (topology_of f.run) scenario names
  pub shows : Shows names f scenario what octets

-- ---- texts

-- a text of a finished run, and what is shown of it
pub record IsShownOf (capacity : ℕ) (text : List ℕ) (what : What) (scenario : Option (List ℕ)) (octets : List ℕ) : Type 0 where
  pub finished : Finished
  pub is_text : IsTextOf capacity finished text
  pub shown : IsShown finished what scenario octets
