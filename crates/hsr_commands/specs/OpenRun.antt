-- What `run --open` tells of a scenario.
--     open_text     what there is of a world that can't be closed
--     IsLeftOpen    a scenario leads to such a world, of which this is written
--     RunEnds       how `run` ends, with and without --open
use Rattle.std.specs.Prelude.{ℕ, zero, suc, ◌≡◌, ◌⊎◌, Bool, true, false, List, [], ◌++◌, length, codes, slice_index_or, Option, Ok}
use Rattle.std.specs.Io.KnownBytes.{Appends}
use Rattle.hsr_files.specs.Files.{Puts}
use Rattle.hsr_node.specs.Counts.{counters}
use Rattle.hsr_node.specs.Words.{role_in}
use Rattle.hsr_node.specs.declared.place.Place.{Place}
use Rattle.hsr_node.specs.declared.place.Place.TheVariants.{QuadBox}
use Rattle.hsr_node.specs.declared.role.Role.{Role}
use Rattle.hsr_options.specs.declared.chosen.Showing.{Showing}
use Rattle.hsr_ring.specs.Playing.{Plays}
use Rattle.hsr_report.specs.Report.{head_text, link_line, node_text}
use Rattle.hsr_scenario.specs.Meaning.{Meant}
use Rattle.hsr_world_laws.specs.Lawful.{IsEnded}
use Rattle.hsr_world_laws.specs.World.{World, owner_at, record_at, span_at}
use Rattle.hsr_commands.specs.Reading.{Said}
use Rattle.hsr_finished_run.specs.Finished.{Finished}
use Rattle.hsr_finished_run.specs.declared.disagree.CheckFault.{CheckFault}
use Rattle.hsr_finished_run.specs.declared.disagree.CheckFault.TheVariants as check
use Rattle.hsr_commands.specs.Naming.{IsNodeNaming, Named}
use Rattle.hsr_naming.specs.declared.naming.Naming.{Naming}
use Rattle.hsr_commands.specs.ScenarioRun.{IsReported, IsUnreported, ScenarioEnds, first_of}
use Rattle.hsr_commands.specs.Shown.{IsShownOf, Outputs}
use Rattle.hsr_commands.specs.declared.fault.Fault.{Fault}
use Rattle.hsr_commands.specs.declared.scenario.Shown.{Shown}
use Rattle.hsr_commands.specs.declared.scenario.Shown.TheVariants.{Closed, Open as Left}
use Rattle.hsr_commands.specs.declared.fault.Fault.TheVariants.{Check, Memory, Write}
use Rattle.hsr_commands.specs.declared.fault.Status.{Status}
use Rattle.hsr_commands.specs.declared.fault.Status.TheVariants.{Fault as Stopped, Open}

-- ---- what there is

abbrev pub role_at : List Place → ℕ → Role
role_at places k = role_in (slice_index_or places k QuadBox)

-- the lines of the first nodes and links
abbrev pub open_nodes : Naming → List Place → World → ℕ → List ℕ
open_nodes naming places w zero = []
open_nodes naming places w (suc n) = open_nodes naming places w n ++ node_text naming n (role_at places n) (counters (owner_at w n).place (record_at w n))

abbrev pub open_links : World → ℕ → List ℕ
open_links w zero = []
open_links w (suc n) = open_links w n ++ link_line n (span_at w n).link.rows

-- the lines of the bench, of each node and of each link, as a report has them, and a last line
unfoldable pub open_text : Naming → ℕ → List Place → World → List ℕ
open_text naming capacity places w =
    head_text capacity (length w.places) (length w.spans) ++ open_nodes naming places w (length w.places) ++ open_links w (length w.spans) ++ codes "open\n"

-- ---- how a run ends

-- the scenario is played, its world can't be closed, and this is what there is of it
pub record IsLeftOpen (capacity : ℕ) (names : Bool) (said : Said) (named : Named) (text : List ℕ) : Type 0 where
  pub meant : Meant
  pub means : said ≡ Ok meant
  pub world : World
  pub plays : Plays capacity meant.steps (first_of meant) world
  pub stays_open : ¬ IsEnded world
  pub naming : Naming
  pub is_naming : IsNodeNaming names named naming
  pub is_text : text ≡ open_text naming capacity meant.topology.places world

-- the scenario is played, and leads to this world, of these nodes
pub record IsPlayedOn (capacity : ℕ) (said : Said) (places : List Place) (w : World) : Type 0 where
  pub meant : Meant
  pub means : said ≡ Ok meant
  pub plays : Plays capacity meant.steps (first_of meant) w
  pub places_are : places ≡ meant.topology.places

-- what there is of a finished run: what is shown of it
abbrev pub IsShownOfRun : Showing → Option (List ℕ) → Named → Finished → Shown → Type 0
IsShownOfRun showing folder named f (Closed shown) = IsShownOf showing named folder f shown
IsShownOfRun showing folder named f (Left text) = ⊥

-- what there is of a world of these nodes that can't be closed, by the names that are asked for
abbrev pub IsOpenShown : ℕ → Bool → Named → List Place → World → Shown → Type 0
IsOpenShown capacity names named places w (Left text) = (naming : Naming) × IsNodeNaming names named naming × (text.items ≡ open_text naming capacity places w)
IsOpenShown capacity names named places w shown = ⊥

-- the same of one that can't be closed for this reason
abbrev pub IsOpenOf : ℕ → Bool → Named → List Place → World → CheckFault → Shown → Type 0
IsOpenOf capacity names named places w (check.Disagree cause) shown = IsOpenShown capacity names named places w shown
IsOpenOf capacity names named places w fault shown = ⊥

-- it isn't shown, for this reason; or an allocation failed
abbrev pub IsLeftBy : Bool → CheckFault → Fault → Type 0
IsLeftBy shows_open cause (Check disagree) = (shows_open ≡ false) × (cause ≡ check.Disagree disagree)
IsLeftBy shows_open cause Memory = Unit {0}
IsLeftBy shows_open cause _ = ⊥

-- what there is of a scenario
abbrev pub IsShownBy : ℕ → Bool → Showing → Option (List ℕ) → Said → Named → Shown → Type 0
IsShownBy capacity shows_open showing folder said named (Closed shown) = IsReported capacity showing folder said named shown
IsShownBy capacity shows_open showing folder said named (Left text) = (shows_open ≡ true) × IsLeftOpen capacity showing.names said named text.items

-- there is nothing to show: no report; and a run that can't be closed isn't to be shown
abbrev pub IsUnshown : ℕ → Bool → Said → Fault → Type 0
IsUnshown capacity shows_open said (Check cause) = (shows_open ≡ false) × IsUnreported capacity said (Check cause)
IsUnshown capacity shows_open said fault = IsUnreported capacity said fault

-- what there is was written; or the writer failed
abbrev pub IsWrittenOpen : Option (List ℕ) → Option (List ℕ) → List ℕ → Status → Type 0
IsWrittenOpen held holds text Open = Appends held holds text
IsWrittenOpen held holds text (Stopped Write) = Unit {0}
IsWrittenOpen held holds text _ = ⊥

-- such a world was written, and no table put
pub record IsToldOpen (capacity : ℕ) (names : Bool) (said : Said) (named : Named) (before after : Outputs) : Type 0 where
  pub text : List ℕ
  pub is_left : IsLeftOpen capacity names said named text
  pub written : Appends before.written after.written text
  pub kept : Puts before.put after.put []

-- there was such a world to write; no table was put
pub record IsCutOffOpen (capacity : ℕ) (names : Bool) (said : Said) (named : Named) (before after : Outputs) : Type 0 where
  pub text : List ℕ
  pub is_left : IsLeftOpen capacity names said named text
  pub kept : Puts before.put after.put []

-- How `run` ends, and what it wrote: as without --open; but a run that can't be closed is written as it stands, where that is asked for. It has
-- no tables.
abbrev pub RunEnds : ℕ → Bool → Showing → Option (List ℕ) → Said → Named → Outputs → Outputs → Status → Type 0
RunEnds capacity shows_open showing folder said named before after Open =
    (shows_open ≡ true) × IsToldOpen capacity showing.names said named before after
RunEnds capacity shows_open showing folder said named before after (Stopped (Check cause)) =
    (shows_open ≡ false) × ScenarioEnds capacity showing folder said named before after (Stopped (Check cause))
RunEnds capacity shows_open showing folder said named before after (Stopped Write) =
    ScenarioEnds capacity showing folder said named before after (Stopped Write)
    ⊎ ((shows_open ≡ true) × IsCutOffOpen capacity showing.names said named before after)
RunEnds capacity shows_open showing folder said named before after status = ScenarioEnds capacity showing folder said named before after status
