-- Why nothing is shown.
--     IsMisnamed     a scenario's names aren't taken
--     IsUncaptured   there is no capture of what is wanted
--     IsUndrawn      there is no picture of what is wanted
--     IsBlank        a picture of it would show nothing
--     IsUnshown      nothing is shown of a run
--     IsUnshownOf    nothing is shown of a text
use Rattle.std.specs.Prelude.{ℕ, ◌≡◌, ◌⊎◌, ⊤, true, List, filter, length, Option, Some, None, Result, Ok, Err, slice_get}
use Rattle.std.specs.Borrow.{Bor}
use Rattle.hsr_node.specs.declared.event.Probe.{Probe}
use Rattle.hsr_topology.specs.Topology.{Topology}
use Rattle.hsr_finished_run.specs.Finished.{Finished}
use Rattle.hsr_scenario.specs.Names.{NamesMeant, names_meant}
use Rattle.hsr_scenario.specs.declared.fault.ScenarioFault.{ScenarioFault}
use Rattle.hsr_timeline.specs.Choice.{checked, is_wanted}
use Rattle.hsr_timeline.specs.Causes.{origins}
use Rattle.hsr_timeline.specs.Stamps.{HasNoStamps}
use Rattle.hsr_timeline.specs.Story.{HasNoStory, IsStory}
use Rattle.hsr_timeline.specs.declared.choice.Choice.{Choice}
use Rattle.hsr_timeline.specs.declared.choice.ChoiceFault.TheVariants as choice
use Rattle.hsr_timeline.specs.declared.shown.Shown.{Shown}
use Rattle.hsr_capture.specs.Fits.{Fits}
use Rattle.hsr_diagram.specs.Pictures.{IsPicture, IsRefused, Picture}
use Rattle.hsr_diagram.specs.declared.picturing.PictureFault.{PictureFault}
use Rattle.hsr_diagram.specs.declared.span.Span.{Span}
use Rattle.hsr_transcript.specs.Answers.{Answers, IsTextOf}
use Rattle.hsr_transcript.specs.declared.fault.ReadFault.{ReadFault}
use Rattle.hsr_view.specs.Fault.{nothing_fault, page_fault, picture_fault, fault_of_read}
use Rattle.hsr_view.specs.Viewing.{AreNames, AreSends, IsSend, leaves_none, probe_of, topology_of}
use Rattle.hsr_view.specs.declared.views.What.{What}
use Rattle.hsr_view.specs.declared.views.What.TheVariants as asked
use Rattle.hsr_view.specs.declared.fault.Fault.{Fault}
use Rattle.hsr_given.specs.Unnamed.{other, unread}
use Rattle.hsr_given.specs.declared.given.Given.{Given}
use Rattle.hsr_given.specs.declared.unnamed.Unnamed.{Unnamed}
use Rattle.hsr_view.specs.declared.fault.Fault.TheVariants.{Names, Link, Send, NoCopies, NoneAsked, Circle, TooLong, Read, Memory}

-- a text can't be read for the names of a scenario, or it is one of other nodes or links
abbrev pub IsOther : Topology → Result NamesMeant ScenarioFault → Type 0
IsOther topology (Ok meant) = ¬ (meant.topology ≡ topology)
IsOther topology (Err fault) = ⊤

-- what a text is of which the names aren't taken
abbrev pub given_instead : Result NamesMeant ScenarioFault → List ℕ → Unnamed
given_instead (Ok meant) text = other text
given_instead (Err fault) text = unread text

-- a scenario was given, and its names aren't taken for this cause; what it is instead
abbrev pub HasOtherNames : Topology → Option (List ℕ) → Unnamed → Type 0
HasOtherNames topology None is = ⊥
HasOtherNames topology (Some text) is = IsOther topology (names_meant text) × (is ≡ given_instead (names_meant text) text)

abbrev pub IsMisnamed : Topology → Option (List ℕ) → Fault → Type 0
IsMisnamed topology scenario (Names is) = HasOtherNames topology scenario is
IsMisnamed topology scenario Memory = Unit {0}
IsMisnamed topology scenario _ = ⊥

-- the run has what is wanted, and its rows an order of time; but a name, a comment or a frame doesn't fit its block
pub record IsTooLong (names : List (List ℕ)) (f : Finished) (wanted : Choice) : Type 0 where
  pub has : checked f.run wanted ≡ Ok tt
  pub rows : List Shown
  pub story : IsStory f.run f.plan rows
  pub unfit : ¬ Fits names f.run (filter (is_wanted f.run wanted) rows)

-- the run has what is wanted, and its rows an order of time; but none of them is wanted
pub record IsLeftEmpty (f : Finished) (wanted : Choice) (fault : Fault) : Type 0 where
  pub has : checked f.run wanted ≡ Ok tt
  pub rows : List Shown
  pub story : IsStory f.run f.plan rows
  pub none : leaves_none wanted (filter (is_wanted f.run wanted) rows) ≡ true
  pub told : fault ≡ nothing_fault rows

-- the run hasn't the link, or else the send, that is wanted; or its rows have no order of time; or none is wanted; or a block would be
-- too long
abbrev pub IsUncaptured : List (List ℕ) → Finished → Choice → Fault → Type 0
IsUncaptured names f wanted Link = checked f.run wanted ≡ Err choice.NoLink
IsUncaptured names f wanted Send = checked f.run wanted ≡ Err choice.NoSend
IsUncaptured names f wanted Circle = (checked f.run wanted ≡ Ok tt) × HasNoStory f.run f.plan
IsUncaptured names f wanted NoCopies = IsLeftEmpty f wanted NoCopies
IsUncaptured names f wanted (NoneAsked extent) = IsLeftEmpty f wanted (NoneAsked extent)
IsUncaptured names f wanted TooLong = IsTooLong names f wanted
IsUncaptured names f wanted Memory = Unit {0}
IsUncaptured names f wanted _ = ⊥

-- the sends that are meant can't be pictured, where so many copies are the most; why is told so
pub record IsUndrawn (names : List (List ℕ)) (f : Finished) (asked : List (Bor (List ℕ) × ℕ)) (span : Span) (most : ℕ) (told : PictureFault → Fault) (fault : Fault) : Type 0 where
  pub sends : List Probe
  pub meant : AreSends names asked sends
  pub why : PictureFault
  pub is : fault ≡ told why
  pub refused : IsRefused f.run f.plan sends span most why

-- the rows of the run tell this where none is shown; or they have no order of time; or there was no memory
abbrev pub TellsNothing : Finished → Fault → Type 0
TellsNothing f fault =
    (fault ≡ Memory) ⊎ (((fault ≡ Circle) × HasNoStory f.run f.plan) ⊎ ((rows : List Shown) × IsStory f.run f.plan rows × (fault ≡ nothing_fault rows)))

-- there is such a picture, and it shows no copy
pub record IsBlank (names : List (List ℕ)) (f : Finished) (asked : List (Bor (List ℕ) × ℕ)) (span : Span) (most : ℕ) (fault : Fault) : Type 0 where
  pub sends : List Probe
  pub meant : AreSends names asked sends
  pub picture : Picture
  pub shows : IsPicture f.run f.plan sends span most picture
  pub none : length picture.arrows ≡ 0
  pub told : TellsNothing f fault

-- a send of no node
abbrev pub IsStray : List (List ℕ) → Option (Bor (List ℕ) × ℕ) → Type 0
IsStray names None = ⊥
IsStray names (Some asked) = probe_of names asked ≡ None

-- one of the sends is of no node
abbrev pub HasStray : List (List ℕ) → List (Bor (List ℕ) × ℕ) → Type 0
HasStray names asked = (i : ℕ) × (one : Bor (List ℕ) × ℕ) × (slice_get asked i ≡ Some one) × (probe_of names one ≡ None)

-- one of the sends is of no node; or they can't be pictured, where so many copies are the most, or their picture shows none
abbrev pub IsUnpicturedIn : List (List ℕ) → Finished → List (Bor (List ℕ) × ℕ) → Span → ℕ → (PictureFault → Fault) → Fault → Type 0
IsUnpicturedIn names f asked span most told fault =
    ((fault ≡ Send) × HasStray names asked) ⊎ (IsUndrawn names f asked span most told fault ⊎ IsBlank names f asked span most fault)

-- with these names it can't be shown
abbrev pub IsUnshownBy : List (List ℕ) → Finished → What → Fault → Type 0
IsUnshownBy names f (asked.Capture link send) fault =
    ((fault ≡ Send) × IsStray names send) ⊎ ((probe : Option Probe) × IsSend names send probe × IsUncaptured names f (record { link = link; send = probe }) fault)
IsUnshownBy names f (asked.Picture sends span) fault = IsUnpicturedIn names f sends.items span 400 picture_fault fault
IsUnshownBy names f (asked.Page sends span title) fault = IsUnpicturedIn names f sends.items span 6000 page_fault fault ⊎ ((fault ≡ Circle) × HasNoStamps (origins f.run f.plan))
IsUnshownBy names f asked.Devices fault = ⊥

-- names are asked for and not taken, or what is asked for can't be shown with those that are; or there was no memory
abbrev pub IsUnshown : Finished → What → Option (List ℕ) → Fault → Type 0
IsUnshown f what scenario fault =
    (fault ≡ Memory) ⊎ (IsMisnamed (topology_of f.run) scenario fault ⊎ ((names : List (List ℕ)) × AreNames (topology_of f.run) scenario names × IsUnshownBy names f what fault))

-- the text is that of no run, for this cause; what else it may be is given
abbrev pub IsUnread : ℕ → Option Given → List ℕ → Fault → Type 0
IsUnread capacity given text fault = (read : ReadFault) × (fault ≡ fault_of_read read given) × Answers capacity (Err read) text

-- the text is of a run of which nothing can be shown
abbrev pub IsUnshowable : ℕ → List ℕ → What → Option (List ℕ) → Fault → Type 0
IsUnshowable capacity text what scenario fault = (f : Finished) × IsTextOf capacity f text × IsUnshown f what scenario fault

-- one of these; or reading or memory failed
abbrev pub IsUnshownOf : ℕ → Option Given → List ℕ → What → Option (List ℕ) → Fault → Type 0
IsUnshownOf capacity given text what scenario fault =
    ((fault ≡ Read) ⊎ (fault ≡ Memory)) ⊎ (IsUnread capacity given text fault ⊎ IsUnshowable capacity text what scenario fault)

-- the same, as one fact about tables with so many entries
pub record IsUnshownWith (capacity : ℕ) (given : Option Given) (text : List ℕ) (what : What) (scenario : Option (List ℕ)) (fault : Fault) : Type 0 where
  pub why : IsUnshownOf capacity given text what scenario fault
