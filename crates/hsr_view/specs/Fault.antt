-- The line of a fault, and refusals as faults.
--     fault_line      what stands on standard error, without its line feed
--     nothing_fault   what is told of the rows of a run of which none is asked for
use Rattle.std.specs.Prelude.{ℕ, ◌-◌, Bool, true, false, List, ◌++◌, codes, length, slice_get, Option, Some}
use Rattle.std.specs.Fmt.{decimal}
use Rattle.hsr_finished_run.specs.Disagree.{disagree_code}
use Rattle.hsr_pcapng.specs.declared.fault.BlockFault.{BlockFault}
use Rattle.hsr_pcapng.specs.declared.fault.BlockFault.TheVariants as block
use Rattle.hsr_timeline.specs.declared.choice.ChoiceFault.{ChoiceFault}
use Rattle.hsr_timeline.specs.declared.choice.ChoiceFault.TheVariants as choice
use Rattle.hsr_timeline.specs.declared.shown.Shown.{Shown}
use Rattle.hsr_timeline.specs.declared.telling.StoryFault.{StoryFault}
use Rattle.hsr_timeline.specs.declared.telling.StoryFault.TheVariants as story
use Rattle.hsr_diagram.specs.declared.picturing.PictureFault.{PictureFault}
use Rattle.hsr_diagram.specs.declared.picturing.PictureFault.TheVariants as picture
use Rattle.hsr_transcript.specs.declared.fault.ReadFault.{ReadFault}
use Rattle.hsr_transcript.specs.declared.fault.ReadFault.TheVariants as read
use Rattle.hsr_given.specs.Given.{given_words}
use Rattle.hsr_given.specs.Unnamed.{unnamed_words}
use Rattle.hsr_given.specs.declared.given.Given.{Given}
use Rattle.hsr_view.specs.declared.fault.Fault.{Fault}
use Rattle.hsr_view.specs.declared.fault.Extent.{Extent}
use Rattle.hsr_view.specs.declared.fault.Moments.{Moments}
use Rattle.hsr_view.specs.declared.fault.Fault.TheVariants.{Transcript, Other, Names, Link, Send, Moments as Reversed, Copies, PageCopies, NoCopies, NoneAsked, Circle, TooLong, Read, Write, Memory}

-- why a text isn't read
abbrev pub read_line : ReadFault → List ℕ
read_line read.Version = codes "fault: transcript version"
read_line (read.BadLine n) = codes "fault: transcript line " ++ decimal n
read_line read.End = codes "fault: transcript end"
read_line (read.Disagrees cause) = codes "fault: check " ++ decimal (disagree_code cause)
read_line read.Read = codes "fault: read"
read_line read.NoMemory = codes "fault: memory"

-- the agreed line, and which text was given; whether it ended in its first line
abbrev pub other_line : Given → Bool → List ℕ
other_line given false = codes "fault: transcript version\nexplain: " ++ given_words given
other_line given true = codes "fault: transcript end\nexplain: " ++ given_words given

-- from one to another
abbrev pub moments_text : Moments → List ℕ
moments_text moments = decimal moments.first ++ (codes " to " ++ decimal moments.last)

abbrev pub extent_text : Extent → List ℕ
extent_text extent = decimal extent.copies ++ (codes ", of moments " ++ moments_text extent.moments)

abbrev pub fault_line : Fault → List ℕ
fault_line (Transcript fault) = read_line fault
fault_line (Other given has_ended) = other_line given has_ended
fault_line (Names unnamed) =
    codes "fault: names, and --names takes the scenario of the run: hsr_plan writes that of a plan\nexplain: " ++ unnamed_words unnamed
fault_line Link = codes "fault: link"
fault_line Send = codes "fault: send"
fault_line Reversed = codes "fault: moments"
fault_line (Copies n) = codes "fault: copies " ++ (decimal n ++ codes ", and a picture shows 400: choose by --send, --from or --until")
fault_line (PageCopies n) = codes "fault: copies " ++ (decimal n ++ codes ", and a page shows 6000: choose by --send, --from or --until")
fault_line NoCopies = codes "fault: nothing to show: the run has no copies"
fault_line (NoneAsked extent) =
    codes "fault: nothing to show: copies " ++ (extent_text extent ++ codes ", and none is asked for: change --link, --send, --from or --until")
fault_line Circle = codes "fault: order"
fault_line TooLong = codes "fault: length"
fault_line Read = codes "fault: read"
fault_line Write = codes "fault: write"
fault_line Memory = codes "fault: memory"

-- ---- refusals

-- why a text is none of a finished run; where it is one that another program knows, with what it is
abbrev pub fault_of_read : ReadFault → Option Given → Fault
fault_of_read read.Version (Some given) = Other given false
fault_of_read read.End (Some given) = Other given true
fault_of_read fault given = Transcript fault

abbrev pub choice_fault : ChoiceFault → Fault
choice_fault choice.NoLink = Link
choice_fault choice.NoSend = Send

abbrev pub story_fault : StoryFault → Fault
story_fault story.Circle = Circle
story_fault story.NoMemory = Memory

abbrev pub block_fault : BlockFault → Fault
block_fault block.TooLong = TooLong
block_fault block.NoMemory = Memory

abbrev pub picture_fault : PictureFault → Fault
picture_fault picture.NoSend = Send
picture_fault picture.Reversed = Reversed
picture_fault picture.Circle = Circle
picture_fault (picture.TooMany copies) = Copies copies
picture_fault picture.NoMemory = Memory

-- the same of a page, which shows more copies
abbrev pub page_fault : PictureFault → Fault
page_fault (picture.TooMany copies) = PageCopies copies
page_fault why = picture_fault why

-- ---- rows of which none is asked for

-- how many they are, by the first and the last
abbrev pub nothing_between : ℕ → Option Shown → Option Shown → Fault
nothing_between copies (Some first) (Some last) = NoneAsked (record { copies = copies; moments = record { first = first.moment; last = last.moment } })
nothing_between copies first last = NoCopies

-- how many there are, and from which moment to which, in the order of time
abbrev pub nothing_fault : List Shown → Fault
nothing_fault rows = nothing_between (length rows) (slice_get rows 0) (slice_get rows (length rows - 1))
