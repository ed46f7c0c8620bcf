-- How `run` ends, by what there is of a scenario.
use Rattle.std.proofs.Common.{ℕ, ◌≡◌, ◌≢◌, inl, inr, Bool, true, false, List, Option, Some, None, Result, Ok, Err, subst, sym, IfSome, ◌^◌}
use Rattle.std.specs.Prelude.{IfOk, Vec}
use Rattle.std.specs.Global.{Global}
use Rattle.hsr_files.specs.Files.{File}
use Rattle.hsr_files.proofs.Puts.{none_put}
use Rattle.hsr_node.specs.declared.place.Place.{Place}
use Rattle.hsr_finished_run.specs.Checked.{IfDisagree, IsOpen}
use Rattle.hsr_finished_run.specs.Finished.{Finished}
use Rattle.hsr_finished_run.specs.declared.disagree.CheckFault.{CheckFault}
use Rattle.hsr_finished_run.specs.declared.disagree.CheckFault.TheVariants as check
use Rattle.hsr_options.specs.declared.chosen.Showing.{Showing}
use Rattle.hsr_world_laws.specs.Lawful.{IsEnded, finished_of}
use Rattle.hsr_world_laws.specs.World.{World}
use Rattle.hsr_commands.specs.OpenRun.{IsLeftBy, IsOpenOf, IsPlayedOn, IsShownBy, IsShownOfRun, IsUnshown, IsWrittenOpen, RunEnds, open_text}
use Rattle.hsr_commands.specs.Reading.{Said, scenario_of}
use Rattle.hsr_commands.specs.ScenarioRun.{IsReported, IsUnplayed, IsUnreported, ScenarioEnds}
use Rattle.hsr_commands.specs.Naming.{Named, names_in}
use Rattle.hsr_commands.specs.Shown.{IsDelivered, Outputs, outputs}
use Rattle.hsr_commands.specs.declared.shown.ShownRun.{ShownRun}
use Rattle.hsr_text.specs.Whole.{IsWhole}
use Rattle.hsr_commands.specs.declared.fault.Fault.{Fault}
use Rattle.hsr_commands.specs.declared.fault.Fault.TheVariants.{Line, Scenario, Step, Fine, Transcript, Check, Names, Tables, Read, Write, Memory, Thread, Gate}
use Rattle.hsr_commands.specs.declared.fault.Status.{Status}
use Rattle.hsr_commands.specs.declared.fault.Status.TheVariants.{Certified, Fault as Stopped, Doubt, Open}
use Rattle.hsr_commands.specs.declared.scenario.Shown.{Shown}
use Rattle.hsr_commands.specs.declared.scenario.Shown.TheVariants.{Closed, Open as Left}
use Rattle.hsr_commands.proofs.Said.{as_read, names_as_read}
use Rattle.hsr_commands.proofs.Telling.{told_fault, told_report}

-- ---- what there is of a scenario

module _ (capacity : ℕ) (shows_open : Bool) (showing : Showing) (folder : Option (List ℕ)) (said : Said) (named : Named) where
  pub shown_closed : (places : List Place) (w : World) (f : Finished) (shown : Shown) → IsPlayedOn capacity said places w → IsEnded w → f ≡ finished_of capacity w
      → IsShownOfRun showing folder named f shown → IsShownBy capacity shows_open showing folder said named shown
  shown_closed places w f (Closed shown) played ended is holds = record {
    world = w;
    played = record { meant = played.meant; means = played.means; plays = played.plays };
    ended = ended;
    is_shown = subst (λ (g : Finished). IsShownOfRun showing folder named g (Closed shown)) is holds;
  }
  shown_closed places w f (Left text) played ended is holds = absurd holds

  pub shown_open : (places : List Place) (w : World) (fault : CheckFault) (shown : Shown) → IsPlayedOn capacity said places w → IfDisagree fault (λ cause. ¬ IsEnded w)
      → shows_open ≡ true → IsOpenOf capacity showing.names named places w fault shown → IsShownBy capacity shows_open showing folder said named shown
  shown_open places w (check.Disagree cause) (Left text) played stays asked is = (
    asked,
    record {
      meant = played.meant;
      means = played.means;
      world = w;
      plays = played.plays;
      stays_open = stays;
      naming = is.0;
      is_naming = is.1;
      is_text = subst (λ (ps : List Place). text.items ≡ open_text is.0 capacity ps w) played.places_are is.2;
    },
  )
  shown_open places w (check.Disagree cause) (Closed shown) played stays asked is = absurd is
  shown_open places w check.NoMemory (Closed shown) played stays asked is = absurd is
  shown_open places w check.NoMemory (Left text) played stays asked is = absurd is

  pub opened : (places listed : List Place) (w left : World) (fault : CheckFault) (r : Result Shown Fault) → IsPlayedOn capacity said places w → left ≡ w → IfDisagree fault (λ cause. ¬ IsEnded w)
      → listed ≡ places → IfOk r (λ shown. (shows_open ≡ true) × IsOpenOf capacity showing.names named listed left fault shown) → IfOk r (IsShownBy capacity shows_open showing folder said named)
  opened places listed w left fault (Err f) played same stays listing shown_so = tt
  opened places listed w left fault (Ok shown) played same stays listing shown_so =
      let of_world = subst (λ (u : World). IsOpenOf capacity showing.names named listed u fault shown) same shown_so.1 in
      shown_open places w fault shown played stays shown_so.0 (subst (λ (ps : List Place). IsOpenOf capacity showing.names named ps w fault shown) listing of_world)

pub unshown_unplayed : (capacity : ℕ) (shows_open : Bool) (said : Said) (fault : Fault) → IsUnplayed capacity said fault → IsUnshown capacity shows_open said fault
unshown_unplayed capacity shows_open said (Line n) u = u
unshown_unplayed capacity shows_open said (Scenario f) u = u
unshown_unplayed capacity shows_open said (Step n f) u = u
unshown_unplayed capacity shows_open said (Fine n) u = u
unshown_unplayed capacity shows_open said (Transcript f) u = u
unshown_unplayed capacity shows_open said (Check f) u = absurd u
unshown_unplayed capacity shows_open said (Names f) u = u
unshown_unplayed capacity shows_open said Tables u = u
unshown_unplayed capacity shows_open said Read u = u
unshown_unplayed capacity shows_open said Write u = u
unshown_unplayed capacity shows_open said Memory u = u
unshown_unplayed capacity shows_open said Thread u = u
unshown_unplayed capacity shows_open said Gate u = u

pub unshown_short : (capacity : ℕ) (shows_open : Bool) (said : Said) (fault : Fault) → fault ≡ Memory → IsUnshown capacity shows_open said fault
unshown_short capacity shows_open said fault is = subst (IsUnshown capacity shows_open said) (sym is) tt

pub unshown_left : (capacity : ℕ) (shows_open : Bool) (said : Said) (places : List Place) (w : World) (fault : CheckFault) (left : Fault)
    → IsPlayedOn capacity said places w → IfDisagree fault (λ cause. ¬ IsEnded w) → IfDisagree fault (λ cause. IsOpen (finished_of capacity w).run cause)
    → IsLeftBy shows_open fault left → IsUnshown capacity shows_open said left
unshown_left capacity shows_open said places w fault (Check cause) played stays first (hidden, same) =
    let still : ¬ IsEnded w = subst (λ (f : CheckFault). IfDisagree f (λ c. ¬ IsEnded w)) same stays in
    let open_so : IsOpen (finished_of capacity w).run cause = subst (λ (f : CheckFault). IfDisagree f (λ c. IsOpen (finished_of capacity w).run c)) same first in
    (hidden, (w, record { meant = played.meant; means = played.means; plays = played.plays }, (still, open_so)))
unshown_left capacity shows_open said places w fault Memory played stays first by = tt
unshown_left capacity shows_open said places w fault (Line n) played stays first by = absurd by
unshown_left capacity shows_open said places w fault (Scenario f) played stays first by = absurd by
unshown_left capacity shows_open said places w fault (Step n f) played stays first by = absurd by
unshown_left capacity shows_open said places w fault (Fine n) played stays first by = absurd by
unshown_left capacity shows_open said places w fault (Transcript f) played stays first by = absurd by
unshown_left capacity shows_open said places w fault (Names f) played stays first by = absurd by
unshown_left capacity shows_open said places w fault Tables played stays first by = absurd by
unshown_left capacity shows_open said places w fault Read played stays first by = absurd by
unshown_left capacity shows_open said places w fault Write played stays first by = absurd by
unshown_left capacity shows_open said places w fault Thread played stays first by = absurd by
unshown_left capacity shows_open said places w fault Gate played stays first by = absurd by

-- ---- how `run` ends

module _ (capacity : ℕ) (shows_open : Bool) (showing : Showing) (folder : Option (List ℕ)) (said : Said) (named : Named) where
  as_run : (before after : Outputs) (shown : ShownRun) (status : Status) → IsDelivered folder before after shown status
      → ScenarioEnds capacity showing folder said named before after status → RunEnds capacity shows_open showing folder said named before after status
  as_run before after shown Certified d ends = ends
  as_run before after shown Doubt d ends = ends
  as_run before after shown Open d ends = absurd d
  as_run before after shown (Stopped (Line n)) d ends = absurd d
  as_run before after shown (Stopped (Scenario f)) d ends = absurd d
  as_run before after shown (Stopped (Step n f)) d ends = absurd d
  as_run before after shown (Stopped (Fine n)) d ends = absurd d
  as_run before after shown (Stopped (Transcript f)) d ends = absurd d
  as_run before after shown (Stopped (Check f)) d ends = absurd d
  as_run before after shown (Stopped (Names f)) d ends = absurd d
  as_run before after shown (Stopped Tables) d ends = ends
  as_run before after shown (Stopped Read) d ends = absurd d
  as_run before after shown (Stopped Write) d ends = inl ends
  as_run before after shown (Stopped Memory) d ends = ends
  as_run before after shown (Stopped Thread) d ends = absurd d
  as_run before after shown (Stopped Gate) d ends = absurd d

  pub closed_told : (before after : Outputs) (shown : ShownRun) (status : Status) → IsShownBy capacity shows_open showing folder said named (Closed shown)
      → IsDelivered folder before after shown status → RunEnds capacity shows_open showing folder said named before after status
  closed_told before after shown status r d =
      as_run before after shown status d (told_report capacity showing folder said named before after shown status r d)

  pub open_told : (held holds : Option (List ℕ)) (put : Option (List File)) (text : Vec ℕ Global) (status : Status)
      → IsShownBy capacity shows_open showing folder said named (Left text) → IsWrittenOpen held holds text.items status
      → RunEnds capacity shows_open showing folder said named (outputs held put) (outputs holds put) status
  open_told held holds put text Open r d = (r.0, record { text = text.items; is_left = r.1; written = d; kept = none_put put })
  open_told held holds put text (Stopped Write) r d = inr (r.0, record { text = text.items; is_left = r.1; kept = none_put put })
  open_told held holds put text Certified r d = absurd d
  open_told held holds put text Doubt r d = absurd d
  open_told held holds put text (Stopped (Line n)) r d = absurd d
  open_told held holds put text (Stopped (Scenario f)) r d = absurd d
  open_told held holds put text (Stopped (Step n f)) r d = absurd d
  open_told held holds put text (Stopped (Fine n)) r d = absurd d
  open_told held holds put text (Stopped (Transcript f)) r d = absurd d
  open_told held holds put text (Stopped (Check f)) r d = absurd d
  open_told held holds put text (Stopped (Names f)) r d = absurd d
  open_told held holds put text (Stopped Tables) r d = absurd d
  open_told held holds put text (Stopped Read) r d = absurd d
  open_told held holds put text (Stopped Memory) r d = absurd d
  open_told held holds put text (Stopped Thread) r d = absurd d
  open_told held holds put text (Stopped Gate) r d = absurd d

  pub unshown_told : (written : Option (List ℕ)) (put : Option (List File)) (fault : Fault) → IsUnshown capacity shows_open said fault
      → RunEnds capacity shows_open showing folder said named (outputs written put) (outputs written put) (Stopped fault)
  unshown_told written put (Check cause) (hidden, u) = (hidden, told_fault capacity showing folder said named (outputs written put) (Check cause) u)
  unshown_told written put (Line n) u = absurd u
  unshown_told written put (Scenario f) u = told_fault capacity showing folder said named (outputs written put) (Scenario f) u
  unshown_told written put (Step n f) u = told_fault capacity showing folder said named (outputs written put) (Step n f) u
  unshown_told written put (Fine n) u = absurd u
  unshown_told written put (Transcript f) u = absurd u
  unshown_told written put (Names f) u = absurd u
  unshown_told written put Tables u = absurd u
  unshown_told written put Read u = absurd u
  unshown_told written put Write u = absurd u
  unshown_told written put Memory u = told_fault capacity showing folder said named (outputs written put) Memory u
  unshown_told written put Thread u = absurd u
  unshown_told written put Gate u = absurd u

-- what is told of octets is no fault of a reader
pub unshown_known : (capacity : ℕ) (shows_open : Bool) (said : Said) (fault : Fault) → IsUnshown capacity shows_open said fault → Stopped fault ≢ Stopped Read
unshown_known capacity shows_open said fault u is = let same : fault ≡ Read = cc in subst (λ f. IsUnshown capacity shows_open said f) same u

pub open_known : (held holds : Option (List ℕ)) (text : List ℕ) (status : Status) → IsWrittenOpen held holds text status → status ≢ Stopped Read
open_known held holds text status d is = subst (λ s. IsWrittenOpen held holds text s) is d

-- what is told of what was read is told of the text
pub run_told_text : (capacity : ℕ) (shows_open : Bool) (showing : Showing) (folder : Option (List ℕ)) (all : Option (List ℕ)) (read : List ℕ) (before after : Outputs) (status : Status)
    → IfSome all (λ text. IsWhole (2 ^ 24) text read) → RunEnds capacity shows_open showing folder (scenario_of read) (names_in read) before after status
    → IfSome all (λ text. RunEnds capacity shows_open showing folder (scenario_of text) (names_in text) before after status)
run_told_text capacity shows_open showing folder None read before after status whole told = tt
run_told_text capacity shows_open showing folder (Some text) read before after status whole told =
    subst (λ (named : Named). RunEnds capacity shows_open showing folder (scenario_of text) named before after status) (names_as_read text read whole)
    (subst (λ (said : Said). RunEnds capacity shows_open showing folder said (names_in read) before after status) (as_read text read whole) told)
