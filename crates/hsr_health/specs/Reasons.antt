-- Which reasons hold: at most one for each word of the table. They stand in the order in which they are looked for; Order says in which
-- they are told.
--     AreOfCopies     those that count copies
--     AreOfSources    those that speak of sources and their numbers
--     AreOfPoints     those that speak of points
--     AreOfStrays     those that count packets which are no copies
--     AreOfWhole      those that speak of the whole capture, and of sources that are absent
use Rattle.std.specs.Prelude.{ℕ, ◌≡◌, ◌==◌, Bool, List, ◌++◌, length, option_to_list, reverse, Option}
use Rattle.hsr_capture_reader.specs.declared.fields.Losses.{Losses}
use Rattle.hsr_frame_groups.specs.Frames.{CaughtFields}
use Rattle.hsr_health.specs.Told.{IsAlone, IsOfAbsent, IsOfCopies, IsOfFrames, IsOfGaps, IsOfLosses, IsOfPoints, IsOfRestarts, IsOfSilences, IsOfSome, IsOfStrays, is_foreign, is_malformed, is_one_way_among, is_unjudged, such_of, those_single}
use Rattle.hsr_health.specs.What.{alone_what, behind_what, copy_what, life_what, lost_what}
use Rattle.hsr_heard.specs.declared.abouts.About.{About}
use Rattle.hsr_heard.specs.declared.abouts.Silence.{Silence}
use Rattle.hsr_health.specs.declared.copy_reasons.Mark.TheVariants as mark
use Rattle.hsr_health.specs.declared.counts.Counts.{Counts}
use Rattle.hsr_health.specs.declared.reason.Reason.{Reason}
use Rattle.hsr_health.specs.declared.reason.What.TheVariants as what
use Rattle.hsr_health.specs.declared.reason.Word.TheVariants as word
use Rattle.hsr_number_runs.specs.declared.gaps.Gap.{Gap}
use Rattle.hsr_number_runs.specs.declared.run.Restart.{Restart}
use Rattle.hsr_sightings.specs.Copies.{is_overtaken}
use Rattle.hsr_sightings.specs.Ring.{Ring}
use Rattle.hsr_sightings.specs.Sightings.{sightings}
use Rattle.hsr_taps.specs.declared.tapping.Stray.{Stray}

-- a reason that may hold is put behind others
pub record Puts (is : Option Reason → Type 0) (old new : List Reason) : Type 0 where
  pub reason : Option Reason
  pub told : is reason
  pub put : new ≡ old ++ option_to_list reason

-- by all copies, the latest first
pub record AreOfCopies (ring : Ring) (is_by_lane : ℕ → Bool) (past : List CaughtFields) (reasons : List Reason) : Type 0 where
  pub storm : Option Reason
  pub again : Option Reason
  pub clash : Option Reason
  pub late : Option Reason
  pub size : Option Reason
  pub lane : Option Reason
  pub overtaken : Option Reason
  pub storm_told : IsOfCopies word.Storm (such_of mark.Storm ring is_by_lane) (copy_what mark.Storm ring) past storm
  pub again_told : IsOfCopies word.Again (such_of mark.Again ring is_by_lane) (copy_what mark.Again ring) past again
  pub clash_told : IsOfCopies word.Clash (such_of mark.Clash ring is_by_lane) (copy_what mark.Clash ring) past clash
  pub late_told : IsOfCopies word.Late (such_of mark.Late ring is_by_lane) (copy_what mark.Late ring) past late
  pub size_told : IsOfCopies word.Size (such_of mark.Size ring is_by_lane) (copy_what mark.Size ring) past size
  pub lane_told : IsOfCopies word.Lane (such_of mark.Lane ring is_by_lane) (copy_what mark.Lane ring) past lane
  pub overtaken_told : IsOfCopies word.Overtaken is_overtaken behind_what past overtaken
  pub all : reasons ≡ option_to_list storm ++ option_to_list again ++ option_to_list clash ++ option_to_list late ++ option_to_list size ++ option_to_list lane
      ++ option_to_list overtaken

-- by what is counted of sources, what the capture itself lost at interfaces that are asked for, and the sources that are absent
pub record AreOfWhole (copies : List CaughtFields) (counts : List Counts) (losses : List Losses) (asked : List Bool) (missing : List (List ℕ)) (old new : List Reason) : Type 0 where
  pub empty : Option Reason
  pub unjudged : Option Reason
  pub dropped : Option Reason
  pub absent : Option Reason
  pub empty_told : IsAlone word.Empty what.NoFrame (length copies == 0) empty
  pub unjudged_told : IsAlone word.Unjudged what.AllOpen (is_unjudged copies counts) unjudged
  pub dropped_told : IsOfLosses losses asked dropped
  pub absent_told : IsOfAbsent missing absent
  pub all : new ≡ old ++ option_to_list empty ++ option_to_list unjudged ++ option_to_list dropped ++ option_to_list absent

-- by the groups of sources, what is counted of them, and what their numbers and supervision tell
pub record AreOfSources (ring : Ring) (copies : List CaughtFields) (macs : List (List ℕ)) (groups : List ℕ) (counts : List Counts) (gaps lives : List Gap) (restarts : List Restart)
    (abouts : List About) (silences : List Silence) (old new : List Reason) : Type 0 where
  pub lost : Option Reason
  pub restart : Option Reason
  pub silent : Option Reason
  pub life : Option Reason
  pub lost_told : IsOfGaps word.Lost (lost_what macs) copies (those_single groups counts) gaps lost
  pub restart_told : IsOfRestarts copies macs restarts restart
  pub silent_told : IsOfSilences ring copies macs abouts silences silent
  pub life_told : IsOfSome word.Life (life_what macs) copies lives life
  pub all : new ≡ old ++ option_to_list lost ++ option_to_list restart ++ option_to_list silent ++ option_to_list life

pub record AreOfPoints (ring : Ring) (copies : List CaughtFields) (many : ℕ) (old new : List Reason) : Type 0 where
  pub one_sided : Option Reason
  pub one_way : Option Reason
  pub one_sided_told : IsOfPoints ring copies many one_sided
  pub one_way_told : IsOfFrames word.OneWay (is_one_way_among ring copies many) (alone_what ring) (sightings ring (reverse copies)) one_way
  pub all : new ≡ old ++ option_to_list one_sided ++ option_to_list one_way

pub record AreOfStrays (strays : List Stray) (old new : List Reason) : Type 0 where
  pub malformed : Option Reason
  pub untagged : Option Reason
  pub malformed_told : IsOfStrays word.Malformed is_malformed strays malformed
  pub untagged_told : IsOfStrays word.Untagged is_foreign strays untagged
  pub all : new ≡ old ++ option_to_list malformed ++ option_to_list untagged
