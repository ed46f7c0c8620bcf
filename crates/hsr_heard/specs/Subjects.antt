-- Whom supervision tells of, and when it was silent. Lists are in the order of time.
--     IsAbout        what is told of an address
--     silences_of    the times of over 5 s in which no frame about it came
--     AreAbouts      whom supervision tells of, in the order of addresses, and all silences
use Rattle.std.specs.Prelude.{ℕ, ◌≡◌, ◌-◌, ◌/◌, ◌<◌, ◌==◌, nat_lt, not, Bool, true, false, if◌then◌else◌, List, [], ◌∷◌, ◌++◌, filter, find, flat_map, length, option_map, reverse, slice_get, Option, Some, None}
use Rattle.hsr_address.specs.Numbers.{number_of}
use Rattle.hsr_frame.specs.Address.{is_same_address}
use Rattle.hsr_heard.specs.declared.abouts.About.{About}
use Rattle.hsr_heard.specs.declared.abouts.Silence.{Silence}
use Rattle.hsr_heard.specs.declared.heard.Heard.{Heard}
use Rattle.hsr_spread.specs.Spreads.{IsSpread}

-- ---- copies about an address

abbrev pub is_about : List ℕ → Heard → Bool
is_about mac one = is_same_address one.said.about mac

abbrev pub those_about : List ℕ → List Heard → List Heard
those_about mac heard = filter (is_about mac) heard

-- those that began their frames
abbrev pub frames_in : List Heard → List Heard
frames_in heard = filter (λ one. one.begins) heard

-- from the first of these on
abbrev pub from_first : List Heard → List Heard
from_first [] = []
from_first (one ∷ heard) = if one.begins then one ∷ heard else from_first heard

abbrev pub frames_about : List ℕ → List Heard → List Heard
frames_about mac heard = frames_in (those_about mac heard)

-- ---- what is told

abbrev pub is_by : Bool → Heard → Bool
is_by zero one = if zero then one.way == 0 else not (one.way == 0)

-- the moment of the last copy on way 0, or else on way 1
abbrev pub last_by : Bool → List Heard → Option ℕ
last_by zero heard = option_map (λ one. one.at) (find (is_by zero) (reverse heard))

-- from each to the next, in microseconds
abbrev pub steps_from : ℕ → List Heard → List ℕ
steps_from at [] = []
steps_from at (one ∷ heard) = (one.at - at) / 1000 ∷ steps_from one.at heard

abbrev pub steps_of : List Heard → List ℕ
steps_of [] = []
steps_of (one ∷ heard) = steps_from one.at heard

-- by frames about one address, and by the copies from the first frame on
pub record IsAboutBy (frames copies : List Heard) (about : About) : Type 0 where
  pub first : Heard
  pub last : Heard
  pub first_is : slice_get frames 0 ≡ Some first
  pub last_is : slice_get frames (length frames - 1) ≡ Some last
  pub kind : about.kind ≡ last.said.kind
  pub redbox : about.redbox ≡ last.said.redbox
  pub source : about.source ≡ last.source
  pub heard : about.heard ≡ length frames
  pub first_at : about.first ≡ first.at
  pub last_at : about.last ≡ last.at
  pub by_0 : about.by_0 ≡ last_by true copies
  pub by_1 : about.by_1 ≡ last_by false copies
  pub every : IsSpread (steps_of frames) about.every

abbrev pub IsAboutOf : List Heard → About → Type 0
IsAboutOf heard about = IsAboutBy (frames_in heard) (from_first heard) about

abbrev pub IsAbout : List Heard → About → Type 0
IsAbout heard about = IsAboutOf (those_about about.mac heard) about

-- ---- silences

abbrev pub silent_time : ℕ
silent_time = 5000000000

-- a time of over 5 s, with the copy before it
abbrev pub silence_between : List ℕ → Option ℕ → ℕ → ℕ → List Silence
silence_between mac copy from until = if nat_lt silent_time (until - from) then record { mac = mac; copy = copy; from = from; until = until } ∷ [] else []

-- from a moment on up to the end
abbrev pub silences_from : List ℕ → ℕ → Option ℕ → ℕ → List Heard → List Silence
silences_from mac end copy from [] = silence_between mac copy from end
silences_from mac end copy from (one ∷ frames) = silence_between mac copy from one.at ++ silences_from mac end (Some one.copy) one.at frames

abbrev pub silences_of : ℕ → ℕ → List ℕ → List Heard → List Silence
silences_of start end mac frames = silences_from mac end None start frames

-- those of several addresses, one after the other
abbrev pub silences_among : ℕ → ℕ → List Heard → List About → List Silence
silences_among start end heard abouts = flat_map (λ about. silences_of start end about.mac (frames_about about.mac heard)) abouts

-- ---- the whole

-- addresses rise
abbrev pub Rise : List About → Type 0
Rise abouts = (j k : ℕ) (a b : About) → j < k → slice_get abouts j ≡ Some a → slice_get abouts k ≡ Some b → number_of a.mac < number_of b.mac

-- an address is told of
pub record IsToldOf (abouts : List About) (mac : List ℕ) : Type 0 where
  pub place : ℕ
  pub about : About
  pub there : slice_get abouts place ≡ Some about
  pub is : about.mac ≡ mac

-- All of whom a supervision frame told between two moments, and all silences.
pub record AreAbouts (heard : List Heard) (start end : ℕ) (abouts : List About) (silences : List Silence) : Type 0 where
  pub each : (k : ℕ) (about : About) → slice_get abouts k ≡ Some about → IsAbout heard about
  pub rise : Rise abouts
  pub all : (i : ℕ) (one : Heard) → slice_get heard i ≡ Some one → one.begins ≡ true → IsToldOf abouts one.said.about
  pub silences_are : silences ≡ silences_among start end heard abouts
