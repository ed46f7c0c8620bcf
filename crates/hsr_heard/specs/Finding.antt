-- How it is found whom supervision tells of: copies are sorted by whom they are about, and those about one address are told of together.
--     IsRun         copies about one address, among those that were sorted
--     PutsAbout     what is put of them behind what is told of others
use Rattle.std.specs.Prelude.{ℕ, ◌≡◌, ◌<◌, ◌≤◌, ◌⊎◌, List, [], ◌∷◌, ◌++◌, length, slice_get, Option, Some, None}
use Rattle.hsr_address.specs.Numbers.{number_of}
use Rattle.hsr_heard.specs.declared.abouts.About.{About}
use Rattle.hsr_heard.specs.declared.abouts.Abouts.{Abouts}
use Rattle.hsr_heard.specs.declared.heard.Heard.{Heard}
use Rattle.hsr_heard.specs.Subjects.{IsAboutOf, frames_in, silences_of}

-- copies are about one address from an index on, up to another
pub record IsRun (copies : List Heard) (from until : ℕ) : Type 0 where
  pub first : Heard
  pub first_is : slice_get copies from ≡ Some first
  pub more : from < until
  pub within : until ≤ length copies
  pub same : (k : ℕ) (one : Heard) → from ≤ k → k < until → slice_get copies k ≡ Some one → one.said.about ≡ first.said.about
  pub other : (one : Heard) → slice_get copies until ≡ Some one → number_of one.said.about ≡ number_of first.said.about → ⊥

-- the number by which copies are sorted
abbrev pub key_of : Heard → ℕ
key_of one = number_of one.said.about

-- what copies about one address tell of it, put behind what is told of others, if one of them began a frame
pub record PutsOne (start end : ℕ) (mac : List ℕ) (copies : List Heard) (old new : Abouts) : Type 0 where
  pub about : About
  pub mac_is : about.mac ≡ mac
  pub is : IsAboutOf copies about
  pub all : new.all.items ≡ old.all.items ++ about ∷ []
  pub silences : new.silences.items ≡ old.silences.items ++ silences_of start end mac (frames_in copies)

abbrev pub PutsAbout : ℕ → ℕ → List ℕ → List Heard → Abouts → Abouts → Type 0
PutsAbout start end mac copies old new = ((frames_in copies ≡ []) × (new ≡ old)) ⊎ PutsOne start end mac copies old new

-- the moment of a copy; 0 where there is no copy
abbrev pub moment_of : Option Heard → ℕ
moment_of None = 0
moment_of (Some one) = one.at
