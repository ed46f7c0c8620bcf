-- The numbers of sources: their runs, between two restarts, and the gaps in them. A RedBox and its stations count together, so they are one
-- group; it goes by the index of its first source.
--     AreGroups       of each source its group
--     numbered_at     the number of a copy that begins a frame and is no clash
--     IsLedger        what the numbers of groups tell
use Rattle.std.specs.Prelude.{ℕ, ◌≡◌, ◌+◌, ◌-◌, ◌<◌, ◌^◌, ◌&&◌, min, not, Bool, if◌then◌else◌, List, [], ◌∷◌, find, replicate, reverse, slice_get, slice_index, unwrap_or, IsPermutation, Option, Some, None}
use Rattle.std.specs.List.Sorted.{IsSortedByKey}
use Rattle.std.specs.Ordering.{nat_cmp, ordering_then}
use Rattle.std.specs.declared.cmp.Ordering.{Ordering}
use Rattle.hsr_frame.specs.Address.{is_same_address}
use Rattle.hsr_frame_groups.specs.Frames.{CaughtFields}
use Rattle.hsr_health.specs.Counted.{changed, one_more}
use Rattle.hsr_heard.specs.declared.abouts.About.{About}
use Rattle.hsr_heard.specs.declared.heard.Heard.{Heard}
use Rattle.hsr_health.specs.declared.ledger.GroupNumbers.{GroupNumbers}
use Rattle.hsr_health.specs.declared.ledger.Ledger.{Ledger}
use Rattle.hsr_number_runs.specs.Elsewhere.{elsewhere_in}
use Rattle.hsr_number_runs.specs.Gaps.{gaps_in}
use Rattle.hsr_number_runs.specs.Runs.{in_runs, restarts_in}
use Rattle.hsr_number_runs.specs.declared.gaps.Gap.{Gap}
use Rattle.hsr_number_runs.specs.declared.run.InRun.{InRun}
use Rattle.hsr_number_runs.specs.declared.run.Numbered.{Numbered}
use Rattle.hsr_number_runs.specs.declared.run.Restart.{Restart}
use Rattle.hsr_sightings.specs.Copies.{is_clash}
use Rattle.hsr_sightings.specs.Frames.{begins}

-- ---- groups

-- the address by which a source's group goes: that of its RedBox, as the last supervision about the source says, or of who sent that; its
-- own where there is none
abbrev pub name_by : List ℕ → Option About → List ℕ
name_by mac None = mac
name_by mac (Some about) = unwrap_or about.redbox about.source

abbrev pub group_name : List About → List ℕ → List ℕ
group_name abouts mac = name_by mac (find (λ about. is_same_address about.mac mac) abouts)

-- the first of these addresses that is the same as the one at an index
pub record IsFirstSame (names : List (List ℕ)) (k first : ℕ) : Type 0 where
  pub same : slice_get names first ≡ slice_get names k
  pub before : (j : ℕ) → j < first → slice_get names j ≡ slice_get names k → ⊥

-- of each source the first one whose group has the same name
abbrev pub AreGroups : List (List ℕ) → List ℕ → Type 0
AreGroups names groups = (k group : ℕ) → slice_get groups k ≡ Some group → IsFirstSame names k group

-- ---- numbers

abbrev pub number_if : ℕ → ℕ → ℕ → Bool → CaughtFields → Option Numbered
number_if i sender group is c = if is then Some (record { group = group; sender = sender; number = c.copy.seq; at = c.at; copy = i }) else None

-- by the source of each copy, and the group of each source
abbrev pub numbered_at : List ℕ → List ℕ → ℕ → List CaughtFields → CaughtFields → Option Numbered
numbered_at of_copy groups i past c = number_if i (slice_index of_copy i) (slice_index groups (slice_index of_copy i)) (begins past c && not (is_clash past c)) c

-- the number of a supervision frame: each source counts its own
abbrev pub life_number : List ℕ → Heard → Option Numbered
life_number of_copy one = if one.begins then Some (record { group = slice_index of_copy one.copy; sender = slice_index of_copy one.copy; number = one.said.seq; at = one.at; copy = one.copy }) else None

-- ---- what they tell

-- by run, and then by extended number
abbrev pub run_cmp : ℕ × ℕ → ℕ × ℕ → Ordering
run_cmp a b = ordering_then (nat_cmp a.0 b.0) (nat_cmp a.1 b.1)

pub record AreByRun (before after : List InRun) : Type 0 where
  pub same : IsPermutation before after
  pub sorted : IsSortedByKey (λ (p : InRun). (p.run, p.extended)) run_cmp after

-- numbers of 64 bits at most
abbrev pub with_gap : Gap → GroupNumbers → GroupNumbers
with_gap gap own = record { gaps = one_more own.gaps; missing = min (own.missing + gap.missing) (2 ^ 64 - 1); restarts = own.restarts }

abbrev pub with_restart : GroupNumbers → GroupNumbers
with_restart own = record { gaps = own.gaps; missing = own.missing; restarts = one_more own.restarts }

abbrev pub with_gaps : List Gap → List GroupNumbers → List GroupNumbers
with_gaps [] numbers = numbers
with_gaps (gap ∷ gaps) numbers = with_gaps gaps (changed (with_gap gap) gap.group numbers)

abbrev pub with_restarts : List Restart → List GroupNumbers → List GroupNumbers
with_restarts [] numbers = numbers
with_restarts (restart ∷ restarts) numbers = with_restarts restarts (changed with_restart restart.group numbers)

-- of each of so many groups its gaps, the numbers that they miss, and its restarts
abbrev pub sums_by : List Gap → List Restart → ℕ → List GroupNumbers
sums_by gaps restarts many = with_restarts restarts (with_gaps gaps (replicate many (record { gaps = 0; missing = 0; restarts = 0 })))

-- Of numbers in the order of time: their gaps and restarts, the sums of so many groups, and of so many senders how many numbers between
-- two of their own others of their group had.
pub record IsLedger (numbers : List Numbered) (many : ℕ) (ledger : Ledger) : Type 0 where
  pub in_order : List InRun
  pub are_in_order : AreByRun (reverse (in_runs (reverse numbers))) in_order
  pub gaps : ledger.gaps.items ≡ gaps_in in_order
  pub restarts : ledger.restarts.items ≡ restarts_in (reverse numbers)
  pub sums : ledger.numbers.items ≡ sums_by ledger.gaps.items ledger.restarts.items many
  pub elsewhere : (sender : ℕ) → sender < many → slice_get ledger.elsewhere.items sender ≡ Some (elsewhere_in sender (reverse in_order))
