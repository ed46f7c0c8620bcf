-- How many sends each stream had, and how many of them are complete.
--     tallied   how many sends pass a test, of those that count at a row
use Rattle.std.specs.Prelude.{ℕ, ◌≡◌, ◌+◌, ◌-◌, ◌^◌, ◌==◌, ◌&&◌, min, Bool, true, if◌then◌else◌, List, [], ◌∷◌, length, slice_get, Option, Some, None}
use Rattle.hsr_plan_sweep.specs.Counting.{is_complete, stream_if}
use Rattle.hsr_plan_sweep.specs.declared.counting.Outcome.{Outcome}
use Rattle.hsr_plan_report.specs.declared.sent.Sent.{Sent}

-- the row of a send: that of its stream, or the last one, that of supervision
abbrev pub row_of : ℕ → Option ℕ → ℕ
row_of last None = last
row_of last (Some stream) = stream

-- the send at an index counts at a row, where these are the streams of all
abbrev pub counts_at : List (Option ℕ) → ℕ → ℕ → ℕ → Bool
counts_at streams last k i = row_of last (stream_if (slice_get streams i)) == k

abbrev pub one_if : Bool → ℕ
one_if b = if b then 1 else 0

-- of sends with these outcomes that follow i others
abbrev pub tallied : (Outcome → Bool) → List (Option ℕ) → ℕ → ℕ → ℕ → List Outcome → ℕ
tallied test streams last k i [] = 0
tallied test streams last k i (o ∷ os) = one_if (counts_at streams last k i && test o) + tallied test streams last k (i + 1) os

abbrev pub sends_at : List (Option ℕ) → ℕ → List Outcome → ℕ → ℕ
sends_at streams last outcomes k = tallied (λ o. true) streams last k 0 outcomes

abbrev pub complete_at : List (Option ℕ) → ℕ → List Outcome → ℕ → ℕ
complete_at streams last outcomes k = tallied is_complete streams last k 0 outcomes

-- ---- how they are counted

abbrev pub with_send : Sent → Bool → Sent
with_send sent complete = record { sends = min (sent.sends + 1) (2 ^ 64 - 1); complete = if complete then min (sent.complete + 1) (2 ^ 64 - 1) else sent.complete }

-- a send is counted at its row, if there is one
abbrev pub sent_if : Bool → Bool → Sent → Sent
sent_if here complete sent = if here then with_send sent complete else sent

pub record Counts (row : ℕ) (complete : Bool) (old new : List Sent) : Type 0 where
  pub long : length new ≡ length old
  pub each : (k : ℕ) (s : Sent) → slice_get old k ≡ Some s → slice_get new k ≡ Some (sent_if (row == k) complete s)

abbrev pub AreSent : List (Option ℕ) → ℕ → List Outcome → List Sent → Type 0
AreSent streams last outcomes sent = (k : ℕ) (s : Sent) → slice_get sent k ≡ Some s
    → (s.sends ≡ sends_at streams last outcomes k) × (s.complete ≡ complete_at streams last outcomes k)
