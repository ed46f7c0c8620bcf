-- How a search goes on.
--     Follows      a frame may take a channel, from its sender or from the end of another channel
--     IsFront      what a search has found, and what of it waits to be gone on from
--     IsSpread     all that follows a channel is found
--     left_over    how much there is to do at most
use Rattle.std.specs.Prelude.{ℕ, zero, suc, ◌+◌, ◌*◌, ◌<◌, ◌≡◌, ◌==◌, ◌⊎◌, ◌&&◌, not, Bool, true, false, if◌then◌else◌, List, length, Option, Some, None}
use Rattle.hsr_frame.specs.Grammar.{Fields}
use Rattle.hsr_node.specs.declared.event.Probe.{Probe}
use Rattle.hsr_run_laws.specs.Run.{Run}
use Rattle.hsr_network_laws.specs.Network.{Channel, stop_of}
use Rattle.hsr_network_laws.specs.Channels.{IsFirstChannel, IsNextChannel}
use Rattle.hsr_routes.specs.Routes.{IsFree, LeadsOver}
use Rattle.hsr_bitset.specs.Numbers.{has}
use Rattle.hsr_routes.specs.Numbered.{number_of}

abbrev pub Follows : Run → Probe → Fields → Option Channel → Channel → Type 0
Follows run send frame None channel = IsFirstChannel run send frame channel
Follows run send frame (Some before) channel = IsNextChannel run send frame before channel

-- the node from which a frame goes on
abbrev pub next_node : Run → Probe → Option Channel → ℕ
next_node run send None = send.node
next_node run send (Some before) = (stop_of run before).node

-- routes lead to the end of each channel that is found, and what waits is found
pub record IsFront (run : Run) (send : Probe) (frame : Fields) (avoid : Channel → Bool) (found waiting : List ℕ) : Type 0 where
  pub comes : (channel : Channel) → channel.link < length run.links → has found (number_of channel) ≡ true → LeadsOver run send frame avoid channel
  pub waits : (n : ℕ) → n < 512 → has waiting n ≡ true → (has found n ≡ true) × (n < 2 * length run.links)
  pub first : (channel : Channel) → IsFree run avoid channel → IsFirstChannel run send frame channel → has found (number_of channel) ≡ true
  pub next : (channel next : Channel) → channel.link < length run.links → has found (number_of channel) ≡ true → has waiting (number_of channel) ≡ false →
      IsFree run avoid next → IsNextChannel run send frame channel next → has found (number_of next) ≡ true

-- a number is as it was
pub record IsAsBefore (found waiting new_found new_waiting : List ℕ) (n : ℕ) : Type 0 where
  pub same : has new_found n ≡ has found n
  pub waits : has new_waiting n ≡ has waiting n

-- a number is found, waits, and wasn't found before
pub record IsAdded (run : Run) (found new_found new_waiting : List ℕ) (n : ℕ) : Type 0 where
  pub below : n < 2 * length run.links
  pub missing : has found n ≡ false
  pub is : has new_found n ≡ true
  pub waits : has new_waiting n ≡ true

abbrev pub Grows : Run → List ℕ → List ℕ → List ℕ → List ℕ → Type 0
Grows run found waiting new_found new_waiting = (n : ℕ) → n < 512 → IsAsBefore found waiting new_found new_waiting n ⊎ IsAdded run found new_found new_waiting n

-- each channel that is found now, and wasn't, is free and follows
abbrev pub OnlyFollows : Run → Probe → Fields → (Channel → Bool) → Option Channel → List ℕ → List ℕ → Type 0
OnlyFollows run send frame avoid from found new_found =
    (channel : Channel) → channel.link < length run.links → has found (number_of channel) ≡ false → has new_found (number_of channel) ≡ true → IsFree run avoid channel × Follows run send frame from channel

-- all free channels that follow are found, and no other is new
pub record IsSpread (run : Run) (send : Probe) (frame : Fields) (avoid : Channel → Bool) (from : Option Channel) (found waiting new_found new_waiting : List ℕ) : Type 0 where
  pub grows : Grows run found waiting new_found new_waiting
  pub only : OnlyFollows run send frame avoid from found new_found
  pub all : (channel : Channel) → IsFree run avoid channel → Follows run send frame from channel → has new_found (number_of channel) ≡ true

-- ---- what is left to do

abbrev pub weight : Bool → Bool → ℕ
weight true waits = if waits then 1 else 0
weight false waits = 2

abbrev pub left_below : List ℕ → List ℕ → ℕ → ℕ
left_below found waiting zero = 0
left_below found waiting (suc n) = left_below found waiting n + weight (has found n) (has waiting n)

unfoldable pub left_over : List ℕ → List ℕ → ℕ
left_over found waiting = left_below found waiting 512

-- ---- one number

-- A number is put among those that are found, if it is one and isn't there: then it waits, too.
pub record IsPut (is_one : Bool) (number : ℕ) (found waiting new_found new_waiting : List ℕ) : Type 0 where
  pub now_found : (n : ℕ) → n < 512 → has new_found n ≡ (if is_one && (n == number) then true else has found n)
  pub now_waits : (n : ℕ) → n < 512 → has new_waiting n ≡ (if is_one && (n == number) && not (has found number) then true else has waiting n)

-- a number waited, and does no more
pub record IsTakenOut (number : ℕ) (waiting new_waiting : List ℕ) : Type 0 where
  pub below : number < 512
  pub waited : has waiting number ≡ true
  pub left : (n : ℕ) → n < 512 → has new_waiting n ≡ (if n == number then false else has waiting n)
