-- How copies move, by a document.
--     hops       by hops, of as many microseconds as `hop_us` says
--     wire       by wires, as `rate_mbps`, `residence_us` and `switching` say
--     moves_in   by the text of `moves`
use Rattle.std.specs.Prelude.{ℕ, List, [], ◌∷◌, codes, Option, Some, None, Result, Ok, Err, ok_or}
use Rattle.std.specs.Str.{bytes_eq}
use Rattle.toml.specs.Data.{Data, Members}
use Rattle.hsr_frame.specs.Cases.{first_of}
use Rattle.hsr_toml.specs.Fallible.{◌>>=◌}
use Rattle.hsr_toml.specs.Tables.{at_key, between, needed, optional, text, word}
use Rattle.hsr_plan_text.specs.Fault.{faults}
use Rattle.hsr_plan_text.specs.Tables.{hop}
use Rattle.hsr_plan_text.specs.Words.{moves_of, switching_of}
use Rattle.hsr_plan_text.specs.declared.fault.Key.{Key}
use Rattle.hsr_plan_text.specs.declared.fault.Key.TheVariants as key
use Rattle.hsr_plan_text.specs.declared.fault.Refusal.TheVariants.{Idle, Together}
use Rattle.hsr_plan_text.specs.declared.fault.What.{What}
use Rattle.hsr_plan_text.specs.declared.fault.What.TheVariants.{BadValue, Refused}
use Rattle.hsr_plan_text.specs.declared.plan.Moves.{Moves}
use Rattle.hsr_plan_text.specs.declared.plan.Moves.TheVariants.{EachSendDrains, Timed}
use Rattle.hsr_plan_text.specs.declared.plan.Switching.TheVariants.{Store}
use Rattle.hsr_plan_text.specs.declared.plan.Transfer.TheVariants as transfer
use Rattle.hsr_plan_text.specs.declared.plan.Wire.{Wire}

-- ---- hops

abbrev pub hops : Members → Result Moves What
hops ms = needed faults key.Hop hop ms >>= λ us. Ok (Timed (transfer.Hop us))

-- `hop_us` stands beside no moves that are told without it
abbrev pub without_hop : Option Data → Moves → Result Moves What
without_hop None moves = Ok moves
without_hop (Some d) (Timed (transfer.Hop us)) = Err (Refused (Together key.Hop))
without_hop (Some d) moves = Err (Refused (Idle key.Hop))

-- ---- wires

-- 100 Mbit/s and 5 microseconds where the document doesn't say
unfoldable pub wire : Members → Result Wire What
wire ms = do
  rate ← optional faults key.Rate 100 (between faults 1 100000) ms
  residence ← optional faults key.Residence 5 (between faults 0 1000000) ms
  switching ← optional faults key.Switching Store (word faults switching_of) ms
  Ok (record { rate = rate; residence = residence; switching = switching })

abbrev pub wires : Members → Result Moves What
wires ms = wire ms >>= λ w. Ok (Timed (transfer.Wire w))

-- a key of wires changes nothing where copies move otherwise
abbrev pub idle_if : Key → Option Data → Result Moves What → Result Moves What
idle_if k None others = others
idle_if k (Some d) others = Err (Refused (Idle k))

abbrev pub idle_at : Key → Members → Result Moves What → Result Moves What
idle_at k ms others = idle_if k (at_key faults k ms) others

abbrev pub without_wire : Members → Moves → Result Moves What
without_wire ms moves = idle_at key.Rate ms (idle_at key.Residence ms (idle_at key.Switching ms (Ok moves)))

-- ---- both

-- moves that are told without another key
abbrev pub moves_alone : Members → List ℕ → Result Moves What
moves_alone ms s = ok_or (moves_of s) (BadValue key.Moves) >>= without_hop (at_key faults key.Hop ms) >>= without_wire ms

abbrev pub moves_by_hops : Members → Result Moves What
moves_by_hops ms = hops ms >>= without_wire ms

abbrev pub moves_by_wires : Members → Result Moves What
moves_by_wires ms = wires ms >>= without_hop (at_key faults key.Hop ms)

-- by the text of `moves`, and by the keys that it asks for
abbrev pub moves_by : Members → List ℕ → Result Moves What
moves_by ms s = first_of ((bytes_eq s (codes "hops"), moves_by_hops ms) ∷ (bytes_eq s (codes "wire"), moves_by_wires ms) ∷ []) (moves_alone ms s)

abbrev pub moves_if : Members → Option Data → Result Moves What
moves_if ms None = without_hop (at_key faults key.Hop ms) EachSendDrains >>= without_wire ms
moves_if ms (Some d) = text faults key.Moves d >>= moves_by ms

abbrev pub moves_in : Members → Result Moves What
moves_in ms = moves_if ms (at_key faults key.Moves ms)
