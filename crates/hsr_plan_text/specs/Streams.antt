-- What the table of a stream says.
use Rattle.std.specs.Prelude.{ℕ, zero, suc, ℤ, ◌+◌, ◌*◌, ◌^◌, ◌==◌, ◌&&◌, ◌||◌, nat_lt, nat_le, Bool, true, ⊤, List, [], ◌∷◌, length, Option, Some, None, Result, Ok, Err, ok_or, unwrap_or, if◌then◌else◌}
use Rattle.toml.specs.Data.{Data, Items, no_items, item, Members, as_integer, as_str}
use Rattle.hsr_frame.specs.Cases.{first_of}
use Rattle.hsr_frame.specs.Layout.{ethertype_hsr, ethertype_vlan}
use Rattle.hsr_toml.specs.Fallible.{◌>>=◌, each_item, guard}
use Rattle.hsr_plan_text.specs.Network.{name, named}
use Rattle.hsr_plan_text.specs.Plan.{Stream, Timing}
use Rattle.hsr_toml.specs.Tables.{at_key, between, items, needed, optional, perhaps, word}
use Rattle.hsr_plan_text.specs.Fault.{faults}
use Rattle.hsr_plan_text.specs.Publishing.{is_sampled, naming_in, only_where}
use Rattle.hsr_plan_text.specs.Tables.{gap, moment, only}
use Rattle.hsr_plan_text.specs.Words.{kind_named, target_of}
use Rattle.hsr_plan_text.specs.declared.fault.Key.{Key}
use Rattle.hsr_plan_text.specs.declared.fault.Key.TheVariants as key
use Rattle.hsr_plan_text.specs.declared.fault.What.{What}
use Rattle.hsr_plan_text.specs.declared.fault.What.TheVariants.{BadValue, Refused}
use Rattle.hsr_plan_text.specs.declared.fault.Refusal.TheVariants.{Together}
use Rattle.hsr_plan_text.specs.declared.plan.Framing.{Framing}
use Rattle.hsr_plan_text.specs.declared.plan.Kind.{Kind}
use Rattle.hsr_plan_text.specs.declared.plan.Kind.TheVariants.{Goose, SampledValues, Number}
use Rattle.hsr_plan_text.specs.declared.plan.Pace.{Pace}
use Rattle.hsr_plan_text.specs.declared.plan.Pace.TheVariants.{Gaps, Samples}
use Rattle.hsr_plan_text.specs.declared.plan.SampleRate.{SampleRate}
use Rattle.hsr_plan_text.specs.declared.plan.SampleRate.TheVariants.{Rate4000, Rate4800, Rate12800, Rate14400}

-- ---- who sends it, and who needs it

abbrev pub only_name : Key → List ℕ → Result (List (List ℕ)) What
only_name key s = named key s >>= λ n. Ok (n ∷ [])

abbrev pub how_many : Items → ℕ
how_many no_items = zero
how_many (item d ds) = suc (how_many ds)

-- a list has one name at least, and 4096 at most
abbrev pub some_few : ℕ → Bool
some_few n = nat_lt 0 n && nat_le n 4096

-- the names are counted before they are read
abbrev pub few_names : Key → Data → Result (List (List ℕ)) What
few_names key d = items faults key d >>= λ ds. guard (some_few (how_many ds)) (BadValue key) >>= λ _. each_item (name key) [] ds

abbrev pub one_or_few : Option (List ℕ) → Key → Data → Result (List (List ℕ)) What
one_or_few None key d = few_names key d
one_or_few (Some s) key d = only_name key s

-- one name, or a list of names
abbrev pub senders : Key → Data → Result (List (List ℕ)) What
senders key d = one_or_few (as_str d) key d

-- ---- what its frames have alike

-- the types of supervision and of a VLAN tag are nobody's to send
abbrev pub numbered : Key → ℕ → Result Kind What
numbered key n = if (n == ethertype_hsr) || (n == ethertype_vlan) then Err (BadValue key) else Ok (Number n)

abbrev pub kind_or_number : Option (List ℕ) → Key → Data → Result Kind What
kind_or_number None key d = between faults 0 65535 key d >>= numbered key
kind_or_number (Some s) key d = ok_or (kind_named s) (BadValue key)

abbrev pub kind : Key → Data → Result Kind What
kind key d = kind_or_number (as_str d) key d

-- a tag's control information: the priority stands in front of the VLAN's number
abbrev pub tag_with : ℕ → Option ℕ → Option ℕ → ℕ
tag_with usual vlan priority = 8192 * unwrap_or priority usual + unwrap_or vlan 0

abbrev pub perhaps_tag : Option ℕ → Option ℕ → Option ℕ
perhaps_tag None None = None
perhaps_tag vlan priority = Some (tag_with 0 vlan priority)

-- GOOSE and sampled values have a tag, with priority 4 where none is said; under a number there is one where something is said of it
abbrev pub tag_of : Kind → Option ℕ → Option ℕ → Option ℕ
tag_of Goose vlan priority = Some (tag_with 4 vlan priority)
tag_of SampledValues vlan priority = Some (tag_with 4 vlan priority)
tag_of (Number n) vlan priority = perhaps_tag vlan priority

unfoldable pub tag_in : Kind → Members → Result (Option ℕ) What
tag_in kind ms = do
  vlan ← optional faults key.Vlan None (perhaps (between faults 0 4095)) ms
  priority ← optional faults key.Priority None (perhaps (between faults 0 7)) ms
  Ok (tag_of kind vlan priority)

-- where no size is said: 46 octets under a number, and of GOOSE and sampled values the shortest, which is told as 0
abbrev pub usual_size : Kind → ℕ
usual_size (Number n) = 46
usual_size Goose = 0
usual_size SampledValues = 0

abbrev pub least_size : Kind → ℕ
least_size (Number n) = 0
least_size Goose = 1
least_size SampledValues = 1

unfoldable pub framing_in : Members → Result Framing What
framing_in ms = do
  target ← needed faults key.To (word faults target_of) ms
  kind ← needed faults key.Kind kind ms
  size ← optional faults key.Size (usual_size kind) (between faults (least_size kind) 1500) ms
  tag ← tag_in kind ms
  naming ← naming_in kind ms
  Ok (record { target = target; kind = kind; size = size; tag = tag; naming = naming })

-- ---- when they are sent

abbrev pub moments : Key → Data → Result (List ℕ) What
moments key d = items faults key d >>= each_item (moment key) []

-- there is no moment before it, or an earlier one
abbrev pub comes_after : Option ℕ → ℕ → Bool
comes_after None at = true
comes_after (Some last) at = nat_lt last at

-- each is later than the one before it
abbrev pub rises : Option ℕ → List ℕ → Bool
rises last [] = true
rises last (at ∷ more) = comes_after last at && rises (Some at) more

-- one moment at least, and each later than the one before it
abbrev pub rising : Key → List ℕ → Result (List ℕ) What
rising key starts = guard (nat_lt 0 (length starts) && rises None starts) (BadValue key) >>= λ _. Ok starts

abbrev pub one_or_moments : Option ℤ → Key → Data → Result (List ℕ) What
one_or_moments None key d = moments key d >>= rising key
one_or_moments (Some z) key d = moment key d >>= λ at. Ok (at ∷ [])

-- one moment, or a list of moments that rise
abbrev pub some_moments : Key → Data → Result (List ℕ) What
some_moments key d = one_or_moments (as_integer d) key d

unfoldable pub gaps_in : Members → Result Pace What
gaps_in ms = do
  every ← needed faults key.Every gap ms
  grow ← optional faults key.Grow 1 (between faults 1 1000) ms
  most ← optional faults key.Most (2 ^ 40) gap ms
  Ok (Gaps every grow most)

abbrev pub rate_of : ℕ → Option SampleRate
rate_of n = first_of ((n == 4000, Some Rate4000) ∷ (n == 4800, Some Rate4800) ∷ (n == 12800, Some Rate12800) ∷ (n == 14400, Some Rate14400) ∷ []) None

-- a number of samples a second
abbrev pub rate : Key → Data → Result SampleRate What
rate key d = between faults 4000 14400 key d >>= λ n. ok_or (rate_of n) (BadValue key)

-- samples tell the gaps, so nothing else does
abbrev pub no_gap_at : Key → Option Data → Result ⊤ What
no_gap_at key None = Ok tt
no_gap_at key (Some d) = Err (Refused (Together key))

unfoldable pub no_gaps : Members → Result ⊤ What
no_gaps ms = do
  _ ← no_gap_at key.Every (at_key faults key.Every ms)
  _ ← no_gap_at key.Grow (at_key faults key.Grow ms)
  _ ← no_gap_at key.Most (at_key faults key.Most ms)
  Ok tt

abbrev pub pace_at : Option Data → Members → Result Pace What
pace_at None ms = gaps_in ms
pace_at (Some d) ms = rate key.SampleRate d >>= λ rate. no_gaps ms >>= λ _. Ok (Samples rate)

-- by the rate of samples, where it is said, or else by gaps
abbrev pub pace_in : Kind → Members → Result Pace What
pace_in kind ms = only_where (is_sampled kind) key.SampleRate ms >>= λ _. pace_at (at_key faults key.SampleRate ms) ms

abbrev pub asdus_in : Kind → Members → Result ℕ What
asdus_in kind ms = only_where (is_sampled kind) key.Asdus ms >>= λ _. optional faults key.Asdus 1 (between faults 1 8) ms

unfoldable pub timing_in : Kind → Members → Result Timing What
timing_in kind ms = do
  starts ← optional faults key.Start (0 ∷ []) some_moments ms
  pace ← pace_in kind ms
  asdus ← asdus_in kind ms
  count ← optional faults key.Count None (perhaps (between faults 1 (2 ^ 40))) ms
  until ← optional faults key.Until None (perhaps moment) ms
  Ok (record { starts = starts; pace = pace; asdus = asdus; count = count; until = until })

-- ---- all

abbrev pub stream_keys : List Key
stream_keys = key.From ∷ key.For ∷ key.To ∷ key.Kind ∷ key.Size ∷ key.Vlan ∷ key.Priority ∷ key.Appid ∷ key.ControlBlock ∷ key.Id ∷ key.DataSet ∷ key.Start ∷ key.Every ∷ key.Grow ∷ key.Most ∷ key.SampleRate ∷ key.Asdus ∷ key.Count ∷ key.Until ∷ []

unfoldable pub stream_in : Members → Result Stream What
stream_in ms = do
  _ ← only stream_keys ms
  from ← needed faults key.From senders ms
  receivers ← optional faults key.For [] senders ms
  framing ← framing_in ms
  timing ← timing_in framing.kind ms
  Ok (record { from = from; receivers = receivers; framing = framing; timing = timing })
