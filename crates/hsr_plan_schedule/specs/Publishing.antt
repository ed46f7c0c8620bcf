-- By what receivers know the streams of a plan.
use Rattle.std.specs.Prelude.{ℕ, zero, suc, ◌+◌, ◌-◌, ◌*◌, ◌/◌, ◌^◌, ◌==◌, ◌&&◌, ◌||◌, not, min, nat_lt, nat_le, Bool, ⊤, List, [], ◌∷◌, ◌++◌, codes, length, Option, Some, None, unwrap_or, Result, Ok, if◌then◌else◌}
use Rattle.std.specs.List.{list_any}
use Rattle.std.specs.Fmt.{decimal}
use Rattle.hsr_toml.specs.Fallible.{◌>>=◌}
use Rattle.hsr_plan_text.specs.Fallible.{at_spot}
use Rattle.hsr_plan_text.specs.Plan.{Stream, Timing}
use Rattle.hsr_plan_text.specs.declared.fault.PlanFault.{PlanFault}
use Rattle.hsr_plan_text.specs.declared.fault.Refusal.TheVariants.{AppidTaken, TooLong, TooSmall}
use Rattle.hsr_plan_text.specs.declared.fault.Spot.TheVariants as spot
use Rattle.hsr_plan_text.specs.declared.fault.What.{What}
use Rattle.hsr_plan_text.specs.declared.plan.Framing.{Framing}
use Rattle.hsr_plan_text.specs.declared.plan.Kind.{Kind}
use Rattle.hsr_plan_text.specs.declared.plan.Kind.TheVariants.{Goose, SampledValues, Number}
use Rattle.hsr_plan_text.specs.declared.plan.Pace.{Pace}
use Rattle.hsr_plan_text.specs.declared.plan.Pace.TheVariants.{Gaps, Samples}
use Rattle.hsr_plan_network.specs.Checks.{each_passes, unless_held}
use Rattle.hsr_plan_schedule.specs.Moments.{earlier, most_sent, next_gap}
use Rattle.hsr_plan_schedule.specs.Naming.{count_of, none, stream_name, with_more}
use Rattle.hsr_plan_schedule.specs.Payloads.{payload, start_at}
use Rattle.hsr_plan_schedule.specs.declared.naming.Counts.{Counts}
use Rattle.hsr_plan_schedule.specs.declared.publication.Publication.{Publication}
use Rattle.hsr_plan_schedule.specs.declared.publishing.Counted.{Counted}
use Rattle.hsr_plan_schedule.specs.declared.publishing.NextPublication.{NextPublication}

-- ---- how long a frame of GOOSE is to live

-- behind a frame at a moment, with this gap before it: the longest gap before one of n more frames, which come before the end
unfoldable pub grown : ℕ → ℕ → ℕ → Pace → ℕ → ℕ
grown zero at gap pace until = gap
grown (suc n) at gap pace until = if nat_lt (at + next_gap pace gap) until then grown n (at + next_gap pace gap) (next_gap pace gap) pace until else gap

-- gaps that don't grow are all as the first; others grow up to the longest, if there is a bound; if there is none, up to the last one of the
-- frames that would come from the first start to the stream's end
abbrev pub longest_gap : ℕ → Timing → Pace → ℕ
longest_gap until timing (Gaps every grow most) = if nat_le grow 1 then min every most
    else (if nat_lt most (2 ^ 40) then most
    else grown (most_sent timing.count - 2) (start_at timing 0 + every) every (Gaps every grow most) until)
longest_gap until timing (Samples rate) = 0

-- timeAllowedtoLive: twice the longest gap, in milliseconds, rounded up
abbrev pub live : Option ℕ → Timing → ℕ
live until timing = (2 * longest_gap (unwrap_or (earlier until timing.until) (2 ^ 41)) timing timing.pace + 999) / 1000

-- ---- names and numbers

abbrev pub block_word : Kind → List ℕ
block_word Goose = codes "gcb"
block_word SampledValues = codes "msvcb"
block_word (Number n) = codes "other"

-- where none is said, behind so many senders of streams of the kind: GOOSE has 1, 2, .., sampled values 0x4000, 0x4001, ..
abbrev pub usual_appid : Kind → Counts → ℕ
usual_appid Goose senders = 1 + senders.goose
usual_appid SampledValues senders = 0x4000 + senders.sampled
usual_appid (Number n) senders = 0

-- each sender has its own
abbrev pub appids_of : Kind → ℕ → ℕ
appids_of Goose n = n
appids_of SampledValues n = n
appids_of (Number t) n = 0

-- APPIDs of GOOSE end before 0x4000, and those of sampled values before 0x8000 (IEC 61850-8-1 and 9-2); one that is said has 16 bits
abbrev pub usual_limit : Kind → ℕ
usual_limit Goose = 0x4000
usual_limit SampledValues = 0x8000
usual_limit (Number n) = 0x10000

abbrev pub limit : Option ℕ → Kind → ℕ
limit None kind = usual_limit kind
limit (Some appid) kind = 0x10000

-- how many streams there are, and how many senders they have, with one stream more
abbrev pub counted_with : Stream → Counted → Counted
counted_with s counted = record {
  streams = with_more s.framing.kind 1 counted.streams;
  senders = with_more s.framing.kind (length s.from) counted.senders;
}

-- what a stream publishes, before which there are so many, in a plan with this end
unfoldable pub publication : Option ℕ → Counted → Stream → Publication
publication until counted s = record {
  first = unwrap_or s.framing.naming.appid (usual_appid s.framing.kind counted.senders);
  behind = unwrap_or s.framing.naming.appid (usual_appid s.framing.kind counted.senders) + appids_of s.framing.kind (length s.from);
  control_block = unwrap_or s.framing.naming.control_block (block_word s.framing.kind ++ decimal (count_of s.framing.kind counted.streams + 1));
  data_set = unwrap_or s.framing.naming.data_set (codes "ds_" ++ stream_name s.framing.kind (with_more s.framing.kind 1 counted.streams));
  id = s.framing.naming.id;
  live = live until s.timing;
}

-- ---- what may be published

-- some APPID is of both
abbrev pub meets : Publication → Publication → Bool
meets p q = nat_lt p.first q.behind && nat_lt q.first p.behind

-- its APPIDs are below the limit, and none is of an earlier stream
abbrev pub is_own : List Publication → ℕ → Publication → Bool
is_own earlier limit p = nat_le p.behind limit && not (list_any (meets p) earlier)

-- how many octets the shortest payload of a stream has, in the first frame of a name
abbrev pub shortest : Publication → Stream → List ℕ → ℕ
shortest p s name = length (payload 0 p s 0 name (record { index = 0; state = 0; count = 0 }))

-- no size is said, or one of as many octets
abbrev pub is_enough : Framing → ℕ → Bool
is_enough framing least = framing.size == 0 || nat_le least framing.size

-- a frame takes 1500 octets, and the size that is said is enough
abbrev pub fits_in : Framing → ℕ → Result ⊤ What
fits_in framing least = unless_held (nat_le least 1500) (TooLong least) >>= λ _. unless_held (is_enough framing least) (TooSmall least)

unfoldable pub fits : Publication → Stream → List ℕ → Result ⊤ What
fits p s name = fits_in s.framing (shortest p s name)

-- a stream's APPIDs are its own, and each sender's first frame fits
unfoldable pub may_publish : List Publication → Publication → Stream → Result ⊤ What
may_publish earlier p s = unless_held (is_own earlier (limit s.framing.naming.appid s.framing.kind) p) AppidTaken >>= λ _. each_passes (fits p s) s.from

abbrev pub published : Option ℕ → List Publication → Counted → Stream → Result NextPublication What
published until earlier counted s = may_publish earlier (publication until counted s) s
    >>= λ _. Ok (record { publication = publication until counted s; counted = counted_with s counted })

-- what streams publish, behind others
abbrev pub publications_from : Option ℕ → List Publication → Counted → List Stream → Result (List Publication) PlanFault
publications_from until seen counted [] = Ok seen
publications_from until seen counted (s ∷ ss) = at_spot (spot.Stream (length seen)) (published until seen counted s)
    >>= λ p. publications_from until (seen ++ p.publication ∷ []) p.counted ss

abbrev pub publications : Option ℕ → List Stream → Result (List Publication) PlanFault
publications until streams = publications_from until [] (record { streams = none; senders = none }) streams
