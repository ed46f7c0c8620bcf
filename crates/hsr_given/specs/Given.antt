-- What a text is that is no transcript, by its front.
--     begins        a text begins so
--     has_key       a line gives a key of TOML, or is the head of its table
--     given_of      compressed, a report, a scenario or a plan
--     given_words   that in words, and which program takes it
use Rattle.std.specs.Prelude.{ℕ, ◌==◌, ◌&&◌, ◌||◌, Bool, true, if◌then◌else◌, List, [], ◌∷◌, codes, drop, length, nat_eq, Option, Some, None}
use Rattle.std.specs.List.{starts_with}
use Rattle.hsr_given.specs.declared.given.Given.{Given}
use Rattle.hsr_given.specs.declared.given.Given.TheVariants.{Gzip, Report, Scenario, Plan}

abbrev pub begins : List ℕ → List ℕ → Bool
begins text front = starts_with nat_eq text front

-- ---- lines of TOML

-- a bracket is 91
abbrev pub without_bracket : List ℕ → List ℕ
without_bracket [] = []
without_bracket (b ∷ bs) = if b == 91 then bs else b ∷ bs

abbrev pub ends_key : List ℕ → Bool
ends_key rest = begins rest (codes " =") || (begins rest (codes "=") || begins rest (codes "]"))

abbrev pub has_bare_key : List ℕ → List ℕ → Bool
has_bare_key bare key = begins bare key && ends_key (drop (length key) bare)

-- as `key =`, `[key]` or `[[key]]`
abbrev pub has_key : List ℕ → List ℕ → Bool
has_key line key = has_bare_key (without_bracket (without_bracket line)) key

abbrev pub is_scenario_line : List ℕ → Bool
is_scenario_line line = has_key line (codes "unit") || (has_key line (codes "node") || (has_key line (codes "link") || has_key line (codes "step")))

abbrev pub is_plan_line : List ℕ → Bool
is_plan_line line =
    has_key line (codes "title") || (has_key line (codes "ring") || (has_key line (codes "rings") ||
    (has_key line (codes "moves") || (has_key line (codes "stream") || has_key line (codes "until_us")))))

abbrev pub given_at : List ℕ → Option Given
given_at line = if is_scenario_line line then Some Scenario else (if is_plan_line line then Some Plan else None)

-- ---- texts

abbrev pub or_else : Option Given → Option Given → Option Given
or_else None other = other
or_else (Some given) other = Some given

-- what the first line tells that tells something; whether a line begins here is given
abbrev pub given_from : Bool → List ℕ → Option Given
given_from is_line [] = None
given_from is_line (b ∷ bs) = or_else (if is_line then given_at (b ∷ bs) else None) (given_from (b == 10) bs)

-- the first two octets of what gzip writes are 31 and 139
abbrev pub given_of : List ℕ → Option Given
given_of front =
    if begins front (31 ∷ 139 ∷ []) then Some Gzip else (if begins front (codes "bench 1 table ") then Some Report else given_from true front)

-- ---- words

abbrev pub given_words : Given → List ℕ
given_words Gzip = codes "this is compressed by gzip: gunzip makes a transcript of it"
given_words Report = codes "this is a report: hsr_bench run --transcript writes the transcript of a scenario"
given_words Scenario = codes "this is a scenario: hsr_bench run --transcript takes it, and writes a transcript"
given_words Plan = codes "this is a plan: hsr_plan takes it, and writes a scenario for hsr_bench run --transcript"
