-- What is known of addresses that were heard, in lists that have the latest first.
use Rattle.std.specs.Prelude.{ℕ, ◌-◌, Bool, not, List, [], ◌∷◌, filter, take, nat_lt}
use Rattle.hsr_frame.specs.Address.{is_same_address}

-- what was heard of other addresses
abbrev pub others : {X : Type 0} → (X → List ℕ) → List ℕ → List X → List X
others mac_of mac xs = filter (λ x. not (is_same_address (mac_of x) mac)) xs

-- of how many addresses a list keeps what was heard
abbrev pub row_limit : ℕ
row_limit = 64

-- What is heard goes first. What the list had of its address goes, and so does what the list has no room for.
abbrev pub put_first : {X : Type 0} → (X → List ℕ) → X → List X → List X
put_first mac_of x xs = take row_limit (x ∷ others mac_of (mac_of x) xs)

-- for how many microseconds an address is known: the NodeForgetTime and ProxyNodeTableForgetTime of IEC 62439-3 clause 5.8
abbrev pub node_forget : ℕ
node_forget = 60000000

-- heard less than `node_forget` microseconds ago
abbrev pub is_young : ℕ → ℕ → Bool
is_young at heard = nat_lt (at - heard) node_forget

-- those that were heard less than `forget` ago, of what has the moment of its latest hearing beside it
abbrev pub known_within : {X : Type 0} → ℕ → ℕ → List (X × ℕ) → List (X × ℕ)
known_within forget at rows = filter (λ r. nat_lt (at - r.1) forget) rows

-- those that aren't forgotten
abbrev pub known : {X : Type 0} → ℕ → List (X × ℕ) → List (X × ℕ)
known at rows = known_within node_forget at rows

-- the latest hearing of each address
abbrev pub latest_of_each : {X : Type 0} → (X → List ℕ) → List X → List X
latest_of_each mac_of [] = []
latest_of_each mac_of (x ∷ past) = x ∷ others mac_of (mac_of x) (latest_of_each mac_of past)

-- the addresses with the latest hearings, as many as a list keeps, each with its latest
abbrev pub latest_heard : {X : Type 0} → (X → List ℕ) → List X → List X
latest_heard mac_of past = take row_limit (latest_of_each mac_of past)
