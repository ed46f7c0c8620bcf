-- What a contract sees of a `ProxyTable`, and what it stands for.
use Rattle.std.specs.Prelude.{◌≡◌, ℕ, Bool, List, [], fold, reverse}
use Rattle.std.specs.List.{list_any}
use Rattle.hsr_frame.specs.Address.{is_same_address}
use Rattle.hsr_tables.specs.Known.{known, latest_heard, put_first}

-- the addresses, each with the moment of its latest hearing, and the latest moment of all
pub record Proxies : Type 0 where
  pub heard : List (List ℕ × ℕ)
  pub last : ℕ

abbrev pub no_proxies : Proxies
no_proxies = record { heard = []; last = 0 }

-- an address was heard at a moment
abbrev pub learned : Proxies → List ℕ × ℕ → Proxies
learned table h = record { heard = put_first (λ x. x.0) h table.heard; last = h.1 }

abbrev pub is_known : ℕ → List (List ℕ × ℕ) → List ℕ → Bool
is_known at heard mac = list_any (λ h. is_same_address h.0 mac) (known at heard)

-- Over any list of hearings a table knows the `row_limit` addresses with the latest hearings, the latest first, of
-- these the ones that were heard less than `node_forget` microseconds ago.
abbrev pub KnowsLatest : Type 0
KnowsLatest = (hearings : List (List ℕ × ℕ)) (at : ℕ)
    → known at (fold learned no_proxies hearings).heard ≡ known at (latest_heard (λ h. h.0) (reverse hearings))
