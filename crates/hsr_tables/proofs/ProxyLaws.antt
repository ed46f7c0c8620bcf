-- What a table of addresses knows.
use Rattle.std.proofs.Common.{◌≡◌, ℕ, List, ◌∷◌, refl, ap, ◌∙◌}
use Rattle.hsr_tables.specs.Known.{known, latest_heard, put_first}
use Rattle.hsr_tables.specs.Proxies.{KnowsLatest, Proxies, learned, no_proxies}
use Rattle.hsr_tables.proofs.Latest.{fold_stands, latest_heard-step}

abbrev HasLatest : Proxies → List (List ℕ × ℕ) → Type 0
HasLatest table past = table.heard ≡ latest_heard (λ h. h.0) past

step : (table : Proxies) (past : List (List ℕ × ℕ)) (h : List ℕ × ℕ) → HasLatest table past → HasLatest (learned table h) (h ∷ past)
step table past h e = ap (λ hs. put_first (λ x. x.0) h hs) e ∙ latest_heard-step (λ x. x.0) h past

pub knows_latest : KnowsLatest
knows_latest hearings at = ap (known at) (fold_stands learned HasLatest step no_proxies refl hearings)
