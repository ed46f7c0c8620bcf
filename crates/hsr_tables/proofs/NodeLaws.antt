-- What a table of nodes knows.
use Rattle.std.proofs.Common.{◌≡◌, ℕ, zero, suc, Bool, true, false, cond, not, ◌&&◌, ◌||◌, List, [], ◌∷◌, filter, take, map, Option, Some, None, ap, refl, ◌∙◌, ◌⊎◌, inl, inr, if◌then◌else◌, ◌≤◌, arith}
use Rattle.std.specs.Prelude.{reverse, fold, is_err, Result, Ok, Err}
use Rattle.std.specs.List.{list_any}
use Rattle.std.specs.Option.{option_and_then}
use Rattle.hsr_frame.specs.Address.{is_same_address}
use Rattle.hsr_frame.specs.declared.node.RingPort.{RingPort}
use Rattle.hsr_frame.specs.declared.node.RingPort.TheVariants.{A, B}
use Rattle.hsr_supervision.specs.Payload.{Fields, read_of}
use Rattle.hsr_supervision.specs.declared.payload.SupFault.{SupFault}
use Rattle.hsr_tables.specs.declared.nodes.NodeRow.{NodeRow}
use Rattle.hsr_tables.specs.Known.{is_young, known, latest_heard, latest_of_each, others, put_first}
use Rattle.hsr_tables.specs.Nodes.{Hearing, Nodes, RowsOfLatest, heard, is_known, known_row, last_run, latest_on, no_nodes, row_after, row_on, heard_if, hearing_if, listened}
use Rattle.hsr_tables.proofs.Latest.{NoneOf, NoneOf-take, behind_first, fold_stands, none_left, same-equal, same-other, same-refl}

abbrev mac_of : Hearing → List ℕ
mac_of h = h.said.about

abbrev row_mac : NodeRow × ℕ → List ℕ
row_mac r = r.0.mac

-- a row with its latest hearing
abbrev entry : List Hearing → Hearing → NodeRow × ℕ
entry past h = (row_after past h, h.at)

abbrev entries : List Hearing → List (NodeRow × ℕ)
entries past = map (entry past) (latest_heard mac_of past)

-- the rows of other addresses
others-map : (past : List Hearing) (mac : List ℕ) (hs : List Hearing) → others row_mac mac (map (entry past) hs) ≡ map (entry past) (others mac_of mac hs)
others-map past mac [] = refl
others-map past mac (h ∷ hs) =
    let rest : others row_mac mac (map (entry past) hs) ≡ map (entry past) (others mac_of mac hs) = others-map past mac hs in
    elim (is_same_address h.said.about mac) as (λ b. cond (not b) (entry past h ∷ others row_mac mac (map (entry past) hs)) (others row_mac mac (map (entry past) hs)) ≡ map (entry past) (cond (not b) (h ∷ others mac_of mac hs) (others mac_of mac hs))) [
      | true ↦ rest
      | false ↦ ap (λ ys. entry past h ∷ ys) rest
    ]

take-map : (past : List Hearing) (k : ℕ) (hs : List Hearing) → take k (map (entry past) hs) ≡ map (entry past) (take k hs)
take-map past zero hs = refl
take-map past (suc k) [] = refl
take-map past (suc k) (h ∷ hs) = ap (λ ys. entry past h ∷ ys) (take-map past k hs)

-- a hearing changes no row of another address
entries-other : (h : Hearing) (past : List Hearing) (hs : List Hearing) → NoneOf mac_of h.said.about hs → map (entry past) hs ≡ map (entry (h ∷ past)) hs
entries-other h past [] n = refl
entries-other h past (x ∷ hs) n =
    rw (same-other x.said.about h.said.about n.0) (ap (λ ys. entry past x ∷ ys) (entries-other h past hs n.1))

-- the row that is known, or none
abbrev Finds : List Hearing → List ℕ → Option (NodeRow × ℕ) → Bool → Type 0
Finds past mac row found =
    (row ≡ None) × (found ≡ false)
    ⊎ (x : Hearing) × (row ≡ Some (entry past x)) × (found ≡ true) × (x.said.about ≡ mac)

finds : (past : List Hearing) (mac : List ℕ) (at : ℕ) (hs : List Hearing)
    → Finds past mac (known_row at mac (map (entry past) hs)) (list_any (λ x. is_same_address x.said.about mac && is_young at x.at) hs)
finds past mac at [] = inl (refl, refl)
finds past mac at (h ∷ hs) = by_case (is_same_address h.said.about mac) (is_young at h.at) refl (finds past mac at hs)
  where
    by_case : (s f : Bool) → is_same_address h.said.about mac ≡ s
        → Finds past mac (known_row at mac (map (entry past) hs)) (list_any (λ x. is_same_address x.said.about mac && is_young at x.at) hs)
        → Finds past mac (cond (s && f) (Some (entry past h)) (known_row at mac (map (entry past) hs))) ((s && f) || list_any (λ x. is_same_address x.said.about mac && is_young at x.at) hs)
    by_case true true same rest = inr (h, refl, refl, same-equal h.said.about mac same)
    by_case true false same rest = rest
    by_case false f same rest = rest

-- what was heard on a port before
before_a : (past : List Hearing) (mac : List ℕ) (at : ℕ) → option_and_then (λ r. r.0.heard_a) (known_row at mac (entries past)) ≡ latest_on A (if is_known at mac past then last_run mac past else [])
before_a past mac at = elim (finds past mac at (latest_heard mac_of past)) [
  | inl none ↦ rw (none.0, none.1) refl
  | inr one ↦ rw (one.1, one.2) (ap (λ m. latest_on A (last_run m past)) one.3)
]

before_b : (past : List Hearing) (mac : List ℕ) (at : ℕ) → option_and_then (λ r. r.0.heard_b) (known_row at mac (entries past)) ≡ latest_on B (if is_known at mac past then last_run mac past else [])
before_b past mac at = elim (finds past mac at (latest_heard mac_of past)) [
  | inl none ↦ rw (none.0, none.1) refl
  | inr one ↦ rw (one.1, one.2) (ap (λ m. latest_on B (last_run m past)) one.3)
]

first-row : (h : Hearing) (past : List Hearing) (port : RingPort) → h.port ≡ port → row_on port h (known_row h.at h.said.about (entries past)) ≡ row_after (h ∷ past) h
first-row h past A e =
    rw (same-refl h.said.about, e) (ap (λ (b : Option ℕ). record { mac = h.said.about; kind = h.said.kind; redbox = h.said.redbox; heard_a = Some h.at; heard_b = b }) (before_b past h.said.about h.at))
first-row h past B e =
    rw (same-refl h.said.about, e) (ap (λ (a : Option ℕ). record { mac = h.said.about; kind = h.said.kind; redbox = h.said.redbox; heard_a = a; heard_b = Some h.at }) (before_a past h.said.about h.at))

abbrev HasRows : Nodes → List Hearing → Type 0
HasRows table past = table.rows ≡ entries past

-- the rows behind that of a hearing
rows-behind : (h : Hearing) (past : List Hearing) → take 63 (others row_mac h.said.about (entries past)) ≡ map (entry (h ∷ past)) (take 63 (others mac_of h.said.about (latest_of_each mac_of past)))
rows-behind h past =
    let mac = h.said.about in
    let latest = latest_of_each mac_of past in
    ap (take 63) (others-map past mac (latest_heard mac_of past))
    ∙ take-map past 63 (others mac_of mac (latest_heard mac_of past))
    ∙ ap (map (entry past)) (behind_first mac_of mac past)
    ∙ entries-other h past (take 63 (others mac_of mac latest)) (NoneOf-take mac_of mac 63 (others mac_of mac latest) (none_left mac_of mac latest))

step : (table : Nodes) (past : List Hearing) (h : Hearing) → HasRows table past → HasRows (heard table h) (h ∷ past)
step table past h e =
    let row = row_after (h ∷ past) h in
    ap (λ rows. put_first row_mac (row_on h.port h (known_row h.at h.said.about rows), h.at) rows) e
    ∙ ap (λ r. put_first row_mac (r, h.at) (entries past)) (first-row h past h.port refl)
    ∙ ap (λ ys. (row, h.at) ∷ ys) (rows-behind h past)

known-map : (past : List Hearing) (at : ℕ) (hs : List Hearing) → map (λ r. r.0) (known at (map (entry past) hs)) ≡ map (row_after past) (filter (λ h. is_young at h.at) hs)
known-map past at [] = refl
known-map past at (h ∷ hs) =
    let rest : map (λ r. r.0) (known at (map (entry past) hs)) ≡ map (row_after past) (filter (λ x. is_young at x.at) hs) = known-map past at hs in
    elim (is_young at h.at) as (λ b. map (λ r. r.0) (cond b (entry past h ∷ known at (map (entry past) hs)) (known at (map (entry past) hs))) ≡ map (row_after past) (cond b (h ∷ filter (λ x. is_young at x.at) hs) (filter (λ x. is_young at x.at) hs))) [
      | true ↦ ap (λ ys. row_after past h ∷ ys) rest
      | false ↦ rest
    ]

pub rows_of_latest : RowsOfLatest
rows_of_latest hearings at =
    let past = reverse hearings in
    ap (λ rows. map (λ r. r.0) (known at rows)) (fold_stands heard HasRows step no_nodes refl hearings)
    ∙ known-map past at (latest_heard mac_of past)

-- a payload that is heard, or not: what the table hears of it, and whether it could be read
pub listened-if : (told : Bool) (payload : List ℕ) (table : Nodes) (port : RingPort) (at : ℕ)
    → let after = if told then listened table payload port at else (true, table) in
    (after.1 ≡ fold heard table (if told then hearing_if port at (read_of payload) else [])) × (not after.0 ≡ (if told then is_err (read_of payload) else false))
listened-if false payload table port at = (refl, refl)
listened-if true payload table port at = by_read (read_of payload)
  where
    by_read : (said : Result Fields SupFault) → ((heard_if table port at said).1 ≡ fold heard table (hearing_if port at said)) × (not (heard_if table port at said).0 ≡ is_err said)
    by_read (Ok said) = (refl, refl)
    by_read (Err fault) = (refl, refl)

-- a table that heard nothing later than this moment, or hears at it, has heard nothing later
pub listened-last : (told : Bool) (payload : List ℕ) (table : Nodes) (port : RingPort) (at : ℕ) → table.last ≤ at → (if told then listened table payload port at else (true, table)).1.last ≤ at
listened-last false payload table port at h = h
listened-last true payload table port at h = by_read (read_of payload)
  where
    by_read : (said : Result Fields SupFault) → (heard_if table port at said).1.last ≤ at
    by_read (Ok said) = omega arith
    by_read (Err fault) = h
