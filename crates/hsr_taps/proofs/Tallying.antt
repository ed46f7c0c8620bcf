-- Packets counted at their interfaces, one after the other.
use Rattle.std.proofs.Common.{◌≡◌, ℕ, zero, suc, ◌+◌, ◌<◌, ◌≤◌, ◌^◌, Bool, true, false, cond, List, [], ◌∷◌, ◌++◌, length, get_or, set, ◌⊎◌, inl, inr, refl, sym, ap, subst, ◌∙◌, arith, below_more, Option, Some}
use Rattle.std.specs.Prelude.{nat_eq, count_by, option_map, slice_get, Result}
use Rattle.std.proofs.lemmas.Bool.{cases_eq, cases_lt, cond-false, cond-true, eq-eqb, ne_eqb}
use Rattle.std.proofs.lemmas.List.{append-nil, length_push}
use Rattle.std.proofs.lemmas.List.Elements.{filter-append}
use Rattle.std.proofs.lemmas.List.Sums.{count_by-le-length, length-filter, sum_by_push}
use Rattle.std.proofs.lemmas.Option.{same_Some, slice_get-get_or, slice_get_past, slice_get_within}
use Rattle.hsr_capture_reader.specs.Fields.{InterfaceFields, PacketFields}
use Rattle.hsr_frame_copies.specs.Contents.{CopyFields, copy_of}
use Rattle.hsr_frame_copies.specs.declared.contents.NoCopy.{NoCopy}
use Rattle.hsr_taps.specs.Asked.{ChoiceFields}
use Rattle.hsr_taps.specs.declared.tally.Tally.{Tally}
use Rattle.hsr_taps.specs.Tallies.{AreTallies, came_at, is_at, is_looked_at, tally_at, tally_of}

-- ---- one packet more

pub count_push : {X : Type 0} (f : X → Bool) (xs : List X) (x : X) (old n : ℕ) → old ≡ count_by f xs → n ≡ old + cond (f x) 1 0 → n ≡ count_by f (xs ++ x ∷ [])
count_push f xs x old n old_is n_is = n_is ∙ ap (λ k. k + cond (f x) 1 0) old_is ∙ sym (sum_by_push (λ y. cond (f y) 1 0) xs x)

pub such_more : (f : PacketFields → Bool) (packets : List PacketFields) (p : PacketFields) (old n : ℕ) (is_such : Bool) → length packets < 2 ^ 63 → old ≡ count_by f packets
    → (old + 1 < 2 ^ 64 → n ≡ old + cond is_such 1 0) → is_such ≡ f p → n ≡ count_by f (packets ++ p ∷ [])
such_more f packets p old n is_such few old_is more such_is =
    let most = count_by-le-length f packets in
    let room : old + 1 < 2 ^ 64 = omega (arith, old_is, most, few) in
    count_push f packets p old n old_is (more room ∙ ap (λ b. old + cond b 1 0) such_is)

pub kind_more : (f : Result CopyFields NoCopy → Bool) (packets : List PacketFields) (p : PacketFields) (old n : ℕ) (is_such : Bool) (kind : Result CopyFields NoCopy) → length packets < 2 ^ 63
    → old ≡ count_by (λ q. f (copy_of q)) packets → (old + 1 < 2 ^ 64 → n ≡ old + cond is_such 1 0) → is_such ≡ f kind → kind ≡ copy_of p
    → n ≡ count_by (λ q. f (copy_of q)) (packets ++ p ∷ [])
kind_more f packets p old n is_such kind few old_is more such_is kind_is = such_more (λ q. f (copy_of q)) packets p old n is_such few old_is more (such_is ∙ ap f kind_is)

pub length_more : (packets : List PacketFields) (p : PacketFields) (old n : ℕ) → old ≡ length packets → n ≡ old + 1 → n ≡ length (packets ++ p ∷ [])
length_more packets p old n old_is n_is = n_is ∙ ap (λ k. k + 1) old_is ∙ sym (length_push packets p)

pub same_tally : (a b : Tally) → a.packets ≡ b.packets → a.untagged ≡ b.untagged → a.malformed ≡ b.malformed → a.unread ≡ b.unread → a.cut ≡ b.cut → a.lane_a ≡ b.lane_a → a.lane_b ≡ b.lane_b
    → a.flagged ≡ b.flagged → a ≡ b
same_tally a b packets untagged malformed unread cut lane_a lane_b flagged =
    ap (λ (n : ℕ). record a { packets = n }) packets
    ∙ ap (λ (n : ℕ). record a { packets = b.packets; untagged = n }) untagged
    ∙ ap (λ (n : ℕ). record a { packets = b.packets; untagged = b.untagged; malformed = n }) malformed
    ∙ ap (λ (n : ℕ). record a { packets = b.packets; untagged = b.untagged; malformed = b.malformed; unread = n }) unread
    ∙ ap (λ (n : ℕ). record b { cut = n; lane_a = a.lane_a; lane_b = a.lane_b; flagged = a.flagged }) cut
    ∙ ap (λ (n : ℕ). record b { lane_a = n; lane_b = a.lane_b; flagged = a.flagged }) lane_a
    ∙ ap (λ (n : ℕ). record b { lane_b = n; flagged = a.flagged }) lane_b
    ∙ ap (λ (n : ℕ). record b { flagged = n }) flagged

-- ---- at an interface

came_push : (i : ℕ) (packets : List PacketFields) (p : PacketFields) → came_at i (packets ++ p ∷ []) ≡ came_at i packets ++ cond (nat_eq p.interface i) (p ∷ []) []
came_push i packets p = filter-append (λ q. nat_eq q.interface i) packets (p ∷ [])

came_own : (packets : List PacketFields) (p : PacketFields) → came_at p.interface (packets ++ p ∷ []) ≡ came_at p.interface packets ++ p ∷ []
came_own packets p = came_push p.interface packets p ∙ ap (λ l. came_at p.interface packets ++ l) (cond-true _ (p ∷ []) [] (eq-eqb p.interface p.interface refl))

came_other : (i : ℕ) (packets : List PacketFields) (p : PacketFields) → (p.interface ≡ i → ⊥) → came_at i (packets ++ p ∷ []) ≡ came_at i packets
came_other i packets p other =
    came_push i packets p ∙ ap (λ l. came_at i packets ++ l) (cond-false _ (p ∷ []) [] (ne_eqb p.interface i other)) ∙ append-nil (came_at i packets)

still_at : (i : ℕ) (packets : List PacketFields) (p : PacketFields) (looked : Bool) → (p.interface ≡ i → ⊥) → tally_at packets i looked ≡ tally_at (packets ++ p ∷ []) i looked
still_at i packets p true other = ap tally_of (sym (came_other i packets p other))
still_at i packets p false other = refl

tally_own : (packets : List PacketFields) (p : PacketFields) (looked : Bool) (new : Tally) → looked ≡ true → new ≡ tally_of (came_at p.interface packets ++ p ∷ [])
    → new ≡ tally_at (packets ++ p ∷ []) p.interface looked
tally_own packets p true new is new_is = new_is ∙ ap tally_of (sym (came_own packets p))
tally_own packets p false new is new_is = absurd cc

-- an interface that isn't looked at
not_looked : (i j : ℕ) (packets : List PacketFields) (p : PacketFields) (looked : Bool) → looked ≡ false → tally_at packets i looked ≡ tally_at (packets ++ p ∷ []) i looked
not_looked i j packets p true is = absurd cc
not_looked i j packets p false is = refl

pub slice_get_set : {X : Type 0} (xs : List X) (i j : ℕ) (y own : X) → slice_get (set xs i y) j ≡ Some own → ((j ≡ i) × (own ≡ y)) ⊎ ((i ≡ j → ⊥) × (slice_get xs j ≡ Some own))
slice_get_set [] i j y own h = absurd cc
slice_get_set (x ∷ xs) zero zero y own h = inl (refl, cc)
slice_get_set (x ∷ xs) zero (suc j) y own h = inr ((λ e. omega (arith, e)), h)
slice_get_set (x ∷ xs) (suc i) zero y own h = inr ((λ e. omega (arith, e)), h)
slice_get_set (x ∷ xs) (suc i) (suc j) y own h = by_case (slice_get_set xs i j y own h)
  where
    by_case : ((j ≡ i) × (own ≡ y)) ⊎ ((i ≡ j → ⊥) × (slice_get xs j ≡ Some own)) → ((suc j ≡ suc i) × (own ≡ y)) ⊎ ((suc i ≡ suc j → ⊥) × (slice_get xs j ≡ Some own))
    by_case (inl same) = inl (ap suc same.0, same.1)
    by_case (inr other) = inr ((λ e. other.0 (omega (arith, e))), other.1)

pub put_tally : (looked : List Bool) (packets : List PacketFields) (p : PacketFields) (old : List Tally) (d new : Tally) → p.interface < length old → is_at looked p.interface ≡ true
    → (get_or old p.interface d ≡ tally_of (came_at p.interface packets) → new ≡ tally_of (came_at p.interface packets ++ p ∷ []))
    → AreTallies looked packets old → AreTallies looked (packets ++ p ∷ []) (set old p.interface new)
put_tally looked packets p old d new below is step all i own h = by_case (slice_get_set old p.interface i new own h)
  where
    before : get_or old p.interface d ≡ tally_of (came_at p.interface packets)
    before = all p.interface (get_or old p.interface d) (slice_get-get_or old p.interface d below) ∙ ap (tally_at packets p.interface) is

    by_case : ((i ≡ p.interface) × (own ≡ new)) ⊎ ((p.interface ≡ i → ⊥) × (slice_get old i ≡ Some own)) → own ≡ tally_at (packets ++ p ∷ []) i (is_at looked i)
    by_case (inl same) = same.1 ∙ subst (λ j. new ≡ tally_at (packets ++ p ∷ []) j (is_at looked j)) (sym same.0) (tally_own packets p (is_at looked p.interface) new is (step before))
    by_case (inr other) = all i own other.1 ∙ still_at i packets p (is_at looked i) other.0

-- a packet that is counted nowhere
pub still_tallies : (looked : List Bool) (packets : List PacketFields) (p : PacketFields) (tallies : List Tally) → (length tallies ≤ p.interface) ⊎ (is_at looked p.interface ≡ false)
    → AreTallies looked packets tallies → AreTallies looked (packets ++ p ∷ []) tallies
still_tallies looked packets p tallies (inl past) all i own h =
    let below = slice_get_within tallies i own h in
    all i own h ∙ still_at i packets p (is_at looked i) (λ e. omega (arith, e, below, past))
still_tallies looked packets p tallies (inr is) all i own h = all i own h ∙ by_case (cases_eq p.interface i)
  where
    by_case : (p.interface ≡ i) ⊎ (p.interface ≡ i → ⊥) → tally_at packets i (is_at looked i) ≡ tally_at (packets ++ p ∷ []) i (is_at looked i)
    by_case (inl same) = not_looked i i packets p (is_at looked i) (ap (is_at looked) (sym same) ∙ is)
    by_case (inr other) = still_at i packets p (is_at looked i) other

-- ---- lists that grow by one

pub slice_get_left : {X : Type 0} (xs ys : List X) (k : ℕ) → k < length xs → slice_get (xs ++ ys) k ≡ slice_get xs k
slice_get_left [] ys k below = absurd (omega (arith, below))
slice_get_left (x ∷ xs) ys zero below = refl
slice_get_left (x ∷ xs) ys (suc k) below = slice_get_left xs ys k (omega (arith, below))

slice_get_end : {X : Type 0} (xs : List X) (y : X) (k : ℕ) → length xs ≡ k → slice_get (xs ++ y ∷ []) k ≡ Some y
slice_get_end [] y k is = subst (λ n. slice_get (y ∷ []) n ≡ Some y) is refl
slice_get_end (x ∷ xs) y zero is = absurd (omega (arith, is))
slice_get_end (x ∷ xs) y (suc k) is = slice_get_end xs y k (omega (arith, is))

-- what is true of each so far, with one more
pub each_more : {X : Type 0} (P : ℕ → Option X → Type 0) (told new : List X) (i : ℕ) (y : X) → length told ≡ i → new ≡ told ++ y ∷ [] → ((k : ℕ) → k < i → P k (slice_get told k)) → P i (Some y)
    → (k : ℕ) → k < i + 1 → P k (slice_get new k)
each_more P told new i y long is each own =
    subst (λ l. (k : ℕ) → k < i + 1 → P k (slice_get l k)) (sym is)
    (below_more _ _ (λ k below. subst (P k) (sym (slice_get_left told (y ∷ []) k (omega (arith, below, long)))) (each k below)) (subst (P i) (sym (slice_get_end told y i long)) own))

-- what is true of each element so far, with one more
pub all_more : {X : Type 0} (P : ℕ → X → Type 0) (told new : List X) (i : ℕ) (y : X) → length told ≡ i → new ≡ told ++ y ∷ [] → ((k : ℕ) (x : X) → slice_get told k ≡ Some x → P k x) → P i y
    → (k : ℕ) (x : X) → slice_get new k ≡ Some x → P k x
all_more {X = X} P told new i y long is each own k x here =
    let pushed : slice_get (told ++ y ∷ []) k ≡ Some x = subst (λ l. slice_get l k ≡ Some x) is here in
    let below : k < length (told ++ y ∷ []) = slice_get_within (told ++ y ∷ []) k x pushed in
    let more : length (told ++ y ∷ []) ≡ length told + 1 = length_push told y in
    below_more (λ k. (x : X) → slice_get (told ++ y ∷ []) k ≡ Some x → P k x) i
    (λ k below x h. each k x (sym (slice_get_left told (y ∷ []) k (omega (arith, below, long))) ∙ h))
    (λ x h. subst (P i) (same_Some y x (sym (slice_get_end told y i long) ∙ h)) own) k (omega (arith, below, more, long)) x pushed

-- of each interface it is known whether it is looked at
pub all_looked_at : (choice : ChoiceFields) (interfaces : List InterfaceFields) (looked : List Bool) (n : ℕ) → length looked ≡ n → length interfaces ≡ n
    → ((k : ℕ) → k < n → slice_get looked k ≡ option_map (is_looked_at choice k) (slice_get interfaces k))
    → (k : ℕ) → slice_get looked k ≡ option_map (is_looked_at choice k) (slice_get interfaces k)
all_looked_at choice interfaces looked n long all each k = by_case (cases_lt k n)
  where
    by_case : (k < n) ⊎ (n ≤ k) → slice_get looked k ≡ option_map (is_looked_at choice k) (slice_get interfaces k)
    by_case (inl below) = each k below
    by_case (inr past) = slice_get_past looked k (omega (arith, long, past)) ∙ sym (ap (option_map (is_looked_at choice k)) (slice_get_past interfaces k (omega (arith, all, past))))

pub few_came : (packets : List PacketFields) (i : ℕ) → length packets < 2 ^ 63 → length (came_at i packets) < 2 ^ 63
few_came packets i few =
    let same : length (came_at i packets) ≡ count_by (λ p. nat_eq p.interface i) packets = length-filter (λ p. nat_eq p.interface i) packets in
    let le = count_by-le-length (λ (p : PacketFields). nat_eq p.interface i) packets in
    omega (arith, same, le, few)
