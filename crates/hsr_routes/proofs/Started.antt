-- The channels that start at a node: each does, and all of them are there.
use Rattle.std.proofs.Common.{◌≡◌, ℕ, ◌+◌, ◌<◌, ◌==◌, Bool, true, false, if◌then◌else◌, List, [], ◌∷◌, ◌++◌, length, slice_index_or, refl, sym, ap, ◌∙◌, subst, arith, zero, suc, eq-eqb, eqb-true}
use Rattle.hsr_link.specs.declared.row.Dir.{Dir}
use Rattle.hsr_link.specs.declared.row.Dir.TheVariants.{Forth, Back}
use Rattle.hsr_topology.specs.declared.end.End.{End}
use Rattle.hsr_run_laws.specs.Run.{Run, from_end}
use Rattle.hsr_network_laws.specs.Network.{Channel, start_of}
use Rattle.std.proofs.lemmas.List.FromFn.{get_or-map-range_with_len, length-map-range_with_len}
use Rattle.hsr_routes.specs.Started.{AreStarting, channel_from, channels_from}

-- of the links from the l-th on it starts at a node
record Starts (node l : ℕ) (links : List (List End)) (channel : Channel) : Type 0 where
  link : ℕ
  is : channel.link ≡ link + l
  below : link < length links
  here : (from_end channel.dir (slice_index_or links link [])).node ≡ node

-- ---- each starts there

each_at : {X : Type 0} (P : X → Type 0) (xs ys : List X) → ((i : ℕ) (d : X) → i < length xs → P (slice_index_or xs i d)) → ((i : ℕ) (d : X) → i < length ys → P (slice_index_or ys i d)) →
    (i : ℕ) (d : X) → i < length (xs ++ ys) → P (slice_index_or (xs ++ ys) i d)
each_at P [] ys f g i d below = g i d below
each_at P (x ∷ xs) ys f g zero d below = f zero d (omega arith)
each_at P (x ∷ xs) ys f g (suc i) d below = each_at P xs ys (λ j e low. f (suc j) e (omega (arith, low))) g i d (omega (arith, below))

one_starts : (node l : ℕ) (ends : List End) (links : List (List End)) (dir : Dir) (i : ℕ) (d : Channel) → i < length (channel_from node l ends dir) → Starts node l (ends ∷ links) (slice_index_or (channel_from node l ends dir) i d)
one_starts node l ends links dir = by_test ((from_end dir ends).node == node) refl
  where
    by_test : (b : Bool) → ((from_end dir ends).node == node) ≡ b → (i : ℕ) (d : Channel) → i < length {A = Channel} (if b then (record { link = l; dir = dir }) ∷ [] else []) →
        Starts node l (ends ∷ links) (slice_index_or (if b then (record { link = l; dir = dir }) ∷ [] else []) i d)
    by_test true is zero d below = record { link = zero; is = omega arith; below = omega arith; here = eqb-true (from_end dir ends).node node is }
    by_test true is (suc i) d below = absurd (omega (arith, below))
    by_test false is i d below = absurd (omega (arith, below))

later : (node l : ℕ) (ends : List End) (links : List (List End)) (channel : Channel) → Starts node (l + 1) links channel → Starts node l (ends ∷ links) channel
later node l ends links channel s = let is = s.is in let below = s.below in record { link = suc s.link; is = omega (arith, is); below = omega (arith, below); here = s.here }

each_starts : (node l : ℕ) (links : List (List End)) (i : ℕ) (d : Channel) → i < length (channels_from node l links) → Starts node l links (slice_index_or (channels_from node l links) i d)
each_starts node l [] i d below = absurd (omega (arith, below))
each_starts node l (ends ∷ links) i d below =
    each_at (Starts node l (ends ∷ links)) (channel_from node l ends Forth) (channel_from node l ends Back ++ channels_from node (l + 1) links)
    (one_starts node l ends links Forth)
    (each_at (Starts node l (ends ∷ links)) (channel_from node l ends Back) (channels_from node (l + 1) links)
    (one_starts node l ends links Back)
    (λ j e low. later node l ends links (slice_index_or (channels_from node (l + 1) links) j e) (each_starts node (l + 1) links j e low)))
    i d below

pub start_there : (run : Run) (node i : ℕ) (d : Channel) → i < length (channels_from node 0 run.links) → (slice_index_or (channels_from node 0 run.links) i d).link < length run.links
start_there run node i d below =
    let s = each_starts node 0 run.links i d below in
    let is = s.is in
    let low = s.below in
    omega (arith, is, low)

-- ---- all are there

pub record StandsIn (channel : Channel) (channels : List Channel) : Type 0 where
  pub place : ℕ
  pub below : place < length channels
  pub is : (d : Channel) → slice_index_or channels place d ≡ channel

stands_left : (channel : Channel) (xs ys : List Channel) → StandsIn channel xs → StandsIn channel (xs ++ ys)
stands_left channel [] ys s = let below = s.below in absurd (omega (arith, below))
stands_left channel (x ∷ xs) ys s = by_place s.place s.below s.is (λ i below is. stands_left channel xs ys (record { place = i; below = below; is = is }))
  where
    by_place : (i : ℕ) → i < length (x ∷ xs) → ((d : Channel) → slice_index_or (x ∷ xs) i d ≡ channel) →
        ((j : ℕ) → j < length xs → ((d : Channel) → slice_index_or xs j d ≡ channel) → StandsIn channel (xs ++ ys)) → StandsIn channel (x ∷ (xs ++ ys))
    by_place zero below is rest = record { place = zero; below = omega arith; is = is }
    by_place (suc i) below is rest =
        let there = rest i (omega (arith, below)) is in
        let low = there.below in
        record { place = suc there.place; below = omega (arith, low); is = there.is }

stands_right : (channel : Channel) (xs ys : List Channel) → StandsIn channel ys → StandsIn channel (xs ++ ys)
stands_right channel [] ys s = s
stands_right channel (x ∷ xs) ys s =
    let rest = stands_right channel xs ys s in
    let low = rest.below in
    record { place = suc rest.place; below = omega (arith, low); is = rest.is }

one_stands : (node l : ℕ) (ends : List End) (dir : Dir) → (from_end dir ends).node ≡ node → StandsIn (record { link = l; dir = dir }) (channel_from node l ends dir)
one_stands node l ends dir here =
    let P : Bool → Type 0 = λ b. StandsIn (record { link = l; dir = dir }) (if b then (record { link = l; dir = dir }) ∷ [] else []) in
    let one : P true = record { place = zero; below = omega arith; is = λ d. refl } in
    subst P (sym (eq-eqb (from_end dir ends).node node here)) one

all_stand : (node l : ℕ) (links : List (List End)) (k : ℕ) (dir : Dir) → k < length links → (from_end dir (slice_index_or links k [])).node ≡ node →
    StandsIn (record { link = k + l; dir = dir }) (channels_from node l links)
all_stand node l [] k dir below here = absurd (omega (arith, below))
all_stand node l (ends ∷ links) zero Forth below here =
    let none : l ≡ zero + l = omega arith in
    let P : ℕ → Type 0 = λ n. StandsIn (record { link = n; dir = Forth }) (channels_from node l (ends ∷ links)) in
    subst P none (stands_left (record { link = l; dir = Forth }) (channel_from node l ends Forth) (channel_from node l ends Back ++ channels_from node (l + 1) links) (one_stands node l ends Forth here))
all_stand node l (ends ∷ links) zero Back below here =
    let none : l ≡ zero + l = omega arith in
    let channel : Channel = record { link = l; dir = Back } in
    let P : ℕ → Type 0 = λ n. StandsIn (record { link = n; dir = Back }) (channels_from node l (ends ∷ links)) in
    subst P none
    (stands_right channel (channel_from node l ends Forth) (channel_from node l ends Back ++ channels_from node (l + 1) links)
    (stands_left channel (channel_from node l ends Back) (channels_from node (l + 1) links) (one_stands node l ends Back here)))
all_stand node l (ends ∷ links) (suc k) dir below here =
    let next : k + (l + 1) ≡ suc k + l = omega arith in
    let channel : Channel = record { link = k + (l + 1); dir = dir } in
    let P : ℕ → Type 0 = λ n. StandsIn (record { link = n; dir = dir }) (channels_from node l (ends ∷ links)) in
    subst P next
    (stands_right channel (channel_from node l ends Forth) (channel_from node l ends Back ++ channels_from node (l + 1) links)
    (stands_right channel (channel_from node l ends Back) (channels_from node (l + 1) links) (all_stand node (l + 1) links k dir (omega (arith, below)) here)))

pub stands : (run : Run) (node : ℕ) (channel : Channel) → channel.link < length run.links → (start_of run channel).node ≡ node → StandsIn channel (channels_from node 0 run.links)
stands run node channel below here =
    let same : channel.link + 0 ≡ channel.link = omega arith in
    let P : ℕ → Type 0 = λ n. StandsIn (record { link = n; dir = channel.dir }) (channels_from node 0 run.links) in
    subst P same (all_stand node 0 run.links channel.link channel.dir below here)

-- ---- of each node

pub starting_many : (run : Run) (all : List (List Channel)) → AreStarting run all → length all ≡ length run.places
starting_many run all is = ap length is ∙ length-map-range_with_len (λ n. channels_from n 0 run.links) 0 (length run.places)

pub starting_at : (run : Run) (all : List (List Channel)) (node : ℕ) (d : List Channel) → AreStarting run all → node < length run.places → slice_index_or all node d ≡ channels_from node 0 run.links
starting_at run all node d is below =
    ap (λ (xs : List (List Channel)). slice_index_or xs node d) is ∙ get_or-map-range_with_len (λ n. channels_from n 0 run.links) 0 (length run.places) node node d below (omega arith)
