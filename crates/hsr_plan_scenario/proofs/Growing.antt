-- Texts that grow by what one more element says.
use Rattle.std.proofs.Common.{◌≡◌, ℕ, zero, suc, ◌+◌, ◌<◌, List, [], ◌∷◌, ◌++◌, codes, length, min, take, slice_index_or, arith, ap, sym, ◌∙◌, append_assoc, append-nil, add-one, zero-add}
use Rattle.std.proofs.lemmas.List.{length-append}
use Rattle.hsr_plan_text.specs.Plan.{Outline}
use Rattle.hsr_plan_schedule.specs.Meaning.{Meaning}
use Rattle.hsr_plan_scenario.specs.Spelled.{comma, front_text, listed, numbered, order_lines, parted, scenario_text}

numbered-suc : {X : Type 0} (text : ℕ → X → List ℕ) (k i : ℕ) (xs : List X) (d : X) → i < length xs →
    numbered text k (take (suc i) xs) ≡ numbered text k (take i xs) ++ text (k + i) (slice_index_or xs i d)
numbered-suc text k i [] d below = absurd (omega arith)
numbered-suc text k zero (x ∷ xs) d below =
    let here : k + 0 ≡ k = omega arith in
    append-nil (text k x) ∙ ap (λ n. text n x) (sym here)
numbered-suc text k (suc i) (x ∷ xs) d below =
    let on : (k + 1) + i ≡ k + suc i = omega arith in
    ap (λ t. text k x ++ t) (numbered-suc text (k + 1) i xs d (omega (arith, below)) ∙ ap (λ n. numbered text (k + 1) (take i xs) ++ text n (slice_index_or xs i d)) on)
    ∙ sym (append_assoc (text k x) (numbered text (k + 1) (take i xs)) (text (k + suc i) (slice_index_or xs i d)))

-- a text by what one more element says
pub numbered_more : {X : Type 0} (text : ℕ → X → List ℕ) (i : ℕ) (xs : List X) (d : X) (start old new : List ℕ) → i < length xs →
    old ≡ start ++ numbered text 0 (take i xs) → new ≡ old ++ text i (slice_index_or xs i d) → new ≡ start ++ numbered text 0 (take (i + 1) xs)
numbered_more text i xs d start old new below so_far more =
    let here = ap (λ t. t ++ text i (slice_index_or xs i d)) so_far in
    more ∙ here ∙ append_assoc start (numbered text 0 (take i xs)) (text i (slice_index_or xs i d))
    ∙ ap (λ t. start ++ t) (ap (λ n. numbered text 0 (take i xs) ++ text n (slice_index_or xs i d)) (sym (zero-add i))
    ∙ sym (numbered-suc text 0 i xs d below) ∙ ap (λ n. numbered text 0 (take n xs)) (sym (add-one i)))

pub listed_more : {X : Type 0} (word : X → List ℕ) (i : ℕ) (xs : List X) (d : X) (start old middle one new : List ℕ) → i < length xs →
    old ≡ start ++ listed word (take i xs) → middle ≡ old ++ comma i → one ≡ word (slice_index_or xs i d) → new ≡ middle ++ one →
    new ≡ start ++ listed word (take (i + 1) xs)
listed_more word i xs d start old middle one new below so_far parts is more =
    let here : new ≡ (old ++ comma i) ++ word (slice_index_or xs i d) = cc in
    numbered_more (parted word) i xs d start old new below so_far (here ∙ append_assoc old (comma i) (word (slice_index_or xs i d)))

-- ---- how long a scenario's text is

sum_of : (front lines most : ℕ) → min (min (front + 2) most + min lines most) most ≡ min (front + (lines + 2)) most
sum_of front lines most = omega arith

pub measured_all : (outline : Outline) (m : Meaning) (items : List ℕ) (long front steps octets most : ℕ) → items ≡ front_text outline m → long ≡ length items →
    front ≡ min (long + 2) most → steps ≡ min (length (order_lines m.nodes m.streams m.sends m.orders)) most → octets ≡ min (front + steps) most →
    octets ≡ min (length (scenario_text outline m)) most
unfolding scenario_text
measured_all outline m items long front steps octets most is len before behind all =
    let lines : List ℕ = order_lines m.nodes m.streams m.sends m.orders in
    let ends : List ℕ = codes "]\n" in
    let whole : length ((front_text outline m ++ lines) ++ ends) ≡ length (front_text outline m) + (length lines + 2) =
    omega (arith, length-append (front_text outline m ++ lines) ends, length-append (front_text outline m) lines) in
    let octets_are : octets ≡ min (length (front_text outline m) + (length lines + 2)) most =
    (let one : long ≡ length (front_text outline m) = len ∙ ap length is in
    all ∙ ap (λ n. min (n + steps) most) before ∙ ap (λ n. min (min (n + 2) most + steps) most) one ∙ ap (λ n. min (min (length (front_text outline m) + 2) most + n) most) behind
    ∙ sum_of (length (front_text outline m)) (length lines) most) in
    octets_are ∙ ap (λ n. min n most) (sym whole)
