-- Texts and lists that grow by what one more element says.
use Rattle.std.proofs.Common.{◌≡◌, ℕ, suc, ◌+◌, ◌<◌, List, [], ◌∷◌, ◌++◌, length, take, drop, get_or, slice_index_or, ap, sym, ◌∙◌, add-one, append-nil, append_assoc, drop-cons, Result}
use Rattle.std.specs.List.{flat_map}
use Rattle.hsr_frame.proofs.OneMore.{grown}
use Rattle.hsr_node.specs.Step.{node_step}
use Rattle.hsr_node.specs.declared.event.Event.{Event}
use Rattle.hsr_node.specs.declared.event.Outcome.{Outcome}
use Rattle.hsr_node.specs.declared.event.StepFault.{StepFault}
use Rattle.hsr_node.specs.declared.node.Node.{Node}
use Rattle.hsr_node.specs.declared.place.Place.{Place}
use Rattle.hsr_stimuli.specs.Playing.{after_sends, after_try, event_of, some_send, tried_by, tried_from}
use Rattle.hsr_stimuli.specs.Scenes.{below}
use Rattle.hsr_stimuli.specs.Telling.{line, lines_from}
use Rattle.hsr_stimuli.specs.declared.playing.Tried.{Tried}
use Rattle.hsr_stimuli.specs.declared.scene.Stimulus.{Stimulus}

pub text_grown : {X : Type 0} (text : X → List ℕ) (xs : List X) (i : ℕ) (d : X) (start old new : List ℕ) → i < length xs →
    old ≡ start ++ flat_map text (take i xs) → new ≡ old ++ text (slice_index_or xs i d) → new ≡ start ++ flat_map text (take (i + 1) xs)
text_grown text xs i d start old new here so_far more = more ∙ ap (λ t. t ++ text (slice_index_or xs i d)) so_far ∙ grown text xs i d start here

-- the same by what stands there
pub text_grown_by : {X : Type 0} (text : X → List ℕ) (xs : List X) (i : ℕ) (d x : X) (start old new : List ℕ) → i < length xs → x ≡ slice_index_or xs i d →
    old ≡ start ++ flat_map text (take i xs) → new ≡ old ++ text x → new ≡ start ++ flat_map text (take (i + 1) xs)
text_grown_by text xs i d x start old new here is so_far more = text_grown text xs i d start old new here so_far (more ∙ ap (λ y. old ++ text y) is)

-- none of a sequence
pub below_none : (f : ℕ → Stimulus) (start : List Stimulus) → start ≡ start ++ below f 0
unfolding below
below_none f start = sym (append-nil start)

-- one more of it
pub below_grown : (f : ℕ → Stimulus) (n : ℕ) (start old new : List Stimulus) → old ≡ start ++ below f n → new ≡ old ++ f n ∷ [] → new ≡ start ++ below f (n + 1)
unfolding below
below_grown f n start old new so_far more =
    more ∙ ap (λ t. t ++ f n ∷ []) so_far ∙ append_assoc start (below f n) (f n ∷ []) ∙ ap (λ k. start ++ below f k) (sym (add-one n))

-- what stands at a place
drop_here : {X : Type 0} (xs : List X) (i : ℕ) (d x : X) → i < length xs → x ≡ get_or xs i d → drop i xs ≡ x ∷ drop (i + 1) xs
drop_here xs i d x h here = drop-cons xs i d h ∙ ap (λ z. z ∷ drop (suc i) xs) (sym here) ∙ ap (λ n. x ∷ drop n xs) (sym (add-one i))

-- the lines so far and those of what is left are those of all
pub lines_step : (place : Place) (ts : List Tried) (i : ℕ) (d t : Tried) (old new all : List ℕ) → i < length ts → t ≡ get_or ts i d →
    old ++ lines_from place (i + 1) (drop i ts) ≡ all → new ≡ old ++ line place (i + 1) t → new ++ lines_from place (i + 1 + 1) (drop (i + 1) ts) ≡ all
lines_step place ts i d t old new all h here so_far more =
    let left : List ℕ = lines_from place (i + 1 + 1) (drop (i + 1) ts) in
    ap (λ z. z ++ left) more ∙ append_assoc old (line place (i + 1) t) left
    ∙ sym (ap (λ z. old ++ lines_from place (i + 1) z) (drop_here ts i d t h here)) ∙ so_far

-- one send more
pub sends_step : (capacity : ℕ) (node before next : Node capacity) (n : ℕ) (answer : Result Outcome StepFault) → before ≡ after_sends capacity node n
    → (answer, next) ≡ node_step capacity before 0 some_send → next ≡ after_sends capacity node (n + 1)
sends_step capacity node before next n answer so_far stepped =
    ap (λ after. after.1) stepped ∙ ap (λ m. (node_step capacity m 0 some_send).1) so_far ∙ ap (after_sends capacity node) (sym (add-one n))

-- a step gives its answer
pub try_answers : (capacity : ℕ) (node next : Node capacity) (s : Stimulus) (event : Event) (answer : Result Outcome StepFault) → event ≡ event_of s
    → (answer, next) ≡ node_step capacity node s.at event → record { stimulus = s; answer = answer } ≡ tried_by capacity node s
try_answers capacity node next s event answer is stepped =
    let answered : Result Outcome StepFault × Node capacity → Tried = λ after. record { stimulus = s; answer = after.0 } in
    ap answered stepped ∙ ap (λ e. answered (node_step capacity node s.at e)) is

-- and leaves the node behind it
pub try_leaves : (capacity : ℕ) (node next : Node capacity) (s : Stimulus) (event : Event) (answer : Result Outcome StepFault) → event ≡ event_of s
    → (answer, next) ≡ node_step capacity node s.at event → next ≡ after_try capacity node s
try_leaves capacity node next s event answer is stepped = ap (λ after. after.1) stepped ∙ ap (λ e. (node_step capacity node s.at e).1) is

-- the answers so far and those to what is left are those to all
pub tried_step : (capacity : ℕ) (node next : Node capacity) (ss : List Stimulus) (i : ℕ) (d s : Stimulus) (old new all : List Tried) → i < length ss → s ≡ get_or ss i d
    → old ++ tried_from capacity node (drop i ss) ≡ all → new ≡ old ++ tried_by capacity node s ∷ [] → next ≡ after_try capacity node s
    → new ++ tried_from capacity next (drop (i + 1) ss) ≡ all
tried_step capacity node next ss i d s old new all h here so_far more behind =
    let left : List Stimulus = drop (i + 1) ss in
    ap (λ z. z ++ tried_from capacity next left) more
    ∙ append_assoc old (tried_by capacity node s ∷ []) (tried_from capacity next left)
    ∙ ap (λ m. old ++ (tried_by capacity node s ∷ tried_from capacity m left)) behind
    ∙ sym (ap (λ z. old ++ tried_from capacity node z) (drop_here ss i d s h here)) ∙ so_far
