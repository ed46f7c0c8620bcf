-- A worker's receipts, one after another, against what is left of the records.
use Rattle.std.proofs.Common.{◌≡◌, ◌↔◌, ℕ, ◌+◌, ◌<◌, ◌==◌, zero, suc, nat_eq, cond, Bool, true, false, List, [], ◌∷◌, ◌++◌, length, get_or, filter_map, slice_get, Option, Some, None, refl, sym, ap, ◌∙◌, subst, arith, eqb-true}
use Rattle.std.specs.List.{AllByRecursion, cons_option}
use Rattle.std.proofs.lemmas.List.{length_push}
use Rattle.std.proofs.lemmas.Option.{slice_get-get_or}
use Rattle.hsr_node.specs.Kept.{Receipts, Record}
use Rattle.hsr_node.specs.declared.entry.Entry.{Entry}
use Rattle.hsr_node.specs.declared.entry.Receipt.{Receipt}
use Rattle.hsr_finished_run.specs.Next.{AreFirst, AreNext, IsNext, holds_from}
use Rattle.hsr_finished_run.specs.Passes.{receipts_in, receipts_of}
use Rattle.hsr_finished_run.specs.Receipts.{AreShown, IsPlaced, IsShown, Shows, entry_at, named}
use Rattle.hsr_run_index.proofs.Decided.{same}
use Rattle.hsr_run_index.proofs.Turning.{first_next}
use Rattle.hsr_finished_run.proofs.Plan.{all_append, found_at, node_inside}
use Rattle.hsr_finished_run.proofs.Receiving.{names_flat, shown_flat}

tail : {x : ℕ} {xs ys : List ℕ} → x ∷ xs ≡ x ∷ ys → xs ≡ ys
tail h = cc

-- ---- first places

pub first_more : (n : ℕ) (next after : List ℕ) → AreFirst n next → after ≡ next ++ 0 ∷ [] → AreFirst (n + 1) after
first_more n next after h is =
    subst (AreFirst (n + 1)) (sym is) (record { long = length_push next 0 ∙ ap (λ k. k + 1) h.long; first = all_append (λ k. k ≡ 0) next (0 ∷ []) h.first (refl, tt) })

pub zero_at : (xs : List ℕ) → AllByRecursion (λ n. n ≡ 0) xs → (k : ℕ) → get_or xs k 0 ≡ 0
zero_at [] h k = refl
zero_at (x ∷ xs) h zero = h.0
zero_at (x ∷ xs) h (suc k) = zero_at xs h.1 k

-- ---- one receipt

-- what is left first is the next entry
pub is_next : (w : ℕ) (kept : List Record) (next : ℕ → ℕ) (r : Receipt) (rest : List Receipt) → AreNext w kept next (r ∷ rest) →
    (r.node < length kept) × ((d : Record) → IsNext w (get_or kept r.node d).entries (next r.node) r.place)
is_next w kept next r rest h = (inside, λ d. first_next (get_or kept r.node d).entries w (next r.node) r.place (filter_map (named r.node) rest) (sym (names d)))
  where
    inside : r.node < length kept
    inside = node_inside kept r h.shown.0

    names : (d : Record) → r.place ∷ filter_map (named r.node) rest ≡ holds_from w (get_or kept r.node d).entries (next r.node)
    names d = subst (λ b. cons_option (cond b (Some r.place) None) (filter_map (named r.node) rest) ≡ holds_from w (get_or kept r.node d).entries (next r.node))
        (same r.node r.node refl) (h.names r.node d inside)

-- the entry that was read stands there
pub read_at : (kept : List Record) (r : Receipt) (all : List Record) (e : Record) (entries : List Entry) (x : Entry) (from w : ℕ) → r.node < length kept →
    IsNext w (get_or kept r.node e).entries from r.place → all ≡ kept → e ≡ get_or all r.node e → entries ≡ e.entries → x ≡ get_or entries r.place x →
    entry_at kept r.node r.place ≡ Some x
read_at kept r all e entries x from w inside next same_kept at read stands =
    let is : (get_or kept r.node e).entries ≡ entries = ap (λ (ks : List Record). (get_or ks r.node e).entries) (sym same_kept) ∙ (ap (λ (y : Record). y.entries) (sym at) ∙ sym read) in
    let low = next.below in
    let long = ap length is in
    found_at kept r.node r.place e inside ∙ (ap (λ xs. slice_get xs r.place) is ∙ (slice_get-get_or entries r.place x (omega (arith, low, long)) ∙ ap Some (sym stands)))

pub one_entry : {x y : Entry} {o : Option Entry} → o ≡ Some x → o ≡ Some y → x ≡ y
one_entry a b = let c = sym a ∙ b in cc

-- behind it the rest is left
pub next_more : (w : ℕ) (kept : List Record) (old new : ℕ → ℕ) (r : Receipt) → Shows kept r → ((d : Record) → IsNext w (get_or kept r.node d).entries (old r.node) r.place) →
    ((k : ℕ) → new k ≡ cond (nat_eq r.node k) (r.place + 1) (old k)) → (rest : List Receipt) → AreNext w kept old (r ∷ rest) ↔ AreNext w kept new rest
next_more w kept old new r shows next put rest = (
  λ h. record { shown = h.shown.1; names = λ k d below. (by_node k d (r.node == k) refl).0 (h.names k d below) },
  λ h. record { shown = (shows, h.shown); names = λ k d below. (by_node k d (r.node == k) refl).1 (h.names k d below) },
)
  where
    by_node : (k : ℕ) (d : Record) (b : Bool) → (r.node == k) ≡ b →
        (cons_option (cond b (Some r.place) None) (filter_map (named k) rest) ≡ holds_from w (get_or kept k d).entries (old k))
        ↔ (filter_map (named k) rest ≡ holds_from w (get_or kept k d).entries (new k))
    by_node k d true is =
        let at : new k ≡ r.place + 1 = put k ∙ ap (λ b. cond b (r.place + 1) (old k)) is in
        let here : holds_from w (get_or kept k d).entries (old k) ≡ r.place ∷ holds_from w (get_or kept k d).entries (r.place + 1) =
        subst (λ m. holds_from w (get_or kept m d).entries (old m) ≡ r.place ∷ holds_from w (get_or kept m d).entries (r.place + 1)) (eqb-true r.node k is) (next d).holds in
        let there : holds_from w (get_or kept k d).entries (new k) ≡ holds_from w (get_or kept k d).entries (r.place + 1) = ap (holds_from w (get_or kept k d).entries) at in (
          λ h. let both = h ∙ here in tail both ∙ sym there,
          λ h. ap (λ xs. r.place ∷ xs) (h ∙ there) ∙ sym here,
        )
    by_node k d false is =
        let at : new k ≡ old k = put k ∙ ap (λ b. cond b (r.place + 1) (old k)) is in
        let there : holds_from w (get_or kept k d).entries (new k) ≡ holds_from w (get_or kept k d).entries (old k) = ap (holds_from w (get_or kept k d).entries) at in
        (λ h. h ∙ sym there, λ h. h ∙ there)

-- ---- all of them

all_shown : (kept : List Record) (rs : List Receipt) → AreShown kept rs (length rs) → AllByRecursion (Shows kept) rs
all_shown kept [] h = tt
all_shown kept (r ∷ rs) h = (h 0 r (omega arith), all_shown kept rs (λ i d below. h (suc i) d (omega (arith, below))))

flat_shown : (kept : List Record) (w : ℕ) (ps : List Receipts) → IsShown kept w ps (length ps) → AllByRecursion (Shows kept) (receipts_of w ps)
flat_shown kept w [] h = tt
flat_shown kept w (p ∷ ps) h =
    all_append (Shows kept) (receipts_in w p) (receipts_of w ps) (by_worker (p.worker == w) refl) (flat_shown kept w ps (λ j d below. h (suc j) d (omega (arith, below))))
  where
    by_worker : (b : Bool) → (p.worker == w) ≡ b → AllByRecursion (Shows kept) (cond b p.receipts [])
    by_worker true same_worker = all_shown kept p.receipts (h 0 p (omega arith) (eqb-true p.worker w same_worker))
    by_worker false other = tt

pub kept_first : (w : ℕ) (kept : List Record) (passes : List Receipts) (next : ℕ → ℕ) → ((k : ℕ) → next k ≡ 0) →
    AreNext w kept next (receipts_of w passes) ↔ (IsShown kept w passes (length passes) × IsPlaced kept w passes (length kept))
kept_first w kept passes next first =
    let start : (k : ℕ) (d : Record) → holds_from w (get_or kept k d).entries (next k) ≡ holds_from w (get_or kept k d).entries 0 = λ k d i. holds_from w (get_or kept k d).entries (first k i) in (
      λ h. (shown_flat kept w passes h.shown, λ k d below. names_flat w k passes ∙ (h.names k d below ∙ start k d)),
      λ h. record { shown = flat_shown kept w passes h.0; names = λ k d below. sym (names_flat w k passes) ∙ (h.1 k d below ∙ sym (start k d)) },
    )
