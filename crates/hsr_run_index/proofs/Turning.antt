-- The place behind the entry before one of the same worker tells whether it is the next.
use Rattle.std.proofs.Common.{◌≡◌, ℕ, ◌+◌, ◌-◌, ◌<◌, ◌≤◌, ◌==◌, zero, suc, nat_eq, cond, Bool, true, false, List, [], ◌∷◌, ◌++◌, length, drop, get_or, Vec, refl, sym, ap, ◌∙◌, subst, arith, ⊎_elim, eqb-true}
use Rattle.std.specs.Global.{Global}
use Rattle.std.proofs.lemmas.Bool.{cases_eq, cases_lt}
use Rattle.std.proofs.lemmas.List.{get_or-append_right, get_or_append_left, drop-drop, get_or-drop, get_or_default, length-drop, length_push}
use Rattle.hsr_node.specs.Kept.{Record}
use Rattle.hsr_node.specs.declared.entry.Entry.{Entry}
use Rattle.hsr_run_index.specs.Turns.{AreBehind, AreBehindIn, IsBehind, IsNext, holds_from, holds_of}
use Rattle.hsr_run_index.proofs.Decided.{not_same, same}

-- ---- one more of a list

at_any : {X : Type 0} (xs : List X) (i : ℕ) (x d : X) → i < length xs → x ≡ get_or xs i x → x ≡ get_or xs i d
at_any xs i x d below stands = stands ∙ get_or_default xs i x d below

at_push : {X : Type 0} (P : ℕ → X → Type 0) (xs : List X) (x d : X) (n : ℕ) → length xs ≡ n → ((p : ℕ) → p < n → P p (get_or xs p d)) → P n x →
    (p : ℕ) → p < n + 1 → P p (get_or (xs ++ x ∷ []) p d)
at_push P xs x d n long all here p below = ⊎_elim before last (cases_lt p n)
  where
    before : p < n → P p (get_or (xs ++ x ∷ []) p d)
    before low = subst (P p) (sym (get_or_append_left xs (x ∷ []) d p (omega (arith, low, long)))) (all p low)

    last : n ≤ p → P p (get_or (xs ++ x ∷ []) p d)
    last high =
        let is : p ≡ n = omega (arith, high, below) in
        let at : get_or (xs ++ x ∷ []) p d ≡ x =
        get_or-append_right xs (x ∷ []) n p d long (omega (arith, is)) ∙ (let none : p - n ≡ 0 = omega (arith, is) in ap (λ i. get_or (x ∷ []) i d) none) in
        subst (λ m. P m (get_or (xs ++ x ∷ []) p d)) (sym is) (subst (P n) (sym at) here)

-- ---- the index

pub behind_more : (entries : List Entry) (place b : ℕ) (behind after : List ℕ) (x : Entry) → AreBehindIn entries behind place → IsBehind x.worker entries place b →
    place < length entries → x ≡ get_or entries place x → after ≡ behind ++ b ∷ [] → AreBehindIn entries after (place + 1)
behind_more entries place b behind after x h here inside stands is = record {
  long = ap length is ∙ (length_push behind b ∙ ap (λ k. k + 1) h.long);
  each = λ p d below.
      let P : ℕ → ℕ → Type 0 = λ q v. IsBehind (get_or entries q d).worker entries q v in
      subst (λ (xs : List ℕ). P p (get_or xs p 0)) (sym is)
      (at_push P behind b 0 place h.long (λ q. h.each q d) (subst (λ (y : Entry). IsBehind y.worker entries place b) (at_any entries place x d inside stands) here) p below);
}

pub latest_more : (entries : List Entry) (place worker : ℕ) (x : Entry) (old new : ℕ → ℕ) → place < length entries → x ≡ get_or entries place x → worker ≡ x.worker →
    ((w : ℕ) → IsBehind w entries place (old w)) → ((w : ℕ) → new w ≡ cond (nat_eq worker w) (place + 1) (old w)) → (w : ℕ) → IsBehind w entries (place + 1) (new w)
latest_more entries place worker x old new inside stands number h is w = subst (IsBehind w entries (place + 1)) (sym (is w)) (⊎_elim its others (cases_eq worker w))
  where
    here : (p : ℕ) (d : Entry) → p ≡ place → worker ≡ (get_or entries p d).worker
    here p d at = number ∙ ap (λ (y : Entry). y.worker) (at_any entries place x d inside stands ∙ ap (λ q. get_or entries q d) (sym at))

    its : worker ≡ w → IsBehind w entries (place + 1) (cond (nat_eq worker w) (place + 1) (old w))
    its e = subst (λ b. IsBehind w entries (place + 1) (cond b (place + 1) (old w))) (sym (same worker w e)) (record {
      passed = λ p d below above held. absurd (omega (arith, below, above));
      last = λ p d behind. let at : p ≡ place = omega (arith, behind) in (omega (arith, at), sym (here p d at) ∙ e);
    })

    others : (worker ≡ w → ⊥) → IsBehind w entries (place + 1) (cond (nat_eq worker w) (place + 1) (old w))
    others other = subst (λ b. IsBehind w entries (place + 1) (cond b (place + 1) (old w))) (sym (not_same worker w other)) (record {
      passed = λ p d below above held.
          ⊎_elim (λ low. (h w).passed p d low above held) (λ high. other (here p d (omega (arith, high, below)) ∙ held)) (cases_lt p place);
      last = λ p d behind. let before = (h w).last p d behind in let low = before.0 in (omega (arith, low), before.1);
    })

pub records_more : (kept : List Record) (n : ℕ) (behind after : List (Vec ℕ Global)) (r : Record) (v : Vec ℕ Global) → AreBehind kept behind n →
    AreBehindIn r.entries v.items (length r.entries) → n < length kept → r ≡ get_or kept n r → after ≡ behind ++ v ∷ [] → AreBehind kept after (n + 1)
records_more kept n behind after r v h here inside stands is = record {
  long = ap length is ∙ (length_push behind v ∙ ap (λ k. k + 1) h.long);
  each = λ k d e below.
      let P : ℕ → Vec ℕ Global → Type 0 = λ j u. AreBehindIn (get_or kept j d).entries u.items (length (get_or kept j d).entries) in
      subst (λ (us : List (Vec ℕ Global)). P k (get_or us k e)) (sym is)
      (at_push P behind v e n h.long (λ j. h.each j d e) (subst (λ (y : Record). AreBehindIn y.entries v.items (length y.entries)) (at_any kept n r d inside stands) here) k below);
}

-- ---- the next entry

-- where the first of a worker's entries stands
record IsHead (w : ℕ) (xs : List Entry) (at : ℕ) : Type 0 where
  below : at < length xs
  here : (d : Entry) → (get_or xs at d).worker ≡ w
  before : (q : ℕ) (d : Entry) → q < at → (get_or xs q d).worker ≡ w → ⊥

head_holds : (w n at : ℕ) (xs : List Entry) → IsHead w xs at → holds_of w n xs ≡ (n + at) ∷ holds_of w (n + at + 1) (drop (at + 1) xs)
head_holds w n at [] h = absurd (omega (arith, h.below))
head_holds w n zero (x ∷ xs) h =
    let e : n ≡ n + 0 = omega arith in
    ap (λ b. cond b (n ∷ []) [] ++ holds_of w (n + 1) xs) (same x.worker w (h.here x)) ∙ ap (λ m. m ∷ holds_of w (m + 1) xs) e
head_holds w n (suc at) (x ∷ xs) h =
    let other = not_same x.worker w (λ e. h.before 0 x (omega arith) e) in
    let e : n + 1 + at ≡ n + suc at = omega arith in
    let below = h.below in
    ap (λ b. cond b (n ∷ []) [] ++ holds_of w (n + 1) xs) other
    ∙ (head_holds w (n + 1) at xs (record { below = omega (arith, below); here = h.here; before = λ q d low. h.before (suc q) d (omega (arith, low)) })
    ∙ (ap (λ m. m ∷ holds_of w (m + 1) (drop (at + 1) xs)) e
    ∙ (let more : suc (at + 1) ≡ suc at + 1 = omega arith in ap (λ k. (n + suc at) ∷ holds_of w (n + suc at + 1) (drop k (x ∷ xs))) more)))

-- what stands first is a head
record HasHead (w n : ℕ) (xs : List Entry) (p : ℕ) : Type 0 where
  at : ℕ
  is : p ≡ n + at
  head : IsHead w xs at

holds_head : (w n p : ℕ) (xs : List Entry) (rest : List ℕ) → holds_of w n xs ≡ p ∷ rest → HasHead w n xs p
holds_head w n p [] rest h = absurd cc
holds_head w n p (x ∷ xs) rest h = by_worker (x.worker == w) refl h (holds_head w (n + 1) p xs rest)
  where
    by_worker : (b : Bool) → (x.worker == w) ≡ b → cond b (n ∷ []) [] ++ holds_of w (n + 1) xs ≡ p ∷ rest →
        (holds_of w (n + 1) xs ≡ p ∷ rest → HasHead w (n + 1) xs p) → HasHead w n (x ∷ xs) p
    by_worker true is all behind =
        let first : n ≡ p = cc in
        record { at = 0; is = omega (arith, first); head = record { below = omega arith; here = λ d. eqb-true x.worker w is; before = λ q d low. absurd (omega (arith, low)) } }
    by_worker false is all behind =
        let more = behind all in
        let on = more.is in
        let low = more.head.below in
        record {
          at = suc more.at;
          is = omega (arith, on);
          head = record { below = omega (arith, low); here = more.head.here; before = front more.head };
        }
      where
        front : {at : ℕ} → IsHead w xs at → (q : ℕ) (d : Entry) → q < suc at → (get_or (x ∷ xs) q d).worker ≡ w → ⊥
        front head zero d under held = let no : true ≡ false = sym (same x.worker w held) ∙ is in absurd cc
        front head (suc q) d under held = head.before q d (omega (arith, under)) held

next_there : (entries : List Entry) (w from at place : ℕ) → place ≡ from + at → IsHead w (drop from entries) at → IsNext w entries from place
next_there entries w from at place is head =
    let low = head.below in
    let long = length-drop from entries in
    let after : from + (at + 1) ≡ place + 1 = omega (arith, is) in
    record {
      below = omega (arith, low, long, is);
      holds = head_holds w from at (drop from entries) head
          ∙ (ap (λ xs. (from + at) ∷ holds_of w (from + at + 1) xs) (drop-drop (at + 1) from entries ∙ ap (λ m. drop m entries) after)
          ∙ ap (λ m. m ∷ holds_of w (m + 1) (drop (place + 1) entries)) (sym is));
    }

-- what stands first of a worker's entries from a place on is the next
pub first_next : (entries : List Entry) (w from place : ℕ) (rest : List ℕ) → holds_from w entries from ≡ place ∷ rest → IsNext w entries from place
first_next entries w from place rest h = let front = holds_head w from place (drop from entries) rest h in next_there entries w from front.at place front.is front.head

-- an entry of the worker before which none of it is left is the next
pub next_from : (entries : List Entry) (behind : List ℕ) (w from place : ℕ) (x : Entry) → AreBehindIn entries behind (length entries) → place < length entries →
    x ≡ get_or entries place x → x.worker ≡ w → from ≤ place → get_or behind place 0 ≤ from → IsNext w entries from place
next_from entries behind w from place x h inside stands is low old =
    let at : from + (place - from) ≡ place = omega (arith, low) in
    let long = length-drop from entries in
    let mine = h.each place x inside in
    let head : IsHead w (drop from entries) (place - from) = record {
      below = omega (arith, long, inside, low);
      here = λ d. ap (λ (y : Entry). y.worker) (get_or-drop from entries (place - from) d ∙ (ap (λ q. get_or entries q d) at ∙ sym (at_any entries place x d inside stands))) ∙ is;
      before = λ q d under held.
          mine.passed (from + q) d (omega (arith, under, low)) (omega (arith, old))
          (ap (λ (y : Entry). y.worker) (sym (get_or-drop from entries q d)) ∙ (held ∙ (sym is ∙ ap (λ (y : Entry). y.worker) stands)));
    } in
    next_there entries w from (place - from) place (sym at) head

pub record Tells (behind : List ℕ) (w from place : ℕ) (x : Entry) : Type 0 where
  pub worker : x.worker ≡ w
  pub low : from ≤ place
  pub old : get_or behind place 0 ≤ from

pub next_tells : (entries : List Entry) (behind : List ℕ) (w from place : ℕ) (x : Entry) → AreBehindIn entries behind (length entries) →
    x ≡ get_or entries place x → IsNext w entries from place → Tells behind w from place x
next_tells entries behind w from place x h stands next =
    let front = holds_head w from place (drop from entries) (holds_from w entries (place + 1)) next.holds in
    let at = front.is in
    let here : x.worker ≡ w =
    ap (λ (y : Entry). y.worker) (stands ∙ (ap (λ q. get_or entries q x) at ∙ sym (get_or-drop from entries front.at x))) ∙ front.head.here x in
    let mine = h.each place x next.below in
    let b : ℕ = get_or behind place 0 in
    record {
      worker = here;
      low = omega (arith, at);
      old = ⊎_elim
          (λ late.
          let before : b ≡ b - 1 + 1 = omega (arith, late) in
          let there : from + (b - 1 - from) ≡ b - 1 = omega (arith, late) in
          let last = mine.last (b - 1) x before in
          let under = last.0 in
          absurd (front.head.before (b - 1 - from) x (omega (arith, under, at, late))
          (ap (λ (y : Entry). y.worker) (get_or-drop from entries (b - 1 - from) x ∙ ap (λ q. get_or entries q x) there) ∙ (last.1 ∙ (ap (λ (y : Entry). y.worker) (sym stands) ∙ here)))))
          (λ early. early)
          (cases_lt from b);
    }
