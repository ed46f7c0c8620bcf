-- An index of links' ends, and one of the numbers that nodes gave, against a walk.
use Rattle.std.proofs.Common.{◌≡◌, ℕ, ◌+◌, ◌<◌, ◌==◌, ◌&&◌, ◌||◌, zero, suc, nat_eq, Bool, true, false, cond, List, [], ◌∷◌, ◌++◌, length, take, get_or, slice_get, Option, Some, None, is_some, refl, sym, ap, ◌∙◌, subst, arith, ⊎_elim, eqb-true}
use Rattle.std.specs.Option.{option_or}
use Rattle.std.proofs.lemmas.Bool.{and_from, and_parts, cases_eq, eq-eqb, false≢true, ne_eqb}
use Rattle.std.proofs.lemmas.List.{length-take, take_more}
use Rattle.std.proofs.lemmas.Option.{slice_get_past}
use Rattle.hsr_node.specs.Kept.{Record}
use Rattle.hsr_node.specs.declared.entry.Entry.{Entry}
use Rattle.hsr_node.specs.declared.event.Probe.{Probe}
use Rattle.hsr_run_laws.specs.Run.{gives, joined_by, peer_in}
use Rattle.hsr_run_laws.proofs.Same.{probes_same}
use Rattle.hsr_topology.specs.Links.{is_end_of, is_same_end, is_used}
use Rattle.hsr_topology.specs.declared.end.End.{End}
use Rattle.hsr_run_index.specs.Indexed.{given_where, gives_to}
use Rattle.hsr_run_index.specs.Origin.{given_in, given_of}

-- ---- the first of several

or_none : {X : Type 0} (o : Option X) → option_or o None ≡ o
or_none None = refl
or_none (Some x) = refl

or_false : (b : Bool) → (b || false) ≡ b
or_false true = refl
or_false false = refl

or_turned : {X : Type 0} (a b c : Option X) → option_or (option_or a b) c ≡ option_or a (option_or b c)
or_turned None b c = refl
or_turned (Some x) b c = refl

-- what is there stays
stays : {X : Type 0} (o : Option X) (v : X) (b : Bool) → (b ≡ true → is_some o ≡ true) → o ≡ option_or o (cond b (Some v) None)
stays (Some x) v b h = refl
stays None v true h = absurd (false≢true (h refl))
stays None v false h = refl

-- what isn't there is put
put : {X : Type 0} (o : Option X) (v : X) (b : Bool) → (b ≡ true → is_some o ≡ false) → cond b (Some v) o ≡ option_or o (cond b (Some v) None)
put (Some x) v true h = absurd (false≢true (sym (h refl)))
put (Some x) v false h = refl
put None v true h = refl
put None v false h = refl

-- ---- ends

ends_same : (a b : End) → a.node ≡ b.node → a.port ≡ b.port → a ≡ b
ends_same a b node port = λ i. record { node = node i; port = port i }

end_is : (a b : End) → is_same_end a b ≡ true → a ≡ b
end_is a b h = let parts = and_parts (a.node == b.node) (a.port == b.port) h in ends_same a b (eqb-true a.node b.node parts.0) (eqb-true a.port b.port parts.1)

pub peer_stays : (old : End → Option End) (end other : End) → is_some (old end) ≡ true → (e : End) → old e ≡ option_or (old e) (cond (is_same_end end e) (Some other) None)
peer_stays old end other there e = stays (old e) other (is_same_end end e) (λ same. ap (λ x. is_some (old x)) (sym (end_is end e same)) ∙ there)

pub peer_put : (old new : End → Option End) (end other : End) → is_some (old end) ≡ false → ((e : End) → new e ≡ cond (is_same_end end e) (Some other) (old e)) →
    (e : End) → new e ≡ option_or (old e) (cond (is_same_end end e) (Some other) None)
peer_put old new end other none after e = after e ∙ put (old e) other (is_same_end end e) (λ same. ap (λ x. is_some (old x)) (sym (end_is end e same)) ∙ none)

pub both_ends : (e a b : End) (o : Option End) →
    option_or (option_or o (cond (is_same_end a e) (Some b) None)) (cond (is_same_end b e) (Some a) None) ≡ option_or o (joined_by e (a ∷ b ∷ []))
both_ends e a b o = or_turned o (cond (is_same_end a e) (Some b) None) (cond (is_same_end b e) (Some a) None) ∙ ap (option_or o) (by_first (is_same_end a e))
  where
    by_first : (x : Bool) → option_or (cond x (Some b) None) (cond (is_same_end b e) (Some a) None) ≡ cond x (Some b) (cond (is_same_end b e) (Some a) None)
    by_first true = refl
    by_first false = refl

peer_last : (e : End) (links : List (List End)) (link : List End) → peer_in e (links ++ link ∷ []) ≡ option_or (peer_in e links) (joined_by e link)
peer_last e [] link = or_none (joined_by e link)
peer_last e (l ∷ links) link = ap (option_or (joined_by e l)) (peer_last e links link) ∙ sym (or_turned (joined_by e l) (peer_in e links) (joined_by e link))

pub peers_more : (links : List (List End)) (i : ℕ) (d : List End) (e : End) → i < length links →
    peer_in e (take (i + 1) links) ≡ option_or (peer_in e (take i links)) (joined_by e (get_or links i d))
peers_more links i d e below = ap (peer_in e) (take_more links i d below) ∙ peer_last e (take i links) (get_or links i d)

-- an end is used where it is joined with another
ends_turned : (a b : End) → is_same_end a b ≡ is_same_end b a
ends_turned a b = by_first (is_same_end a b) (is_same_end b a) refl refl
  where
    itself : (x y : End) → x ≡ y → is_same_end x y ≡ true
    itself x y is = and_from (x.node == y.node) (x.port == y.port) (eq-eqb x.node y.node (ap (λ (e : End). e.node) is)) (eq-eqb x.port y.port (ap (λ (e : End). e.port) is))

    by_first : (x y : Bool) → is_same_end a b ≡ x → is_same_end b a ≡ y → x ≡ y
    by_first true true one other = refl
    by_first false false one other = refl
    by_first true false one other = absurd (false≢true (sym other ∙ itself b a (sym (end_is a b one))))
    by_first false true one other = absurd (false≢true (sym one ∙ itself a b (sym (end_is b a other))))

both_used : (e a b : End) (o : Option End) → is_some (option_or o (joined_by e (a ∷ b ∷ []))) ≡ (is_some o || is_end_of e (a ∷ b ∷ []))
both_used e a b (Some x) = refl
both_used e a b None =
    by_first (is_same_end a e) (is_same_end b e)
    ∙ (ap (λ x. x || (is_same_end b e || false)) (ends_turned a e) ∙ ap (λ x. is_same_end e a || (x || false)) (ends_turned b e))
  where
    by_first : (x y : Bool) → is_some (cond x (Some b) (cond y (Some a) None)) ≡ (x || (y || false))
    by_first true y = refl
    by_first false true = refl
    by_first false false = refl

pub both_joined : (e a b : End) (o : Option End) →
    is_some (option_or (option_or o (cond (is_same_end a e) (Some b) None)) (cond (is_same_end b e) (Some a) None)) ≡ (is_some o || is_end_of e (a ∷ b ∷ []))
both_joined e a b o = ap is_some (both_ends e a b o) ∙ both_used e a b o

used_last : (e : End) (links : List (List End)) (link : List End) → is_used (links ++ link ∷ []) e ≡ (is_used links e || is_end_of e link)
used_last e [] link = or_false (is_end_of e link)
used_last e (l ∷ links) link = by_first (is_end_of e l) (used_last e links link)
  where
    by_first : (b : Bool) → is_used (links ++ link ∷ []) e ≡ (is_used links e || is_end_of e link) → (b || is_used (links ++ link ∷ []) e) ≡ ((b || is_used links e) || is_end_of e link)
    by_first true rest = refl
    by_first false rest = rest

pub used_more : (links : List (List End)) (i : ℕ) (d : List End) (e : End) → i < length links →
    is_used (take (i + 1) links) e ≡ (is_used (take i links) e || is_end_of e (get_or links i d))
used_more links i d e below = ap (λ xs. is_used xs e) (take_more links i d below) ∙ used_last e (take i links) (get_or links i d)

-- ---- numbers

same_at : (old : ℕ → Probe → Option ℕ) (node : ℕ) (send : Probe) (k : ℕ) (p : Probe) →
    ((nat_eq node k && nat_eq send.node p.node) && nat_eq send.place p.place) ≡ true → old node send ≡ old k p
same_at old node send k p same =
    let parts = and_parts (nat_eq node k && nat_eq send.node p.node) (nat_eq send.place p.place) same in
    let first = and_parts (nat_eq node k) (nat_eq send.node p.node) parts.0 in
    ap (λ n. old n send) (eqb-true node k first.0) ∙ ap (old k) (probes_same send p (eqb-true send.node p.node first.1) (eqb-true send.place p.place parts.1))

pub number_stays : (old : ℕ → Probe → Option ℕ) (node seq : ℕ) (send : Probe) → is_some (old node send) ≡ true →
    (k : ℕ) (p : Probe) → old k p ≡ option_or (old k p) (cond ((nat_eq node k && nat_eq send.node p.node) && nat_eq send.place p.place) (Some seq) None)
number_stays old node seq send there k p =
    stays (old k p) seq ((nat_eq node k && nat_eq send.node p.node) && nat_eq send.place p.place) (λ same. sym (ap is_some (same_at old node send k p same)) ∙ there)

pub number_put : (old new : ℕ → Probe → Option ℕ) (node seq : ℕ) (send : Probe) → is_some (old node send) ≡ false →
    ((k : ℕ) (p : Probe) → new k p ≡ cond ((nat_eq node k && nat_eq send.node p.node) && nat_eq send.place p.place) (Some seq) (old k p)) →
    (k : ℕ) (p : Probe) → new k p ≡ option_or (old k p) (cond ((nat_eq node k && nat_eq send.node p.node) && nat_eq send.place p.place) (Some seq) None)
number_put old new node seq send none after k p =
    after k p ∙ put (old k p) seq ((nat_eq node k && nat_eq send.node p.node) && nat_eq send.place p.place) (λ same. sym (ap is_some (same_at old node send k p same)) ∙ none)

-- an entry that gave no number, and one that gave one
pub gave_none : (o given : Option ℕ) (b : Bool) → None ≡ given → o ≡ option_or o (cond b given None)
gave_none o given true is = sym (ap (option_or o) (sym is) ∙ or_none o)
gave_none o given false is = sym (or_none o)

pub gave_one : (o given : Option ℕ) (node k seq : ℕ) (send p : Probe) → gives_to p (Some (send, seq)) ≡ given →
    option_or o (cond ((nat_eq node k && nat_eq send.node p.node) && nat_eq send.place p.place) (Some seq) None) ≡ option_or o (cond (node == k) given None)
gave_one o given node k seq send p is = by_node (node == k)
  where
    by_node : (b : Bool) → option_or o (cond ((b && nat_eq send.node p.node) && nat_eq send.place p.place) (Some seq) None) ≡ option_or o (cond b given None)
    by_node true = ap (option_or o) is
    by_node false = refl

given_last : (p : Probe) (entries : List Entry) (x : Entry) → given_in p (entries ++ x ∷ []) ≡ option_or (given_in p entries) (gives p x.event x.outcome)
given_last p [] x = or_none (gives p x.event x.outcome)
given_last p (y ∷ entries) x = ap (option_or (gives p y.event y.outcome)) (given_last p entries x) ∙ sym (or_turned (gives p y.event y.outcome) (given_in p entries) (gives p x.event x.outcome))

pub given_start : (o : Option ℕ) (node k : ℕ) (p : Probe) → o ≡ option_or o (given_where node k p [])
given_start o node k p = by_node (node == k)
  where
    by_node : (b : Bool) → o ≡ option_or o (cond b None None)
    by_node true = sym (or_none o)
    by_node false = sym (or_none o)

pub given_more : (entries : List Entry) (i : ℕ) (d : Entry) (o : Option ℕ) (node k : ℕ) (p : Probe) → i < length entries →
    option_or (option_or o (given_where node k p (take i entries))) (cond (node == k) (gives p (get_or entries i d).event (get_or entries i d).outcome) None)
    ≡ option_or o (given_where node k p (take (i + 1) entries))
given_more entries i d o node k p below =
    or_turned o (given_where node k p (take i entries)) (cond (node == k) (gives p (get_or entries i d).event (get_or entries i d).outcome) None)
    ∙ ap (option_or o) (by_node (node == k))
  where
    by_node : (b : Bool) → option_or (cond b (given_in p (take i entries)) None) (cond b (gives p (get_or entries i d).event (get_or entries i d).outcome) None)
        ≡ cond b (given_in p (take (i + 1) entries)) None
    by_node true = sym (ap (given_in p) (take_more entries i d below) ∙ given_last p (take i entries) (get_or entries i d))
    by_node false = refl

get_before : {X : Type 0} (xs : List X) (x : X) (i : ℕ) → (length xs ≡ i → ⊥) → slice_get (xs ++ x ∷ []) i ≡ slice_get xs i
get_before [] x zero other = absurd (other refl)
get_before [] x (suc i) other = refl
get_before (y ∷ xs) x zero other = refl
get_before (y ∷ xs) x (suc i) other = get_before xs x i (λ same. other (ap suc same))

get_last : {X : Type 0} (xs : List X) (x : X) → slice_get (xs ++ x ∷ []) (length xs) ≡ Some x
get_last [] x = refl
get_last (y ∷ xs) x = get_last xs x

node_put : (p : Probe) (done : List Record) (r : Record) (k : ℕ) →
    option_or (given_of p (slice_get done k)) (given_where (length done) k p r.entries) ≡ given_of p (slice_get (done ++ r ∷ []) k)
node_put p done r k = ⊎_elim here there (cases_eq (length done) k)
  where
    here : length done ≡ k → option_or (given_of p (slice_get done k)) (given_where (length done) k p r.entries) ≡ given_of p (slice_get (done ++ r ∷ []) k)
    here is =
        let at : slice_get (done ++ r ∷ []) k ≡ Some r = subst (λ n. slice_get (done ++ r ∷ []) n ≡ Some r) is (get_last done r) in
        let none : slice_get done k ≡ None = slice_get_past done k (omega (arith, is)) in
        ap (λ o. option_or (given_of p o) (given_where (length done) k p r.entries)) none
        ∙ (ap (λ b. cond b (given_in p r.entries) None) (eq-eqb (length done) k is) ∙ sym (ap (given_of p) at))

    there : (length done ≡ k → ⊥) → option_or (given_of p (slice_get done k)) (given_where (length done) k p r.entries) ≡ given_of p (slice_get (done ++ r ∷ []) k)
    there other =
        ap (λ b. option_or (given_of p (slice_get done k)) (cond b (given_in p r.entries) None)) (ne_eqb (length done) k other)
        ∙ (or_none (given_of p (slice_get done k)) ∙ sym (ap (given_of p) (get_before done r k other)))

pub nodes_more : (kept : List Record) (n : ℕ) (d : Record) (k : ℕ) (p : Probe) → n < length kept →
    option_or (given_of p (slice_get (take n kept) k)) (given_where n k p (get_or kept n d).entries) ≡ given_of p (slice_get (take (n + 1) kept) k)
nodes_more kept n d k p below =
    let long : length (take n kept) ≡ n = let e = length-take n kept in omega (arith, e, below) in
    let P : ℕ → Type 0 = λ m. option_or (given_of p (slice_get (take n kept) k)) (given_where m k p (get_or kept n d).entries) ≡ given_of p (slice_get (take n kept ++ get_or kept n d ∷ []) k) in
    subst P long (node_put p (take n kept) (get_or kept n d) k) ∙ sym (ap (λ xs. given_of p (slice_get xs k)) (take_more kept n d below))
