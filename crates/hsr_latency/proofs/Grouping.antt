-- Groups of sends, and the greatest of each group's delays, one more at a time.
use Rattle.std.proofs.Common.{◌≡◌, ◌∙◌, ℕ, ◌+◌, ◌<◌, ◌≤◌, Bool, true, false, cond, List, [], ◌∷◌, length, reverse, set, take, get_or, Option, Some, None, option_map, refl, sym, ap, subst, arith}
use Rattle.std.specs.Prelude.{filter, find, fold, nat_eq, slice_get, if◌then◌else◌}
use Rattle.std.proofs.lemmas.Bool.{eq-eqb, eqb-true, false≢true, ne_eqb}
use Rattle.std.proofs.lemmas.Grind.{get_or-set_at}
use Rattle.std.proofs.lemmas.List.{get_or-set_other, length-set, reverse-append, take_more}
use Rattle.std.proofs.lemmas.List.Elements.{filter-append}
use Rattle.std.proofs.lemmas.List.Sums.{fold-append}
use Rattle.std.proofs.lemmas.Option.{get_or_from_slice_get, same_Some, slice_get-get_or, slice_get_within}
use Rattle.hsr_node.specs.declared.event.Probe.{Probe}
use Rattle.hsr_latency.specs.Kept.{greater}
use Rattle.hsr_latency.specs.Taken.{AreKept, AreLongest, Keeps, group_of, is_group, is_in, is_send, number_of}
use Rattle.hsr_latency.specs.declared.delay.Delay.{Delay}
use Rattle.hsr_latency.specs.declared.grouped.Member.{Member}
use Rattle.hsr_latency.proofs.Walks.{greatest_is}

found : (m : Member) (rest : Option Member) (is : Bool) → option_map number_of (cond is (Some m) rest) ≡ cond is (Some m.group) (option_map number_of rest)
found m rest true = refl
found m rest false = refl

-- one member more
pub group_more : (members : List Member) (i : ℕ) (d : Member) (send : Probe) → i < length members
    → group_of (take (i + 1) members) send ≡ (if is_send send (get_or members i d) then Some (get_or members i d).group else group_of (take i members) send)
group_more members i d send low =
    let m = get_or members i d in
    ap (λ ms. group_of ms send) (take_more members i d low) ∙ ap (λ ms. option_map number_of (find (is_send send) ms)) (reverse-append (take i members) (m ∷ []))
    ∙ found m (find (is_send send) (reverse (take i members))) (is_send send m)

-- ---- one delay more

-- it is kept at its group
pub kept_at : (i : ℕ) (delay : Delay) (old : List (Option Delay)) (d now : Option Delay) → i < length old → now ≡ greater (get_or old i d) delay
    → Keeps (Some i) delay old (set old i now)
kept_at i delay old d now low is = record { long = length-set old i now; each = λ g most here. at g most here (nat_eq i g) refl }
  where
    at : (g : ℕ) (most : Option Delay) → slice_get old g ≡ Some most → (b : Bool) → nat_eq i g ≡ b → slice_get (set old i now) g ≡ Some (if nat_eq i g then greater most delay else most)
    at g most here true is_i =
        let same : g ≡ i = sym (eqb-true i g is_i) in
        let own : get_or old i d ≡ most = ap (λ k. get_or old k d) (sym same) ∙ get_or_from_slice_get old g most d here in
        let long = length-set old i now in
        let inside : g < length (set old i now) = omega (arith, same, low, long) in
        slice_get-get_or (set old i now) g now inside ∙ ap Some (get_or-set_at old i g now now same low ∙ is ∙ ap (λ o. greater o delay) own
        ∙ ap (λ b. if b then greater most delay else most) (sym is_i))
    at g most here false is_other =
        let within = slice_get_within old g most here in
        let long = length-set old i now in
        let inside : g < length (set old i now) = omega (arith, within, long) in
        slice_get-get_or (set old i now) g most inside ∙ ap Some (get_or-set_other old i g now most (λ same. false≢true (sym is_other ∙ eq-eqb i g (sym same))) ∙ get_or_from_slice_get old g most most here
        ∙ ap (λ b. if b then greater most delay else most) (sym is_other))

-- no group has that number
pub kept_nowhere : (i : ℕ) (delay : Delay) (old : List (Option Delay)) → length old ≤ i → Keeps (Some i) delay old old
kept_nowhere i delay old high = record {
  long = refl;
  each = λ g most here.
      let inside = slice_get_within old g most here in
      here ∙ ap (λ b. Some (if b then greater most delay else most)) (sym (ne_eqb i g (λ same. omega (arith, same, inside, high))));
}

kept_if : (most : Option Delay) (delay : Delay) (is : Bool) → fold greater most (cond is (delay ∷ []) []) ≡ cond is (greater most delay) most
kept_if most delay true = refl
kept_if most delay false = refl

pub kept_more : (group : Probe → Option ℕ) (delays : List Delay) (i : ℕ) (d : Delay) (old new : List (Option Delay)) → i < length delays
    → Keeps (group (get_or delays i d).send) (get_or delays i d) old new → AreKept group (take i delays) old → AreKept group (take (i + 1) delays) new
kept_more group delays i d old new low keeps are g most here =
    sym (same_Some _ _ (sym (keeps.each g before was) ∙ here)) ∙ ap (λ o. cond (is_group g (group delay.send)) (greater o delay) o) (are g before was) ∙ sym grown
  where
    delay : Delay
    delay = get_or delays i d

    before : Option Delay
    before = get_or old g None

    was : slice_get old g ≡ Some before
    was = slice_get-get_or old g None (let inside = slice_get_within new g most here in omega (arith, inside, keeps.long))

    so_far : Option Delay
    so_far = fold greater None (filter (is_in group g) (take i delays))

    grown : fold greater None (filter (is_in group g) (take (i + 1) delays)) ≡ cond (is_group g (group delay.send)) (greater so_far delay) so_far
    grown =
        ap (λ ds. fold greater None (filter (is_in group g) ds)) (take_more delays i d low)
        ∙ ap (fold greater None) (filter-append (is_in group g) (take i delays) (delay ∷ []))
        ∙ fold-append greater None (filter (is_in group g) (take i delays)) (filter (is_in group g) (delay ∷ []))
        ∙ kept_if so_far delay (is_group g (group delay.send))

-- what is kept of all is the longest
pub longest_kept : (group : Probe → Option ℕ) (delays : List Delay) (groups : ℕ) (list : List (Option Delay)) → length list ≡ groups → AreKept group delays list
    → AreLongest group delays groups list
longest_kept group delays groups list many are = record { many = many; each = λ g most here. are g most here ∙ greatest_is (filter (is_in group g) delays) }

-- groups that are the same of each send are the same
pub longest_by_same : (one other : Probe → Option ℕ) (delays : List Delay) (groups : ℕ) (list : List (Option Delay)) → ((send : Probe) → one send ≡ other send)
    → AreLongest one delays groups list → AreLongest other delays groups list
longest_by_same one other delays groups list same are =
    let path : ◌≡◌ {A = Probe → Option ℕ} one other = λ i. λ (send : Probe). same send i in
    subst (λ group. AreLongest group delays groups list) path are
