-- The list of what is cut off, group by group.
use Rattle.std.proofs.Common.{◌≡◌, ℕ, ◌+◌, ◌<◌, ◌≤◌, ◌==◌, not, true, false, List, [], ◌∷◌, ◌++◌, length, slice_index_or, refl, sym, ap, ◌∙◌, subst, arith, ⊎_elim, eq-eqb, eqb-true}
use Rattle.std.specs.Prelude.{count_by}
use Rattle.std.proofs.lemmas.Bool.{and_from, and_parts, cases_lt, false≢true}
use Rattle.std.proofs.lemmas.List.{get_or-map, length-map}
use Rattle.hsr_faults.specs.CutOff.{AreCuts, IsCut, IsListed, Told, is_cut, is_of}
use Rattle.hsr_faults.specs.Groups.{is_number}
use Rattle.hsr_faults.specs.Lines.{AreCutsBelow, AreLined, IsLineOf, told_at, told_of}
use Rattle.hsr_faults.specs.declared.groups.Group.{Group}
use Rattle.hsr_faults.specs.declared.nodes.Nodes.{Nodes}
use Rattle.hsr_faults.specs.declared.outage.Cut.{Cut}
use Rattle.hsr_faults.proofs.Counting.{count_le, count_map}
use Rattle.hsr_faults.proofs.Pushed.{at_before, at_last, each_more, length_more}

pub cuts_start : (groups : List Group) (of : List ℕ) (missed : List Nodes) → AreCutsBelow groups of missed 0 []
cuts_start groups of missed = record {
  each = λ r d low. absurd (omega (arith, low));
  all = λ x low. absurd (omega (arith, low));
  once = λ q r c d low. absurd (omega (arith, low));
  from = λ r d low. absurd (omega (arith, low));
  order = λ q r c d x up low. absurd (omega (arith, low));
}

-- a line of a group before one is of a group before a later one
later : (groups : List Group) (missed : List Nodes) (cut : Cut) (m n : ℕ) → m ≤ n → IsLineOf groups missed cut m → IsLineOf groups missed cut n
later groups missed cut m n up line = let low = line.below in record { group = line.group; below = omega (arith, low, up); is = line.is }

module _ (groups : List Group) (of counts : List ℕ) (missed : List Nodes) (lined : AreLined groups of counts missed) (j : ℕ) (inside : j < length groups) (cuts : List Cut) (below : AreCutsBelow groups of missed j cuts) where
  -- the sends of the group are cut off from nobody
  pub cuts_none : is_cut (told_at groups missed j) ≡ false → AreCutsBelow groups of missed (j + 1) cuts
  cuts_none none = record {
    each = below.each;
    all = λ x low cut. ⊎_elim
        (λ lower. below.all x lower cut)
        (λ high. let same : x ≡ j = omega (arith, low, high) in absurd (false≢true (sym none ∙ (sym (ap (λ y. is_cut (told_at groups missed y)) same) ∙ cut))))
        (cases_lt x j);
    once = below.once;
    from = λ r d low. later groups missed (slice_index_or cuts r d) j (j + 1) (omega arith) (below.from r d low);
    order = below.order;
  }

  -- they are listed
  pub cuts_listed : IsListed cuts (told_at groups missed j).sender (told_at groups missed j).nodes → AreCutsBelow groups of missed (j + 1) cuts
  cuts_listed listed = record {
    each = below.each;
    all = λ x low cut. ⊎_elim
        (λ lower. below.all x lower cut)
        (λ high. let same : j ≡ x = omega (arith, low, high) in subst (λ y. IsListed cuts (told_at groups missed y).sender (told_at groups missed y).nodes) same listed)
        (cases_lt x j);
    once = below.once;
    from = λ r d low. later groups missed (slice_index_or cuts r d) j (j + 1) (omega arith) (below.from r d low);
    order = below.order;
  }

  -- they are put last
  module _ (all : List Cut) (cut : Cut) (pushed : all ≡ cuts ++ cut ∷ []) (sender : cut.sender ≡ (told_at groups missed j).sender) (nodes : cut.nodes.bits ≡ (told_at groups missed j).nodes)
      (is : is_cut (told_at groups missed j) ≡ true) (sends : cut.sends ≡ count_by (is_of cut.sender cut.nodes.bits) (told_of groups missed of)) (new : IsListed cuts cut.sender cut.nodes.bits → ⊥) where
    old_at : (q : ℕ) (d : Cut) → q < length cuts → slice_index_or all q d ≡ slice_index_or cuts q d
    old_at q d low = ap (λ (xs : List Cut). slice_index_or xs q d) pushed ∙ at_before cuts (cut ∷ []) q d low

    last_at : (q : ℕ) (d : Cut) → q ≡ length cuts → slice_index_or all q d ≡ cut
    last_at q d end = ap (λ (xs : List Cut). slice_index_or xs q d) pushed ∙ (ap (λ k. slice_index_or (cuts ++ cut ∷ []) k d) end ∙ at_last cuts cut d)

    long : length all ≡ length cuts + 1
    long = length_more cuts all cut (length cuts) pushed refl

    mine : IsCut (told_of groups missed of) cut
    mine = record {
      some = λ none. false≢true (sym (ap not (eq-eqb ((told_at groups missed j).nodes) 0 (sym nodes ∙ none))) ∙ is);
      sends = sends;
      sent =
          let some = lined.some j inside in
          let more = count_le (is_number j) (λ x. is_of cut.sender cut.nodes.bits (told_at groups missed x)) of_it of in
          let at = count_map (is_of cut.sender cut.nodes.bits) (told_at groups missed) of in
          omega (arith, some, more, at, sends);
    }
      where
        of_it : (x : ℕ) → is_number j x ≡ true → is_of cut.sender cut.nodes.bits (told_at groups missed x) ≡ true
        of_it x number =
            let same : x ≡ j = eqb-true x j number in
            ap (λ y. is_of cut.sender cut.nodes.bits (told_at groups missed y)) same
            ∙ and_from ((told_at groups missed j).sender == cut.sender) ((told_at groups missed j).nodes == cut.nodes.bits) (eq-eqb ((told_at groups missed j).sender) cut.sender (sym sender)) (eq-eqb ((told_at groups missed j).nodes) cut.nodes.bits (sym nodes))

    listed_still : (node from : ℕ) → IsListed cuts node from → IsListed all node from
    listed_still node from l =
        let low = l.below in
        record {
          at = l.at;
          below = omega (arith, low, long);
          sender = λ d. ap (λ (x : Cut). x.sender) (old_at l.at d l.below) ∙ l.sender d;
          nodes = λ d. ap (λ (x : Cut). x.nodes.bits) (old_at l.at d l.below) ∙ l.nodes d;
        }

    listed_last : IsListed all (told_at groups missed j).sender (told_at groups missed j).nodes
    listed_last = record {
      at = length cuts;
      below = omega (arith, long);
      sender = λ d. ap (λ (x : Cut). x.sender) (last_at (length cuts) d refl) ∙ sender;
      nodes = λ d. ap (λ (x : Cut). x.nodes.bits) (last_at (length cuts) d refl) ∙ nodes;
    }

    -- one that was listed isn't the one that is put last
    not_new : (q : ℕ) (c : Cut) → q < length cuts → (slice_index_or cuts q c).sender ≡ cut.sender → (slice_index_or cuts q c).nodes ≡ cut.nodes → ⊥
    not_new q c low sender_same nodes_same = new (record {
      at = q;
      below = low;
      sender = λ d. ap (λ (x : Cut). x.sender) (Rattle.std.proofs.lemmas.List.get_or_default cuts q d c low) ∙ sender_same;
      nodes = λ d. ap (λ (x : Cut). x.nodes.bits) (Rattle.std.proofs.lemmas.List.get_or_default cuts q d c low) ∙ ap (λ (x : Nodes). x.bits) nodes_same;
    })

    once_more : (q r : ℕ) (c d : Cut) → q < length all → r < length all → (slice_index_or all q c).sender ≡ (slice_index_or all r d).sender → (slice_index_or all q c).nodes ≡ (slice_index_or all r d).nodes → q ≡ r
    once_more q r c d q_low r_low same_sender same_nodes = ⊎_elim
        (λ q_lower. ⊎_elim
        (λ r_lower. below.once q r c d q_lower r_lower
        (sym (ap (λ (x : Cut). x.sender) (old_at q c q_lower)) ∙ (same_sender ∙ ap (λ (x : Cut). x.sender) (old_at r d r_lower)))
        (sym (ap (λ (x : Cut). x.nodes) (old_at q c q_lower)) ∙ (same_nodes ∙ ap (λ (x : Cut). x.nodes) (old_at r d r_lower))))
        (λ r_high.
        let end : r ≡ length cuts = omega (arith, r_low, r_high, long) in
        absurd (not_new q c q_lower
        (sym (ap (λ (x : Cut). x.sender) (old_at q c q_lower)) ∙ (same_sender ∙ ap (λ (x : Cut). x.sender) (last_at r d end)))
        (sym (ap (λ (x : Cut). x.nodes) (old_at q c q_lower)) ∙ (same_nodes ∙ ap (λ (x : Cut). x.nodes) (last_at r d end)))))
        (cases_lt r (length cuts)))
        (λ q_high.
        let q_end : q ≡ length cuts = omega (arith, q_low, q_high, long) in
        ⊎_elim
        (λ r_lower. absurd (not_new r d r_lower
        (sym (ap (λ (x : Cut). x.sender) (old_at r d r_lower)) ∙ (sym same_sender ∙ ap (λ (x : Cut). x.sender) (last_at q c q_end)))
        (sym (ap (λ (x : Cut). x.nodes) (old_at r d r_lower)) ∙ (sym same_nodes ∙ ap (λ (x : Cut). x.nodes) (last_at q c q_end)))))
        (λ r_high. omega (arith, q_end, r_low, r_high, long))
        (cases_lt r (length cuts)))
        (cases_lt q (length cuts))

    mine_line : is_of cut.sender cut.nodes.bits (told_at groups missed j) ≡ true
    mine_line = and_from ((told_at groups missed j).sender == cut.sender) ((told_at groups missed j).nodes == cut.nodes.bits) (eq-eqb ((told_at groups missed j).sender) cut.sender (sym sender)) (eq-eqb ((told_at groups missed j).nodes) cut.nodes.bits (sym nodes))

    -- no group before has such sends, or they would be listed
    not_before : (x : ℕ) → is_of cut.sender cut.nodes.bits (told_at groups missed x) ≡ true → x < j → ⊥
    not_before x same low =
        let parts = and_parts ((told_at groups missed x).sender == cut.sender) ((told_at groups missed x).nodes == cut.nodes.bits) same in
        let its_sender = eqb-true ((told_at groups missed x).sender) cut.sender parts.0 in
        let its_nodes = eqb-true ((told_at groups missed x).nodes) cut.nodes.bits parts.1 in
        let cut_off : is_cut (told_at groups missed x) ≡ true = ap (λ (n : ℕ). not (n == 0)) (its_nodes ∙ nodes) ∙ is in
        let l = below.all x low cut_off in
        new (record { at = l.at; below = l.below; sender = λ d. l.sender d ∙ its_sender; nodes = λ d. l.nodes d ∙ its_nodes })

    from_more : (r : ℕ) (d : Cut) → r < length all → IsLineOf groups missed (slice_index_or all r d) (j + 1)
    from_more r d low = ⊎_elim
        (λ lower. subst (λ (x : Cut). IsLineOf groups missed x (j + 1)) (sym (old_at r d lower)) (later groups missed (slice_index_or cuts r d) j (j + 1) (omega arith) (below.from r d lower)))
        (λ high.
        let end : r ≡ length cuts = omega (arith, low, high, long) in
        subst (λ (x : Cut). IsLineOf groups missed x (j + 1)) (sym (last_at r d end)) (record { group = j; below = omega arith; is = mine_line }))
        (cases_lt r (length cuts))

    order_more : (q r : ℕ) (c d : Cut) (x : ℕ) → q < r → r < length all → is_of (slice_index_or all r d).sender (slice_index_or all r d).nodes.bits (told_at groups missed x) ≡ true → IsLineOf groups missed (slice_index_or all q c) x
    order_more q r c d x up low same =
        let q_low : q < length cuts = omega (arith, up, low, long) in
        subst (λ (y : Cut). IsLineOf groups missed y x) (sym (old_at q c q_low))
        (⊎_elim
        (λ lower. below.order q r c d x up lower (subst (λ (y : Cut). is_of y.sender y.nodes.bits (told_at groups missed x) ≡ true) (old_at r d lower) same))
        (λ high.
        let end : r ≡ length cuts = omega (arith, low, high, long) in
        let mine_too : is_of cut.sender cut.nodes.bits (told_at groups missed x) ≡ true = subst (λ (y : Cut). is_of y.sender y.nodes.bits (told_at groups missed x) ≡ true) (last_at r d end) same in
        ⊎_elim
        (λ (lower : x < j). absurd (not_before x mine_too lower))
        (λ over. later groups missed (slice_index_or cuts q c) j x (omega (arith, over)) (below.from q c q_low))
        (cases_lt x j))
        (cases_lt r (length cuts)))

    pub cuts_more : AreCutsBelow groups of missed (j + 1) all
    cuts_more = record {
      each = λ r d low. each_more (λ k x. IsCut (told_of groups missed of) x) cuts all cut (length cuts) pushed refl (λ k e lower. below.each k e lower) mine r d (omega (arith, low, long));
      all = λ x low cut_off. ⊎_elim
          (λ lower. listed_still (told_at groups missed x).sender (told_at groups missed x).nodes (below.all x lower cut_off))
          (λ high. let same : j ≡ x = omega (arith, low, high) in subst (λ y. IsListed all (told_at groups missed y).sender (told_at groups missed y).nodes) same listed_last)
          (cases_lt x j);
      once = once_more;
      from = from_more;
      order = order_more;
    }

-- all groups
pub cuts_all : (groups : List Group) (of counts : List ℕ) (missed : List Nodes) (n total : ℕ) (cuts : List Cut) → AreLined groups of counts missed → length groups ≤ n → AreCutsBelow groups of missed n cuts →
    total ≡ count_by is_cut (told_of groups missed of) → AreCuts (told_of groups missed of) cuts total
cuts_all groups of counts missed n total cuts lined most below is = record {
  each = below.each;
  all = λ i t low cut.
      let few : i < length of = let many = length-map of (told_at groups missed) in omega (arith, low, many) in
      let at : slice_index_or (told_of groups missed of) i t ≡ told_at groups missed (slice_index_or of i 0) = get_or-map (told_at groups missed) of i 0 t few in
      let inside = lined.below i 0 few in
      subst (λ (x : Told). IsListed cuts x.sender x.nodes) (sym at)
      (below.all (slice_index_or of i 0) (omega (arith, inside, most)) (sym (ap is_cut at) ∙ cut));
  once = below.once;
  order = λ q r c d i t up low inside same.
      let few : i < length of = let many = length-map of (told_at groups missed) in omega (arith, inside, many) in
      let at : slice_index_or (told_of groups missed of) i t ≡ told_at groups missed (slice_index_or of i 0) = get_or-map (told_at groups missed) of i 0 t few in
      let line = below.order q r c d (slice_index_or of i 0) up low (subst (λ (x : Told). is_of (slice_index_or cuts r d).sender (slice_index_or cuts r d).nodes.bits x ≡ true) at same) in
      let lower = line.below in
      let sent = lined.rises i line.group 0 few (omega (arith, lower)) in
      let back = sent.low in
      let sent_below : sent.at < length of = omega (arith, back, few) in
      record {
        at = sent.at;
        below = before_it sent.at i line.group (sent.is 0) line.below back;
        is = λ e.
            let there : slice_index_or (told_of groups missed of) sent.at e ≡ told_at groups missed line.group =
            get_or-map (told_at groups missed) of sent.at 0 e sent_below ∙ ap (told_at groups missed) (sent.is 0) in
            subst (λ (x : Told). is_of (slice_index_or cuts q c).sender (slice_index_or cuts q c).nodes.bits x ≡ true) (sym there) line.is;
      };
  sends = is;
}
  where
    before_it : (h i y : ℕ) → slice_index_or of h 0 ≡ y → y < slice_index_or of i 0 → h ≤ i → h < i
    before_it h i y at lower back = ⊎_elim
        (λ (less : h < i). less)
        (λ over.
        let same : h ≡ i = omega (arith, back, over) in
        let equal : slice_index_or of h 0 ≡ slice_index_or of i 0 = ap (λ k. slice_index_or of k 0) same in
        absurd (omega (arith, at, lower, equal)))
        (cases_lt h i)
