-- From what is found of a send to whom it comes.
use Rattle.std.proofs.Common.{◌≡◌, ℕ, ◌+◌, ◌<◌, ◌==◌, ◌&&◌, ◌||◌, ◌↔◌, Bool, true, false, not, List, [], ◌∷◌, length, slice_index_or, zero, suc, refl, sym, ap, ◌∙◌, subst, arith, inl, inr, ⊎_elim, eqb-true, eq-eqb}
use Rattle.std.proofs.lemmas.Bool.{and_parts, cases_lt, false≢true, not-true, or_cases, or_left, or_right}
use Rattle.hsr_frame.specs.Grammar.{Fields}
use Rattle.hsr_node.specs.declared.event.Probe.{Probe}
use Rattle.hsr_node.specs.declared.place.Place.{Place}
use Rattle.hsr_node.specs.declared.place.Place.TheVariants.{QuadBox}
use Rattle.hsr_link.specs.declared.row.Dir.{Dir}
use Rattle.hsr_link.specs.declared.row.Dir.TheVariants.{Forth, Back}
use Rattle.hsr_run_laws.specs.Premises.{is_redbox}
use Rattle.hsr_run_laws.specs.Run.{Run, place_of}
use Rattle.hsr_bitset.specs.Numbers.{has}
use Rattle.hsr_network_laws.specs.Network.{Channel, start_of, stop_of}
use Rattle.hsr_routes.specs.Numbered.{number_of}
use Rattle.hsr_audit.specs.Coming.{Comes, IsLastChannel, is_to_station}
use Rattle.hsr_audit.specs.Reaching.{IsSpreadOf, is_last_in}
use Rattle.hsr_audit.specs.declared.cutoff.Spread.{Spread}

-- what is a RedBox is a node
pub box_below : (places : List Place) (n : ℕ) → is_redbox (slice_index_or places n QuadBox) ≡ true → n < length places
box_below [] n is = absurd (false≢true is)
box_below (p ∷ places) zero is = omega arith
box_below (p ∷ places) (suc n) is = let low = box_below places n is in omega (arith, low)

pub both : (a b : Bool) → a ≡ true → b ≡ true → (a && b) ≡ true
both a b x y = ap (λ z. z && b) x ∙ y

pub unnot : (b : Bool) → not b ≡ false → b ≡ true
unnot true h = refl
unnot false h = sym h

not_of : (b : Bool) → b ≡ false → not b ≡ true
not_of b is = ap not is

-- no channel of the links below one is the last channel to a node
abbrev pub NoneLastBelow : Run → ℕ → Spread → ℕ → ℕ → Type 0
NoneLastBelow run sender spread k n = (channel : Channel) → channel.link < n → is_last_in run sender spread k channel ≡ false

pub none_more : (run : Run) (sender : ℕ) (spread : Spread) (k n : ℕ) → is_last_in run sender spread k (record { link = n; dir = Forth }) ≡ false → is_last_in run sender spread k (record { link = n; dir = Back }) ≡ false →
    NoneLastBelow run sender spread k n → NoneLastBelow run sender spread k (n + 1)
none_more run sender spread k n forth back before channel low =
    ⊎_elim (λ lower. before channel lower)
    (λ high. let same : n ≡ channel.link = omega (arith, low, high) in
    let P : ℕ → Type 0 = λ l. is_last_in run sender spread k (record { link = l; dir = channel.dir }) ≡ false in
    subst P same (by_dir channel.dir))
    (cases_lt channel.link n)
  where
    by_dir : (dir : Dir) → is_last_in run sender spread k (record { link = n; dir = dir }) ≡ false
    by_dir Forth = forth
    by_dir Back = back

module _ (run : Run) (send : Probe) (frame : Fields) (spread : Spread) (found : IsSpreadOf run send frame spread) (k : ℕ) where
  -- what is found tells of a last channel
  pub last_is : (channel : Channel) → channel.link < length run.links → is_last_in run send.node spread k channel ≡ true → IsLastChannel run send frame k channel
  last_is channel below is =
      let one = and_parts ((stop_of run channel).node == k && not (has spread.lossy (number_of channel))) ((start_of run channel).node == send.node || (is_redbox (place_of run (start_of run channel).node) && has spread.nodes (start_of run channel).node)) is in
      let two = and_parts ((stop_of run channel).node == k) (not (has spread.lossy (number_of channel))) one.0 in
      record {
        carries = record { below = below; kept = sym (found.lossy channel below) ∙ not-true (has spread.lossy (number_of channel)) two.1 };
        here = eqb-true (stop_of run channel).node k two.0;
        comes = ⊎_elim
            (λ own. inl (eqb-true (start_of run channel).node send.node own))
            (λ far.
            let parts = and_parts (is_redbox (place_of run (start_of run channel).node)) (has spread.nodes (start_of run channel).node) far in
            inr (parts.0, (found.nodes (start_of run channel).node (box_below run.places (start_of run channel).node parts.0)).0 parts.1))
            (or_cases ((start_of run channel).node == send.node) (is_redbox (place_of run (start_of run channel).node) && has spread.nodes (start_of run channel).node) one.1);
      }

  pub is_last : (channel : Channel) → IsLastChannel run send frame k channel → is_last_in run send.node spread k channel ≡ true
  is_last channel last =
      both ((stop_of run channel).node == k && not (has spread.lossy (number_of channel))) ((start_of run channel).node == send.node || (is_redbox (place_of run (start_of run channel).node) && has spread.nodes (start_of run channel).node))
      (both ((stop_of run channel).node == k) (not (has spread.lossy (number_of channel))) (eq-eqb (stop_of run channel).node k last.here) (not_of (has spread.lossy (number_of channel)) (found.lossy channel last.carries.below ∙ last.carries.kept)))
      (⊎_elim
      (λ own. or_left ((start_of run channel).node == send.node) (is_redbox (place_of run (start_of run channel).node) && has spread.nodes (start_of run channel).node) (eq-eqb (start_of run channel).node send.node own))
      (λ far. or_right ((start_of run channel).node == send.node) (is_redbox (place_of run (start_of run channel).node) && has spread.nodes (start_of run channel).node)
      (both (is_redbox (place_of run (start_of run channel).node)) (has spread.nodes (start_of run channel).node) far.0 ((found.nodes (start_of run channel).node (box_below run.places (start_of run channel).node far.0)).1 far.1)))
      last.comes)

  pub comes_by : is_to_station frame (place_of run k) ≡ true → (channel : Channel) → channel.link < length run.links → is_last_in run send.node spread k channel ≡ true → Comes run send frame k
  comes_by below channel inside is = record { ring = λ other. absurd (false≢true (sym other ∙ below)); below = λ station. (channel, last_is channel inside is) }

  pub comes_not : is_to_station frame (place_of run k) ≡ true → (n : ℕ) → length run.links ≡ n → NoneLastBelow run send.node spread k n → Comes run send frame k → ⊥
  comes_not below n all none comes =
      let last = comes.below below in
      let inside = last.1.carries.below in
      false≢true (sym (none last.0 (omega (arith, inside, all))) ∙ is_last last.0 last.1)

  pub comes_ring : is_to_station frame (place_of run k) ≡ false → k < length run.places → has spread.nodes k ≡ true → Comes run send frame k
  comes_ring other low is = record { ring = λ o. (found.nodes k low).0 is; below = λ station. absurd (false≢true (sym other ∙ station)) }

  pub ring_has : is_to_station frame (place_of run k) ≡ false → k < length run.places → Comes run send frame k → has spread.nodes k ≡ true
  ring_has other low comes = (found.nodes k low).1 (comes.ring other)

  -- as `comes` tells it
  pub ring_same : is_to_station frame (place_of run k) ≡ false → k < length run.places → (has spread.nodes k ≡ true) ↔ Comes run send frame k
  ring_same other low = (comes_ring other low, ring_has other low)

  pub found_same : is_to_station frame (place_of run k) ≡ true → (channel : Channel) → channel.link < length run.links → is_last_in run send.node spread k channel ≡ true → (true ≡ true) ↔ Comes run send frame k
  found_same below channel inside is = (λ e. comes_by below channel inside is, λ c. refl)

  pub none_same : is_to_station frame (place_of run k) ≡ true → (n : ℕ) → length run.links ≡ n → NoneLastBelow run send.node spread k n → (false ≡ true) ↔ Comes run send frame k
  none_same below n all none = (λ e. absurd (false≢true e), λ c. absurd (comes_not below n all none c))
