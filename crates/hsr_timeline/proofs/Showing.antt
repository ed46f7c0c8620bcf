-- Rows of one more hop.
use Rattle.std.proofs.Common.{◌≡◌, ℕ, zero, suc, ◌+◌, ◌<◌, List, [], ◌∷◌, ◌++◌, length, map, take, get_or, Option, Some, None, sym, ap, ◌∙◌, subst, inl, inr, arith}
use Rattle.std.proofs.lemmas.List.{map-append, take_more}
use Rattle.hsr_timeline.specs.declared.origin.Spot.{Spot}
use Rattle.hsr_timeline.specs.declared.stamp.Stamp.{Stamp}
use Rattle.hsr_timeline.specs.declared.hop.Hop.{Hop}
use Rattle.std.specs.Global.{Global}
use Rattle.std.specs.Prelude.{Vec}
use Rattle.hsr_timeline.specs.declared.origin.Origin.{Origin}
use Rattle.hsr_timeline.specs.Fronts.{lists_of}
use Rattle.hsr_timeline.specs.Stamps.{AreStamps, HasNoStamps, at_spot}
use Rattle.hsr_timeline.specs.declared.telling.StoryFault.{StoryFault}
use Rattle.hsr_timeline.specs.declared.telling.StoryFault.TheVariants.{Circle, NoMemory}
use Rattle.hsr_timeline.specs.Story.{AreShown, HasNoOrder, IfCircle, shown_at}
use Rattle.hsr_timeline.specs.declared.shown.Shown.{Shown}

pub shown_more : (stamp : Spot → Option Stamp) (hops : List Hop) (i : ℕ) (hop : Hop) (rows : List Shown) (row : Shown) → i < length hops → hop ≡ get_or hops i hop → shown_at stamp hop ≡ Some row →
    AreShown stamp (take i hops) rows → AreShown stamp (take (i + 1) hops) (rows ++ row ∷ [])
shown_more stamp hops i hop rows row below is shown so_far =
    ap (map (shown_at stamp)) (take_more hops i hop below)
    ∙ (map-append (shown_at stamp) (take i hops) (get_or hops i hop ∷ [])
    ∙ (ap (λ (os : List (Option Shown)). os ++ shown_at stamp (get_or hops i hop) ∷ []) so_far
    ∙ (ap (λ (o : Option Shown). map (λ r. Some r) rows ++ o ∷ []) (ap (shown_at stamp) (sym is) ∙ shown) ∙ sym (map-append (λ (r : Shown). Some r) rows (row ∷ [])))))

pub none_shown : (stamp : Spot → Option Stamp) (hops : List Hop) (i : ℕ) (d : Hop) → i < length hops → shown_at stamp (get_or hops i d) ≡ None → (rows : List Shown) → AreShown stamp hops rows → ⊥
none_shown stamp hops i d below none rows shown = at hops i rows below none shown
  where
    at : (hs : List Hop) (k : ℕ) (rs : List Shown) → k < length hs → shown_at stamp (get_or hs k d) ≡ None → map (shown_at stamp) hs ≡ map (λ (r : Shown). Some r) rs → ⊥
    at [] k rs lt n e = omega arith
    at (h ∷ hs) k [] lt n e = cc
    at (h ∷ hs) zero (r ∷ rs) lt n e = cc
    at (h ∷ hs) (suc k) (r ∷ rs) lt n e = at hs k rs (omega arith) n (let f : map (shown_at stamp) hs ≡ map (λ (r : Shown). Some r) rs = cc in f)

pub no_stamps : (records : List (List Origin)) (hops : List Hop) (fault : StoryFault) → IfCircle (HasNoStamps records) fault → IfCircle (HasNoOrder records hops) fault
no_stamps records hops Circle h = inl h
no_stamps records hops NoMemory h = tt

pub no_rows : (records : List (List Origin)) (hops : List Hop) (ts vs : List (Vec Stamp Global)) (fault : StoryFault) → vs ≡ ts → AreStamps records (at_spot (lists_of ts)) →
    IfCircle ((rows : List Shown) → AreShown (at_spot (lists_of vs)) hops rows → ⊥) fault → IfCircle (HasNoOrder records hops) fault
no_rows records hops ts vs NoMemory same are h = tt
no_rows records hops ts vs Circle same are h = inr (at_spot (lists_of ts), are, let P : List (Vec Stamp Global) → Type 0 = λ xs. (rows : List Shown) → AreShown (at_spot (lists_of xs)) hops rows → ⊥ in subst P same h)
