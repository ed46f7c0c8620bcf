-- Nodes that are not bad have addresses of their own.
use Rattle.std.proofs.Common.{◌≡◌, ℕ, ◌||◌, ◌==◌, Bool, false, List, [], ◌∷◌, length, arith}
use Rattle.std.specs.List.{All, list_any}
use Rattle.std.proofs.lemmas.Bool.{or_parts, eqb-false}
use Rattle.std.proofs.lemmas.List.Elements.{All-nil, All-cons}
use Rattle.hsr_frame.specs.Address.{IsGroup, is_among, is_group, is_same_address}
use Rattle.hsr_node.specs.Place.{HasOwnAddress}
use Rattle.hsr_node.specs.declared.place.Place.{Place}
use Rattle.hsr_node.specs.declared.place.Place.TheVariants.{Danh, RedBox, QuadBox, Station}
use Rattle.hsr_topology.specs.Nodes.{has_group, has_twice, is_bad_node}
use Rattle.hsr_topology.specs.Wired.{AreAddresses, AreDifferent, HasAddresses}

-- where none passes a test, each fails it
pub none_pass : {X : Type 0} (test : X → Bool) (xs : List X) → list_any test xs ≡ false → All (λ x. test x ≡ false) xs
none_pass test [] h = All-nil _
none_pass test (x ∷ xs) h =
    let parts = or_parts (test x) (list_any test xs) h in
    All-cons (λ y. test y ≡ false) x xs parts.0 (none_pass test xs parts.1)

-- what holds of each holds of each what follows from it
pub All-map : {X : Type 0} (P Q : X → Type 0) (xs : List X) → ((x : X) → P x → Q x) → All P xs → All Q xs
All-map P Q xs step h = λ k d lt. step _ (h k d lt)

no_group : (mac : List ℕ) → is_group mac ≡ false → ¬ IsGroup mac
no_group mac h = eqb-false _ 1 h

different : (macs : List (List ℕ)) → has_twice macs ≡ false → AreDifferent macs
different [] h = tt
different (mac ∷ macs) h =
    let parts = or_parts (is_among macs mac) (has_twice macs) h in
    (none_pass (λ other. is_same_address other mac) macs parts.0, different macs parts.1)

pub own_address : (place : Place) → is_bad_node place ≡ false → HasOwnAddress place
own_address (Danh mac mode) h = no_group mac h
own_address (RedBox mac mode) h = no_group mac h
own_address QuadBox h = tt
own_address (Station macs) h = tt

addresses : (macs : List (List ℕ)) → ((length macs == 0) || has_group macs || has_twice macs) ≡ false → AreAddresses macs
addresses macs h =
    let parts = or_parts ((length macs == 0) || has_group macs) (has_twice macs) h in
    let first = or_parts (length macs == 0) (has_group macs) parts.0 in
    let some = eqb-false (length macs) 0 first.0 in
    record {
      some = omega (arith, some);
      own = All-map (λ mac. is_group mac ≡ false) (λ mac. ¬ IsGroup mac) macs no_group (none_pass is_group macs first.1);
      different = different macs parts.1;
    }

pub station_addresses : (place : Place) → is_bad_node place ≡ false → HasAddresses place
station_addresses (Danh mac mode) h = tt
station_addresses (RedBox mac mode) h = tt
station_addresses QuadBox h = tt
station_addresses (Station macs) h = addresses macs.items h
