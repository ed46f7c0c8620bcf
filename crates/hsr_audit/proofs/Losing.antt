-- The channels of a send's losses are those on which a copy of it was lost.
use Rattle.std.proofs.Common.{◌≡◌, ℕ, ◌+◌, ◌<◌, ◌≤◌, ◌==◌, ◌&&◌, ◌||◌, Bool, true, false, if◌then◌else◌, List, [], ◌∷◌, length, take, slice_index_or, Some, None, refl, sym, ap, ◌∙◌, arith, zero, suc, ⊎_elim, eq-eqb, ne_eqb}
use Rattle.std.specs.Prelude.{filter_map}
use Rattle.std.specs.List.{cons_option, list_any}
use Rattle.std.proofs.lemmas.Bool.{and_right, cases_lt}
use Rattle.std.proofs.lemmas.List.Folds.{list_any-append}
use Rattle.hsr_node.specs.declared.event.Probe.{Probe}
use Rattle.hsr_link.specs.Rows.{is_lost, is_same_dir}
use Rattle.hsr_link.specs.declared.row.Row.{Row}
use Rattle.hsr_deliveries.specs.Delivered.{loss_of, lost, lost_below}
use Rattle.hsr_deliveries.specs.declared.loss.Loss.{Loss}
use Rattle.hsr_run_laws.specs.Run.{Run, is_of, rows_of}
use Rattle.hsr_network_laws.specs.Network.{Channel}
use Rattle.hsr_network_laws.specs.Channels.{is_loss}
use Rattle.hsr_audit.specs.Reaching.{IsLossOf}
use Rattle.hsr_routes.specs.Numbered.{number_of}
use Rattle.hsr_bitset.specs.Numbers.{has}
use Rattle.hsr_audit.specs.Lossy.{AreWaysOf, is_on}

-- the losses on one link, by its rows
on_link : (send : Probe) (channel : Channel) (l : ℕ) (rows : List Row) → list_any (is_on channel) (filter_map (loss_of send l) rows) ≡ ((l == channel.link) && list_any (is_loss send channel.dir) rows)
on_link send channel l [] = sym (and_right (l == channel.link) false refl)
on_link send channel l (row ∷ rows) =
    one_loss (is_lost row.fate && is_of send row.carried.probe) (record { link = l; dir = row.dir; fate = row.fate }) (filter_map (loss_of send l) rows)
    ∙ by_tests (is_lost row.fate) (is_of send row.carried.probe) (l == channel.link) (is_same_dir channel.dir row.dir) (list_any (is_on channel) (filter_map (loss_of send l) rows)) (list_any (is_loss send channel.dir) rows) (on_link send channel l rows)
  where
    one_loss : (b : Bool) (loss : Loss) (losses : List Loss) → list_any (is_on channel) (cons_option (if b then Some loss else None) losses) ≡ (if b then is_on channel loss || list_any (is_on channel) losses else list_any (is_on channel) losses)
    one_loss true loss losses = refl
    one_loss false loss losses = refl

    by_tests : (gone its same dir rest more : Bool) → rest ≡ (same && more) → (if gone && its then (same && dir) || rest else rest) ≡ (same && (((dir && its) && gone) || more))
    by_tests true true true true rest more h = refl
    by_tests true true true false rest more h = h
    by_tests true true false dir rest more h = h
    by_tests true false same dir rest more h = h ∙ ap (λ b. same && ((b && true) || more)) (sym (and_right dir false refl))
    by_tests false its same dir rest more h = h ∙ ap (λ b. same && (b || more)) (sym (and_right (dir && its) false refl))

pub lost_on : (run : Run) (send : Probe) (channel : Channel) → channel.link < length run.links → list_any (is_on channel) (lost run send) ≡ list_any (is_loss send channel.dir) (rows_of run channel.link)
lost_on run send channel below = up_to (length run.links) below
  where
    one_more : (n : ℕ) (b : Bool) → list_any (is_on channel) (lost_below run send n) ≡ b → list_any (is_on channel) (lost_below run send (suc n)) ≡ (b || ((n == channel.link) && list_any (is_loss send channel.dir) (rows_of run n)))
    one_more n b before =
        list_any-append (is_on channel) (lost_below run send n) (filter_map (loss_of send n) (rows_of run n))
        ∙ (ap (λ c. c || list_any (is_on channel) (filter_map (loss_of send n) (rows_of run n))) before
        ∙ ap (λ c. b || c) (on_link send channel n (rows_of run n)))

    none : (n : ℕ) → n ≤ channel.link → list_any (is_on channel) (lost_below run send n) ≡ false
    none zero low = refl
    none (suc n) low =
        let other : (n == channel.link) ≡ false = ne_eqb n channel.link (λ same. omega (arith, same, low)) in
        one_more n false (none n (omega (arith, low))) ∙ ap (λ b. b && list_any (is_loss send channel.dir) (rows_of run n)) other

    or_false : (b : Bool) → (b || false) ≡ b
    or_false true = refl
    or_false false = refl

    up_to : (n : ℕ) → channel.link < n → list_any (is_on channel) (lost_below run send n) ≡ list_any (is_loss send channel.dir) (rows_of run channel.link)
    up_to zero low = absurd (omega (arith, low))
    up_to (suc n) low = ⊎_elim
        (λ lower.
        let other : (n == channel.link) ≡ false = ne_eqb n channel.link (λ same. omega (arith, same, lower)) in
        one_more n (list_any (is_loss send channel.dir) (rows_of run channel.link)) (up_to n lower) ∙ (ap (λ b. list_any (is_loss send channel.dir) (rows_of run channel.link) || (b && list_any (is_loss send channel.dir) (rows_of run n))) other ∙ or_false (list_any (is_loss send channel.dir) (rows_of run channel.link))))
        (λ high.
        let same : n ≡ channel.link = omega (arith, low, high) in
        one_more n false (none n (omega (arith, same))) ∙ (ap (λ b. b && list_any (is_loss send channel.dir) (rows_of run n)) (eq-eqb n channel.link same) ∙ ap (λ m. list_any (is_loss send channel.dir) (rows_of run m)) same))
        (cases_lt channel.link n)

pub losses_found : (run : Run) (send : Probe) (losses : List Loss) (set : List ℕ) → length run.links ≤ 128 → losses ≡ lost run send → AreWaysOf losses set → IsLossOf run send set
losses_found run send losses set small is channels channel below =
    channels channel (omega (arith, below, small)) ∙ (ap (list_any (is_on channel)) is ∙ lost_on run send channel below)

-- one more loss
pub channels_more : (losses : List Loss) (j : ℕ) (loss : Loss) (old new : List ℕ) → j < length losses → slice_index_or losses j loss ≡ loss →
    ((channel : Channel) → channel.link < 256 → has new (number_of channel) ≡ (is_on channel loss || has old (number_of channel))) → AreWaysOf (take j losses) old → AreWaysOf (take (j + 1) losses) new
channels_more losses j loss old new below is put channels channel low =
    put channel low
    ∙ (ap (λ b. is_on channel loss || b) (channels channel low)
    ∙ (or_swap (is_on channel loss) (list_any (is_on channel) (take j losses))
    ∙ sym (ap (list_any (is_on channel)) (Rattle.std.proofs.lemmas.List.take_more losses j loss below) ∙ (list_any-append (is_on channel) (take j losses) (slice_index_or losses j loss ∷ []) ∙ ap (λ b. list_any (is_on channel) (take j losses) || (b || false)) (ap (is_on channel) is)))))
  where
    or_swap : (x y : Bool) → (x || y) ≡ (y || (x || false))
    or_swap true true = refl
    or_swap true false = refl
    or_swap false true = refl
    or_swap false false = refl
