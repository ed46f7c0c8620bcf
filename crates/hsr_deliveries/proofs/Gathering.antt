-- Deliveries of one more node, entry or record.
use Rattle.std.proofs.Common.{◌≡◌, ℕ, ◌+◌, ◌<◌, suc, List, [], ◌∷◌, ◌++◌, length, reverse, take, slice_index_or, Option, refl, sym, ap, ◌∙◌, append_assoc, arith}
use Rattle.std.specs.Prelude.{filter_map}
use Rattle.std.specs.List.{cons_option}
use Rattle.std.proofs.lemmas.List.{take_all, take_more}
use Rattle.std.proofs.lemmas.List.Elements.{filter_map-append}
use Rattle.hsr_frame.proofs.OneMore.{passing_more}
use Rattle.hsr_node.specs.declared.entry.Entry.{Entry}
use Rattle.hsr_node.specs.declared.event.Probe.{Probe}
use Rattle.hsr_node.specs.declared.place.Place.{Place}
use Rattle.hsr_link.specs.declared.row.Row.{Row}
use Rattle.hsr_run_laws.specs.Run.{Run, owner_of, past_of}
use Rattle.hsr_finished_run.proofs.Places.{past_length, past_more}
use Rattle.hsr_deliveries.specs.Counted.{added, deliveries_at, delivered_by, if_one}
use Rattle.hsr_deliveries.specs.Delivered.{deliveries_below, deliveries_in, delivery_below, is_due, is_missed, is_strayed, is_twice, loss_of, nodes_below, times}
use Rattle.hsr_deliveries.specs.declared.loss.Loss.{Loss}

-- ---- one more node

pub delivery_more : (run : Run) (send : Probe) (at : ℕ) (dst : List ℕ) (ethertype k : ℕ) →
    delivery_below run send at dst ethertype (k + 1) ≡ added (delivery_below run send at dst ethertype k) k (is_due run send.node dst ethertype k) (times run send k)
delivery_more run send at dst ethertype k =
    ap (λ ns. record (delivery_below run send at dst ethertype (k + 1)) { due = ns }) (passing_more (is_due run send.node dst ethertype) k)
    ∙ (ap (λ ns. record (delivery_below run send at dst ethertype (k + 1)) { due = nodes_below k (is_due run send.node dst ethertype) ++ if_one (is_due run send.node dst ethertype k) k; missed = ns }) (passing_more (is_missed run send dst ethertype) k)
    ∙ (ap (λ ns. record (added (delivery_below run send at dst ethertype k) k (is_due run send.node dst ethertype k) (times run send k)) { twice = ns; strayed = nodes_below (k + 1) (is_strayed run send dst ethertype) }) (passing_more (is_twice run send dst ethertype) k)
    ∙ ap (λ ns. record (added (delivery_below run send at dst ethertype k) k (is_due run send.node dst ethertype k) (times run send k)) { strayed = ns }) (passing_more (is_strayed run send dst ethertype) k)))

-- ---- one more entry

-- a list that began with a start, and got more
pub put_on : {X : Type 0} (start old new so_far more all : List X) → new ≡ old ++ more → old ≡ start ++ so_far → so_far ++ more ≡ all → new ≡ start ++ all
put_on start old new so_far more all is before whole = is ∙ (ap (λ xs. xs ++ more) before ∙ (append_assoc start so_far more ∙ ap (λ xs. start ++ xs) whole))

-- where one more entry adds what it gives at its place, a list of the entries of a record does
pub one_more : {X : Type 0} (listed : List Entry → List X) (gives : ℕ → Entry → List X) → ((x : Entry) (past : List Entry) → listed (x ∷ past) ≡ listed past ++ gives (length past) x) →
    (xs : List Entry) (i : ℕ) (d : Entry) → i < length xs → listed (reverse (take i xs)) ++ gives i (slice_index_or xs i d) ≡ listed (reverse (take (i + 1) xs))
one_more listed gives more xs i d below =
    let x = slice_index_or xs i d in
    let past = reverse (take i xs) in
    ap (λ n. listed past ++ gives n x) (sym (past_length xs i (omega (arith, below))))
    ∙ sym (ap listed (past_more xs i d below) ∙ more x past)

-- and at its end it lists the whole record
pub all_listed : {X : Type 0} (listed : List Entry → List X) (xs : List Entry) → listed (reverse (take (length xs) xs)) ≡ listed (reverse xs)
all_listed listed xs = ap (λ ys. listed (reverse ys)) (take_all (length xs) xs (omega arith))

pub listed_more : (run : Run) (number : ℕ) (place : Place) (xs : List Entry) (i : ℕ) (d : Entry) → i < length xs →
    deliveries_at run number place xs i ++ delivered_by run (record { node = number; place = i }) place (slice_index_or xs i d) ≡ deliveries_at run number place xs (i + 1)
unfolding delivered_by
listed_more run number place =
    one_more (deliveries_in run (record { number = number; place = place })) (λ n x. delivered_by run (record { node = number; place = n }) place x) (λ x past. refl)

-- ---- one more row

pub rows_more : (send : Probe) (link : ℕ) (rows : List Row) (i : ℕ) (d : Row) → i < length rows →
    filter_map (loss_of send link) (take (i + 1) rows) ≡ filter_map (loss_of send link) (take i rows) ++ cons_option (loss_of send link (slice_index_or rows i d)) []
rows_more send link rows i d below =
    ap (filter_map (loss_of send link)) (take_more rows i d below) ∙ filter_map-append (loss_of send link) (take i rows) (slice_index_or rows i d ∷ []) ∙ ap (λ ls. filter_map (loss_of send link) (take i rows) ++ ls) (one (loss_of send link (slice_index_or rows i d)) refl)
  where
    one : (o : Option Loss) → loss_of send link (slice_index_or rows i d) ≡ o → filter_map (loss_of send link) (slice_index_or rows i d ∷ []) ≡ cons_option (loss_of send link (slice_index_or rows i d)) []
    one o is = refl

-- ---- one more record

pub deliveries_more : (run : Run) (k : ℕ) → deliveries_below run (k + 1) ≡ deliveries_below run k ++ deliveries_in run (owner_of run k) (past_of run k)
deliveries_more run k = let next : k + 1 ≡ suc k = omega arith in ap (deliveries_below run) next

pub listed_whole : (run : Run) (number : ℕ) (place : Place) (xs : List Entry) →
    deliveries_at run number place xs (length xs) ≡ deliveries_in run (record { number = number; place = place }) (reverse xs)
listed_whole run number place = all_listed (deliveries_in run (record { number = number; place = place }))
