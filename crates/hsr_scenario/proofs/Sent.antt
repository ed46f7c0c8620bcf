-- What the tables of steps send, one table after another, and what nodes send, one node after another.
use Rattle.std.proofs.Common.{◌≡◌, ℕ, ◌+◌, ◌<◌, ◌∙◌, ◌++◌, length, get_or, drop, map, List, [], ◌∷◌, ap, sym, Bor, append_assoc, zero-add}
use Rattle.std.specs.List.{flat_map, range_with_len}
use Rattle.std.proofs.lemmas.List.{drop_more, map_push}
use Rattle.std.proofs.lemmas.List.FromFn.{map-range_with_len_more}
use Rattle.toml.specs.View.{table_view}
use Rattle.hsr_toml.proofs.Lists.{Table}
use Rattle.hsr_scenario.specs.Streams.{Sending, sent_in}
use Rattle.hsr_scenario.specs.declared.nodes.Named.{Named}

-- what a table sends joins what those before it send
pub sent_step : (nodes : List Named) (seen : List Sending) (ts : List (Bor Table)) (i : ℕ) (d : Bor Table) (sent : List Sending) → i < length ts → sent ≡ sent_in nodes (table_view (get_or ts i d).now)
    → seen ++ flat_map (sent_in nodes) (map (λ t. table_view t.now) (drop i ts)) ≡ (seen ++ sent) ++ flat_map (sent_in nodes) (map (λ t. table_view t.now) (drop (i + 1) ts))
sent_step nodes seen ts i d sent h e =
    ap (λ us. seen ++ flat_map (sent_in nodes) (map (λ t. table_view t.now) us)) (drop_more ts i d h)
    ∙ ap (λ s. seen ++ (s ++ flat_map (sent_in nodes) (map (λ t. table_view t.now) (drop (i + 1) ts)))) (sym e)
    ∙ sym (append_assoc seen sent (flat_map (sent_in nodes) (map (λ t. table_view t.now) (drop (i + 1) ts))))

-- what one more node says joins what those before it say
pub nodes_more : {X Y : Type 0} (view : X → Y) (read : ℕ → Y) (seen : List X) (x : X) (n : ℕ) → map view seen ≡ map read (range_with_len 0 n) → view x ≡ read n
    → map view (seen ++ x ∷ []) ≡ map read (range_with_len 0 (n + 1))
nodes_more view read seen x n before here =
    map_push view seen x ∙ ap (λ ys. ys ++ view x ∷ []) before ∙ ap (λ y. map read (range_with_len 0 n) ++ y ∷ []) here
    ∙ sym (map-range_with_len_more read 0 n n (zero-add n))
