-- Each item of an array, each key of a table, each table of a list.
use Rattle.std.proofs.Common.{◌≡◌, ℕ, ◌+◌, ◌<◌, ◌∙◌, ◌++◌, Bool, length, get_or, drop, map, List, [], ◌∷◌, Result, Ok, String, BTreeMap, Global, Bor, ap, sym, subst, string_bytes}
use Rattle.std.proofs.lemmas.List.{drop_more}
use Rattle.toml.specs.Data.{Data, Members}
use Rattle.toml.specs.View.{view, items_view, members_view, table_view}
use Rattle.toml.specs.declared.value.Value.{Value}
use Rattle.toml.proofs.Views.{Entry, items_view-drop}
use Rattle.hsr_toml.specs.Fallible.{◌>>=◌, Fails, each_item, each_member, each_table}
use Rattle.hsr_toml.proofs.Fallible.{stays}

abbrev pub Table : Type 0
Table = BTreeMap (String Global) Value

abbrev pub views : List (Bor Table) → List Members
views ts = map (λ t. table_view t.now) ts

-- ---- the items of an array

module _ {A E : Type 0} (read : Data → Result A E) where
  next_item : (seen : List A) (vs : List Value) (i : ℕ) (d : Value) → i < length vs
      → each_item read seen (items_view (drop i vs)) ≡ (read (view (get_or vs i d)) >>= λ x. each_item read (seen ++ x ∷ []) (items_view (drop (i + 1) vs)))
  next_item seen vs i d h = ap (each_item read seen) (items_view-drop vs i d h)

  pub item_step : (seen : List A) (vs : List Value) (i : ℕ) (d : Value) (x : A) → i < length vs → read (view (get_or vs i d)) ≡ Ok x
      → each_item read seen (items_view (drop i vs)) ≡ each_item read (seen ++ x ∷ []) (items_view (drop (i + 1) vs))
  item_step seen vs i d x h e = next_item seen vs i d h ∙ ap (λ r. r >>= λ x. each_item read (seen ++ x ∷ []) (items_view (drop (i + 1) vs))) e

  pub item_fail : (is_memory : E → Bool) (seen : List A) (vs : List Value) (i : ℕ) (d : Value) (fault : E) (whole : Result (List A) E) → i < length vs
      → each_item read seen (items_view (drop i vs)) ≡ whole → Fails is_memory fault (read (view (get_or vs i d))) → Fails is_memory fault whole
  item_fail is_memory seen vs i d fault whole h same f =
      subst (Fails is_memory fault) (sym (next_item seen vs i d h) ∙ same) (stays is_memory fault (read (view (get_or vs i d))) (λ x. each_item read (seen ++ x ∷ []) (items_view (drop (i + 1) vs))) f)

-- ---- the keys of a table

module _ {A E : Type 0} (read : List ℕ → Data → Result A E) where
  pub member_step : (seen : List A) (es rest : List Entry) (e : Entry) (x : A) → es ≡ e ∷ rest → read (string_bytes e.0) (view e.1) ≡ Ok x
      → each_member read seen (members_view es) ≡ each_member read (seen ++ x ∷ []) (members_view rest)
  member_step seen es rest e x same got =
      ap (λ l. each_member read seen (members_view l)) same ∙ ap (λ r. r >>= λ x. each_member read (seen ++ x ∷ []) (members_view rest)) got

  pub member_fail : (is_memory : E → Bool) (seen : List A) (es rest : List Entry) (e : Entry) (fault : E) (whole : Result (List A) E) → es ≡ e ∷ rest
      → each_member read seen (members_view es) ≡ whole → Fails is_memory fault (read (string_bytes e.0) (view e.1)) → Fails is_memory fault whole
  member_fail is_memory seen es rest e fault whole same all f =
      subst (Fails is_memory fault) (sym (ap (λ l. each_member read seen (members_view l)) same) ∙ all) (stays is_memory fault (read (string_bytes e.0) (view e.1)) (λ x. each_member read (seen ++ x ∷ []) (members_view rest)) f)

-- ---- the tables of a list

module _ {A E : Type 0} (read : List A → Members → Result A E) where
  next_table : (seen : List A) (ts : List (Bor Table)) (i : ℕ) (d : Bor Table) → i < length ts
      → each_table read seen (views (drop i ts)) ≡ (read seen (table_view (get_or ts i d).now) >>= λ x. each_table read (seen ++ x ∷ []) (views (drop (i + 1) ts)))
  next_table seen ts i d h = ap (λ us. each_table read seen (views us)) (drop_more ts i d h)

  pub table_step : (seen : List A) (ts : List (Bor Table)) (i : ℕ) (d : Bor Table) (x : A) → i < length ts → read seen (table_view (get_or ts i d).now) ≡ Ok x
      → each_table read seen (views (drop i ts)) ≡ each_table read (seen ++ x ∷ []) (views (drop (i + 1) ts))
  table_step seen ts i d x h e = next_table seen ts i d h ∙ ap (λ r. r >>= λ x. each_table read (seen ++ x ∷ []) (views (drop (i + 1) ts))) e

  pub table_fail : (is_memory : E → Bool) (seen : List A) (ts : List (Bor Table)) (i : ℕ) (d : Bor Table) (fault : E) (whole : Result (List A) E) → i < length ts
      → each_table read seen (views (drop i ts)) ≡ whole → Fails is_memory fault (read seen (table_view (get_or ts i d).now)) → Fails is_memory fault whole
  table_fail is_memory seen ts i d fault whole h same f =
      subst (Fails is_memory fault) (sym (next_table seen ts i d h) ∙ same) (stays is_memory fault (read seen (table_view (get_or ts i d).now)) (λ x. each_table read (seen ++ x ∷ []) (views (drop (i + 1) ts))) f)
