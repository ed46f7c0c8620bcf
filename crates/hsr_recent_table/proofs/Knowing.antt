-- What a table goes on knowing.
use Rattle.std.proofs.Common.{◌≡◌, ℕ, ◌+◌, ◌≤◌, Bool, true, false, cond, List, ◌∷◌, refl, ap, ◌∙◌, arith, Option, Some, None}
use Rattle.std.specs.Prelude.{nat_eq, IfSome, option_map}
use Rattle.std.specs.HashMap.{get}
use Rattle.hsr_recent_table.specs.declared.table.RecentTable.{RecentTable}
use Rattle.hsr_recent_table.specs.Recent.{Knows, KnowsKey, Put, latest, value_of}

-- ---- a key

later_key : (since horizon m n : ℕ) (young old : Option ℕ) (put : Option Put) → m ≤ n → KnowsKey since horizon m young old put → KnowsKey since horizon n young old put
later_key since horizon m n (Some v) old (Some put) le h = (h.0, omega (arith, h.1))
later_key since horizon m n (Some v) old None le h = h
later_key since horizon m n None (Some v) (Some put) le h = h
later_key since horizon m n None (Some v) None le h = h
later_key since horizon m n None None (Some put) le h = h
later_key since horizon m n None None None le h = tt

turned_key : (since horizon moment at : ℕ) (young old : Option ℕ) (put : Option Put) → since + horizon ≤ at → moment ≤ at → KnowsKey since horizon moment young old put → KnowsKey at horizon at None young put
turned_key since horizon moment at (Some v) old (Some put) passed later h = (h.0, omega (arith, h.1))
turned_key since horizon moment at (Some v) old None passed later h = h
turned_key since horizon moment at None (Some v) (Some put) passed later h = omega (arith, h.1)
turned_key since horizon moment at None (Some v) None passed later h = absurd h
turned_key since horizon moment at None None (Some put) passed later h = omega (arith, h)
turned_key since horizon moment at None None None passed later h = tt

pub found_key : (since horizon moment : ℕ) (young old : Option ℕ) (put : Option Put) (v : ℕ) → KnowsKey since horizon moment young old put → young ≡ Some v → option_map value_of put ≡ Some v
found_key since horizon moment (Some w) old (Some put) v h is = ap Some h.0 ∙ is
found_key since horizon moment (Some w) old None v h is = absurd h
found_key since horizon moment None old put v h is = absurd cc

pub old_key : (since horizon moment : ℕ) (young old : Option ℕ) (put : Option Put) (v : ℕ) → KnowsKey since horizon moment young old put → young ≡ None → old ≡ Some v → option_map value_of put ≡ Some v
old_key since horizon moment (Some w) old put v h none is = absurd cc
old_key since horizon moment None (Some w) (Some put) v h none is = ap Some h.0 ∙ is
old_key since horizon moment None (Some w) None v h none is = absurd h
old_key since horizon moment None None put v h none is = absurd cc

pub missing_key : (since horizon moment : ℕ) (young old : Option ℕ) (put : Option Put) → since ≤ moment → KnowsKey since horizon moment young old put → young ≡ None → old ≡ None
    → IfSome put (λ p. p.at + horizon ≤ moment)
missing_key since horizon moment (Some w) old put turned h none is = absurd cc
missing_key since horizon moment None (Some w) put turned h none is = absurd cc
missing_key since horizon moment None None (Some put) turned h none is = omega (arith, h)
missing_key since horizon moment None None None turned h none is = tt

-- ---- the table

pub later_table : (t n : RecentTable) (puts : List Put) → n.newer ≡ t.newer → n.older ≡ t.older → n.since ≡ t.since → n.horizon ≡ t.horizon → t.moment ≤ n.moment → Knows t puts → Knows n puts
later_table t n puts young old since horizon later k = record {
  each = λ key. rw (young, old, since, horizon) (later_key t.since t.horizon t.moment n.moment (get nat_eq t.newer key) (get nat_eq t.older key) (latest key puts) later (k.each key));
  turned = omega (arith, k.turned);
}

pub turned_table : (t n : RecentTable) (puts : List Put) → ((key : ℕ) → get nat_eq n.newer key ≡ None) → n.older ≡ t.newer → n.since ≡ n.moment → n.horizon ≡ t.horizon
    → t.since + t.horizon ≤ n.moment → t.moment ≤ n.moment → Knows t puts → Knows n puts
turned_table t n puts empty old since horizon passed later k = record {
  each = λ key. rw (empty key, old, since, horizon) (turned_key t.since t.horizon t.moment n.moment (get nat_eq t.newer key) (get nat_eq t.older key) (latest key puts) passed later (k.each key));
  turned = omega arith;
}

put_key : (since horizon moment : ℕ) (young young' old : Option ℕ) (at key value q : ℕ) (puts : List Put) → at ≤ moment
    → young' ≡ cond (nat_eq key q) (Some value) young → KnowsKey since horizon moment young old (latest q puts)
    → KnowsKey since horizon moment young' old (latest q (record { at = at; key = key; value = value } ∷ puts))
put_key since horizon moment young young' old at key value q puts now is h = by_case (nat_eq key q) refl
  where
    by_case : (b : Bool) → nat_eq key q ≡ b → KnowsKey since horizon moment young' old (latest q (record { at = at; key = key; value = value } ∷ puts))
    by_case true same = rw (is, same) (refl, now)
    by_case false other = rw (is, other) h

pub put_table : (t n : RecentTable) (at key value : ℕ) (puts : List Put) → ((q : ℕ) → get nat_eq n.newer q ≡ cond (nat_eq key q) (Some value) (get nat_eq t.newer q))
    → n.older ≡ t.older → n.since ≡ t.since → n.horizon ≡ t.horizon → n.moment ≡ t.moment → at ≤ n.moment → Knows t puts → Knows n (record { at = at; key = key; value = value } ∷ puts)
put_table t n at key value puts young old since horizon moment now k = record {
  each = λ q. rw (old, since, horizon, moment) (put_key t.since t.horizon t.moment (get nat_eq t.newer q) (get nat_eq n.newer q) (get nat_eq t.older q) at key value q puts (omega arith) (young q) (k.each q));
  turned = omega (arith, k.turned);
}
