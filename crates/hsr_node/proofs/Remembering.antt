-- What a table remembers of its notes is what a record remembers of its own.
use Rattle.std.proofs.Common.{◌≡◌, ℕ, zero, suc, ◌-◌, ◌||◌, nat_lt, Bool, true, false, cond, List, [], ◌∷◌, ◌++◌, take, filter, Some, None, refl, ap, sym, ◌∙◌, arith, append-nil}
use Rattle.std.proofs.Math.ListN.{drop_of_length-le}
use Rattle.std.specs.List.{cons_option}
use Rattle.std.proofs.lemmas.List.Elements.{filter-append}
use Rattle.std.proofs.lemmas.List.Folds.{list_any-append}
use Rattle.hsr_duptable.specs.Key.{Key, is_same_key}
use Rattle.hsr_duptable.specs.Notes.{entry_forget}
use Rattle.hsr_duptable.specs.Log as log
use Rattle.hsr_duptable.specs.Notes as table
use Rattle.hsr_duptable.specs.declared.note.Note.{Note}
use Rattle.hsr_duptable.proofs.LogLaws.{last_notes-append, last_notes-none}
use Rattle.hsr_forwarding.specs.Past.{log_remembers}
use Rattle.hsr_node.specs.Record.{Noted, has_key, oldest_first, remembered}

pub oldest_first-cons : (noted : Bool) (n : Noted) (ns : List Noted)
    → oldest_first (cons_option (cond noted (Some n) None) ns) ≡ oldest_first ns ++ cond noted (record { key = n.key; moment = n.moment } ∷ []) []
oldest_first-cons true n ns = refl
oldest_first-cons false n ns = sym (append-nil (oldest_first ns))

last-oldest : (capacity : ℕ) (ns : List Noted) → table.last_notes capacity (oldest_first ns) ≡ oldest_first (take capacity ns)
last-oldest zero ns = last_notes-none zero (oldest_first ns) refl
last-oldest (suc capacity) [] = drop_of_length-le {A = Note} [] (omega arith)
last-oldest (suc capacity) (n ∷ ns) =
    last_notes-append capacity (suc capacity) (oldest_first ns) (record { key = n.key; moment = n.moment } ∷ []) (omega arith)
    ∙ ap (λ xs. xs ++ record { key = n.key; moment = n.moment } ∷ []) (last-oldest capacity ns)

young-oldest : (key : Key) (at : ℕ) (ns : List Noted)
    → table.has_key key (table.unexpired_notes entry_forget at (oldest_first ns)) ≡ has_key key (filter (λ n. nat_lt (at - n.moment) entry_forget) ns)
young-oldest key at [] = refl
young-oldest key at (n ∷ ns) =
    let note : Note = record { key = n.key; moment = n.moment } in
    ap (table.has_key key) (filter-append (table.is_unexpired entry_forget at) (oldest_first ns) (note ∷ []))
    ∙ list_any-append (λ (m : Note). is_same_key m.key key) (table.unexpired_notes entry_forget at (oldest_first ns)) (table.unexpired_notes entry_forget at (note ∷ []))
    ∙ ap (λ p. p || table.has_key key (table.unexpired_notes entry_forget at (note ∷ []))) (young-oldest key at ns)
    ∙ one (nat_lt (at - n.moment) entry_forget)
  where
    young : List Noted
    young = filter (λ n. nat_lt (at - n.moment) entry_forget) ns

    last : (p q : Bool) → p || (q || false) ≡ q || p
    last true true = refl
    last true false = refl
    last false true = refl
    last false false = refl

    none : (p : Bool) → p || false ≡ p
    none true = refl
    none false = refl

    one : (is_young : Bool) → has_key key young || table.has_key key (cond is_young (record { key = n.key; moment = n.moment } ∷ []) [])
        ≡ has_key key (cond is_young (n ∷ young) young)
    one true = last (has_key key young) (is_same_key n.key key)
    one false = none (has_key key young)

unexpired-oldest : (at : ℕ) (ns : List Noted) → table.unexpired_notes entry_forget at (oldest_first ns) ≡ oldest_first (filter (λ n. nat_lt (at - n.moment) entry_forget) ns)
unexpired-oldest at [] = refl
unexpired-oldest at (n ∷ ns) =
    filter-append (table.is_unexpired entry_forget at) (oldest_first ns) (record { key = n.key; moment = n.moment } ∷ [])
    ∙ ap (λ xs. xs ++ table.unexpired_notes entry_forget at (record { key = n.key; moment = n.moment } ∷ [])) (unexpired-oldest at ns)
    ∙ one (nat_lt (at - n.moment) entry_forget)
  where
    young : List Noted
    young = filter (λ n. nat_lt (at - n.moment) entry_forget) ns

    one : (is_young : Bool) → oldest_first young ++ cond is_young (record { key = n.key; moment = n.moment } ∷ []) [] ≡ oldest_first (cond is_young (n ∷ young) young)
    one true = refl
    one false = append-nil (oldest_first young)

-- a log remembers what the record does that it is of
pub remembered-oldest : (capacity at : ℕ) (ns : List Noted) → log.remembered capacity entry_forget (oldest_first ns) at ≡ oldest_first (remembered capacity at ns)
remembered-oldest capacity at ns = ap (table.unexpired_notes entry_forget at) (last-oldest capacity ns) ∙ unexpired-oldest at (take capacity ns)

-- a log remembers a key where the record that it is of does
pub remembers-oldest : (capacity at : ℕ) (key : Key) (ns : List Noted)
    → table.has_key key (log.remembered capacity entry_forget (oldest_first ns) at) ≡ has_key key (remembered capacity at ns)
remembers-oldest capacity at key ns =
    ap (λ xs. table.has_key key (table.unexpired_notes entry_forget at xs)) (last-oldest capacity ns) ∙ young-oldest key at (take capacity ns)

-- so does a log that is of it
pub log-remembers : (capacity at : ℕ) (key : Key) (notes : List Note) (ns : List Noted) → notes ≡ oldest_first ns → log_remembers capacity notes at key ≡ has_key key (remembered capacity at ns)
log-remembers capacity at key notes ns same = ap (λ xs. log_remembers capacity xs at key) same ∙ remembers-oldest capacity at key ns
