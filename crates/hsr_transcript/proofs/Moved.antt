-- Lists whose elements are moved out of them, from the first on.
use Rattle.std.proofs.Common.{◌≡◌, ℕ, ◌+◌, ◌<◌, ◌^◌, ◌∙◌, List, [], ◌∷◌, ◌++◌, length, take, drop, get_or, map, set, sym, ap, arith, true}
use Rattle.std.proofs.lemmas.List.{drop-set-lt, length-map}
use Rattle.hsr_node.specs.Kept.{Record}
use Rattle.hsr_node.specs.declared.entry.Entry.{Entry}
use Rattle.hsr_node.specs.declared.place.Place.{Place}
use Rattle.hsr_transcript_lines.specs.Lines.{line_count}
use Rattle.hsr_transcript_lines.proofs.Grown.{drop_next}
use Rattle.hsr_transcript.specs.Replay.{Again, front_of}
use Rattle.hsr_transcript.proofs.ReplayAll.{held, lines_fit, taken}

-- lists that are one from a place on are one at that place
pub same_there : {A : Type 0} (xs ys : List A) (i : ℕ) (d : A) → i < length xs → i < length ys → drop i xs ≡ drop i ys → get_or xs i d ≡ get_or ys i d
same_there xs ys i d h k e =
    let both : get_or xs i d ∷ drop (i + 1) xs ≡ get_or ys i d ∷ drop (i + 1) ys = sym (drop_next xs i d h) ∙ e ∙ drop_next ys i d k in cc

-- what the next of them holds, of those that are left
pub held_next : {V Y : Type 0} (f : V → List Y) (left all : List V) (i : ℕ) (x : V) (ys : List Y) → i < length left → i < length all → drop i left ≡ drop i all
    → x ≡ get_or left i x → ys ≡ f x → get_or (map f all) i ys ≡ ys
held_next f left all i x ys h k e is holds = held f all i x ys k (is ∙ same_there left all i x h k e) holds

-- its lines fit where all lines do
pub next_fits : {V Y : Type 0} (f : V → List Y) (left all : List V) (i first line : ℕ) (x : V) (ys : List Y) → i < length left → i < length all → drop i left ≡ drop i all
    → x ≡ get_or left i x → ys ≡ f x → line ≡ first + line_count (take i (map f all)) → first + line_count (map f all) < 2 ^ 64 → line + 1 + length ys < 2 ^ 64
next_fits f left all i first line x ys h k e is holds lined most =
    let count : length (map f all) ≡ length all = length-map all f in
    lines_fit (map f all) i first line ys (omega (arith, count, k)) (held_next f left all i x ys h k e is holds) lined most

-- and behind it, whatever is put there
pub left_next : {A : Type 0} (xs ys : List A) (i : ℕ) (d x : A) → i < length xs → i < length ys → drop i xs ≡ drop i ys → drop (i + 1) (set xs i x) ≡ drop (i + 1) ys
left_next xs ys i d x h k e =
    let both : get_or xs i d ∷ drop (i + 1) xs ≡ get_or ys i d ∷ drop (i + 1) ys = sym (drop_next xs i d h) ∙ e ∙ drop_next ys i d k in
    drop-set-lt (i + 1) xs i x (omega arith) ∙ cc

-- a record that an entry was done again on
pub front_next : (capacity node : ℕ) (place : Place) (entries : List Entry) (old new : Record) (i : ℕ) (entry : Entry) → old ≡ front_of node place i entries → i < length entries
    → get_or entries i entry ≡ entry → Again capacity old new entry true → new ≡ front_of node place (i + 1) entries
front_next capacity node place entries old new i entry is h e again =
    again ∙ ap (λ (r : Record). record r { entries = r.entries ++ entry ∷ [] }) is
    ∙ ap (λ l. record { number = node; place = place; entries = l }) (sym (taken entries i entry h e))
