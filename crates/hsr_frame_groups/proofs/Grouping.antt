-- Copies grouped by frame, one after the other.
use Rattle.std.proofs.Common.{◌≡◌, ℕ, zero, suc, ◌+◌, ◌-◌, ◌<◌, ◌≤◌, Bool, true, false, cond, List, [], ◌∷◌, ◌++◌, length, take, get_or, refl, sym, ap, subst, ◌∙◌, arith, below_more, Option, Some, None}
use Rattle.std.specs.Prelude.{nat_eq, IfSome, option_map, reverse, slice_get, slice_index}
use Rattle.std.proofs.lemmas.Bool.{le-ltb, eqb-true}
use Rattle.std.proofs.lemmas.List.{take_more, reverse-append, get_or_append_left, get_or_push}
use Rattle.hsr_recent_table.specs.Recent.{Knows, Put, horizon_of, latest, moment_of, value_of}
use Rattle.hsr_recent_table.specs.declared.table.RecentTable.{RecentTable}
use Rattle.hsr_frame_groups.specs.Frames.{AreBefore, ArePutFor, CaughtFields, IsFirst, IsPutFor, IsReady, chosen, first_by, first_copy, frame_time, joined_to, joins, key_of, latest_frame, past_of, put_for}

-- ---- places

got : {X : Type 0} (xs : List X) (i : ℕ) (c : X) → slice_get xs i ≡ Some c → i < length xs × (get_or xs i c ≡ c)
got [] i c h = absurd cc
got (x ∷ xs) zero c h = (omega arith, cc)
got (x ∷ xs) (suc i) c h = let rest = got xs i c h in (omega (arith, rest.0), rest.1)

pub there : {X : Type 0} (xs : List X) (i : ℕ) (x : X) → i < length xs → x ≡ get_or xs i x → slice_get xs i ≡ Some x
there [] i x lt is = absurd (omega (arith, lt))
there (y ∷ xs) zero x lt is = ap Some (sym is)
there (y ∷ xs) (suc i) x lt is = there xs i x (omega (arith, lt)) is

pub past_more : (copies : List CaughtFields) (i : ℕ) (c : CaughtFields) → slice_get copies i ≡ Some c → past_of copies (i + 1) ≡ c ∷ past_of copies i
past_more copies i c h =
    let g = got copies i c h in
    ap reverse (take_more copies i c g.0) ∙ reverse-append (take i copies) (get_or copies i c ∷ []) ∙ ap (λ x. x ∷ reverse (take i copies)) g.1

-- ---- moments

still_before : (m n : ℕ) (past : List CaughtFields) → m ≤ n → AreBefore m past → AreBefore n past
still_before m n [] le h = tt
still_before m n (c ∷ past) le h = (omega (arith, h.0), still_before m n past le h.1)

-- a copy and the frame that it may join
joined_before : (n : ℕ) (c : CaughtFields) (frame : Option CaughtFields) → c.at ≤ n → IfSome frame (λ f. f.at ≤ n) → (joined_to c frame).at ≤ n
joined_before n c None own h = own
joined_before n c (Some f) own h = by_case (joins f c)
  where
    by_case : (b : Bool) → (cond b f c).at ≤ n
    by_case true = h
    by_case false = own

frame_before : (n key : ℕ) (past : List CaughtFields) → AreBefore n past → IfSome (latest_frame key past) (λ f. f.at ≤ n)
frame_before n key [] h = tt
frame_before n key (b ∷ past) h = by_case (frame_before n key past h.1) (nat_eq (key_of b) key)
  where
    by_case : IfSome (latest_frame key past) (λ f. f.at ≤ n) → (t : Bool)
        → IfSome (cond t (Some (joined_to b (latest_frame key past))) (latest_frame key past)) (λ f. f.at ≤ n)
    by_case rest true = joined_before n b (latest_frame key past) h.0 rest
    by_case rest false = rest

first_before : (n : ℕ) (past : List CaughtFields) (c : CaughtFields) → c.at ≤ n → AreBefore n past → (first_copy past c).at ≤ n
first_before n past c own h = joined_before n c (latest_frame (key_of c) past) own (frame_before n (key_of c) past h)

-- ---- what a table tells

-- what was put last with a key tells of the latest frame with it
abbrev IsTold : List CaughtFields → Option Put → Option CaughtFields → Type 0
IsTold copies None None = Unit {0}
IsTold copies None (Some f) = ⊥
IsTold copies (Some put) None = ⊥
IsTold copies (Some put) (Some f) = (slice_get copies put.value ≡ Some f) × (f.at ≤ put.at)

latest_told : (copies past : List CaughtFields) (puts : List Put) (key : ℕ) → ArePutFor copies past puts → IsTold copies (latest key puts) (latest_frame key past)
latest_told copies [] [] key h = tt
latest_told copies [] (put ∷ puts) key h = absurd h
latest_told copies (c ∷ past) [] key h = absurd h
latest_told copies (c ∷ past) (put ∷ puts) key h =
    let alike : nat_eq put.key key ≡ nat_eq (key_of c) key = ap (λ k. nat_eq k key) h.0.key in
    subst (λ t. IsTold copies (cond t (Some put) (latest key puts)) (cond (nat_eq (key_of c) key) (Some (joined_to c (latest_frame key past))) (latest_frame key past)))
    (sym alike) (by_case (latest_told copies past puts key h.1) (nat_eq (key_of c) key) refl)
  where
    by_case : IsTold copies (latest key puts) (latest_frame key past) → (t : Bool) → nat_eq (key_of c) key ≡ t
        → IsTold copies (cond t (Some put) (latest key puts)) (cond t (Some (joined_to c (latest_frame key past))) (latest_frame key past))
    by_case rest true is =
        let same : key_of c ≡ key = eqb-true (key_of c) key is in
        let frame : first_copy past c ≡ joined_to c (latest_frame key past) = ap (λ k. joined_to c (latest_frame k past)) same in
        (h.0.value ∙ ap Some frame, rw (← frame, h.0.at) h.0.before)
    by_case rest false is = rest

-- a copy that is told of no frame, or of one that is too old, begins one
too_old : (f c : CaughtFields) → f.at + frame_time ≤ c.at → joins f c ≡ false
too_old f c old = rw (le-ltb (c.at - f.at) 2000000000 (omega arith)) refl

begins_one : (copies : List CaughtFields) (c : CaughtFields) (put : Option Put) (frame : Option CaughtFields) (horizon moment : ℕ) → horizon ≡ frame_time → moment ≤ c.at
    → IsTold copies put frame → IfSome put (λ p. p.at + horizon ≤ moment) → joined_to c frame ≡ c
begins_one copies c None None horizon moment is later told old = refl
begins_one copies c None (Some f) horizon moment is later told old = absurd told
begins_one copies c (Some p) None horizon moment is later told old = absurd told
begins_one copies c (Some p) (Some f) horizon moment is later told old = rw (too_old f c (omega (arith, told.1, old))) refl

-- the frame that is told of
frame_told : (copies : List CaughtFields) (put : Option Put) (frame : Option CaughtFields) (first : ℕ) → IsTold copies put frame → option_map value_of put ≡ Some first → slice_get copies first ≡ frame
frame_told copies None None first told is = absurd cc
frame_told copies None (Some f) first told is = absurd told
frame_told copies (Some p) None first told is = absurd told
frame_told copies (Some p) (Some f) first told is = let same : p.value ≡ first = cc in rw (← same) told.0

same_there : {X : Type 0} (a b : X) → Some a ≡ Some b → a ≡ b
same_there a b h = cc

-- ---- the two answers

pub is_none_told : (copies : List CaughtFields) (table : RecentTable) (i key : ℕ) (puts : List Put) (c : CaughtFields) → key ≡ key_of c → IsReady copies table i puts
    → slice_get copies i ≡ Some c → IfSome (latest key puts) (λ p. p.at + horizon_of table ≤ moment_of table) → IsFirst copies i i
is_none_told copies table i key puts c is ready here old d other =
    let same : c ≡ d = same_there c d (sym here ∙ other) in
    let tells : IsTold copies (latest key puts) (latest_frame (key_of c) (past_of copies i))
    = subst (λ k. IsTold copies (latest key puts) (latest_frame k (past_of copies i))) is (latest_told copies (past_of copies i) puts key ready.puts_for) in
    let begins = begins_one copies c (latest key puts) (latest_frame (key_of c) (past_of copies i)) (horizon_of table) (moment_of table) ready.horizon (ready.next c here) tells old in
    other ∙ ap Some (sym same ∙ sym begins ∙ ap (first_copy (past_of copies i)) same)

chosen_is : (copies : List CaughtFields) (first i : ℕ) (c : CaughtFields) (frame : Option CaughtFields) → slice_get copies first ≡ frame → slice_get copies i ≡ Some c
    → slice_get copies (chosen first i frame (Some c)) ≡ Some (joined_to c frame)
chosen_is copies first i c None began here = here
chosen_is copies first i c (Some f) began here = by_case (joins f c)
  where
    by_case : (t : Bool) → slice_get copies (cond t first i) ≡ Some (cond t f c)
    by_case true = began
    by_case false = here

pub is_chosen : (copies : List CaughtFields) (table : RecentTable) (i first key : ℕ) (puts : List Put) (c : CaughtFields) → key ≡ key_of c → IsReady copies table i puts
    → slice_get copies i ≡ Some c → option_map value_of (latest key puts) ≡ Some first → IsFirst copies i (first_by copies first i)
is_chosen copies table i first key puts c is ready here found d other =
    let same : c ≡ d = same_there c d (sym here ∙ other) in
    let tells : IsTold copies (latest key puts) (latest_frame (key_of c) (past_of copies i))
    = subst (λ k. IsTold copies (latest key puts) (latest_frame k (past_of copies i))) is (latest_told copies (past_of copies i) puts key ready.puts_for) in
    let began : slice_get copies first ≡ latest_frame (key_of c) (past_of copies i) = frame_told copies (latest key puts) (latest_frame (key_of c) (past_of copies i)) first tells found in
    let by : first_by copies first i ≡ chosen first i (latest_frame (key_of c) (past_of copies i)) (Some c) = rw (began, here) refl in
    ap (slice_get copies) by ∙ chosen_is copies first i c (latest_frame (key_of c) (past_of copies i)) began here ∙ ap Some (ap (first_copy (past_of copies i)) same)

-- ---- one copy more

pub nothing_ready : (copies : List CaughtFields) (table : RecentTable) → Knows table [] → horizon_of table ≡ frame_time → moment_of table ≡ 0 → IsReady copies table 0 []
nothing_ready copies table knows horizon moment = record { knows = knows; puts_for = tt; before = tt; next = λ c here. omega (arith, moment); horizon = horizon }

pub one_more_ready : (copies : List CaughtFields) (old new : RecentTable) (i first : ℕ) (puts : List Put) (c : CaughtFields)
    → ((j : ℕ) (b d : CaughtFields) → slice_get copies j ≡ Some b → slice_get copies (j + 1) ≡ Some d → b.at ≤ d.at)
    → IsReady copies old i puts → slice_get copies i ≡ Some c → IsFirst copies i first
    → Knows new (put_for c first ∷ puts) → moment_of new ≡ c.at → horizon_of new ≡ horizon_of old
    → IsReady copies new (i + 1) (put_for c first ∷ puts)
one_more_ready copies old new i first puts c time ready here is_first knows moment horizon =
    let own : AreBefore c.at (past_of copies i) = still_before (moment_of old) c.at (past_of copies i) (ready.next c here) ready.before in
    let put : IsPutFor copies (past_of copies i) c (put_for c first)
    = record { at = refl; key = refl; value = is_first c here; before = first_before c.at (past_of copies i) c (omega arith) own } in
    let past = past_more copies i c here in
    record {
      knows = knows;
      puts_for = rw past (put, ready.puts_for);
      before = rw past (subst (λ m. (c.at ≤ m) × AreBefore m (past_of copies i)) (sym moment) (omega arith, own));
      next = λ d there. rw moment (time i c d here there);
      horizon = horizon ∙ ready.horizon;
    }

-- the place of each first copy, with one more
pub one_more_first : (copies : List CaughtFields) (firsts : List ℕ) (i first : ℕ) → length firsts ≡ i → ((k : ℕ) → k < i → IsFirst copies k (slice_index firsts k)) → IsFirst copies i first
    → (k : ℕ) → k < i + 1 → IsFirst copies k (slice_index (firsts ++ first ∷ []) k)
one_more_first copies firsts i first long each is_first =
    below_more _ _
    (λ k lt. let fits : k < length firsts = omega arith in subst (IsFirst copies k) (sym (get_or_append_left firsts (first ∷ []) 0 k fits)) (each k lt))
    (subst (IsFirst copies i) (sym (get_or_push firsts first 0 i long)) is_first)

-- what is put for a copy, by its parts
pub put_same : (at key first : ℕ) (c : CaughtFields) → at ≡ c.at → key ≡ key_of c → record { at = at; key = key; value = first } ≡ put_for c first
put_same at key first c at_is key_is = ap (λ (n : ℕ). record { at = n; key = key; value = first }) at_is ∙ ap (λ (n : ℕ). record { at = c.at; key = n; value = first }) key_is
