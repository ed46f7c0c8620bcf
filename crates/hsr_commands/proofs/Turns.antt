-- What one line does to the output.
use Rattle.std.proofs.Common.{◌≡◌, ◌≢◌, ℕ, ◌+◌, ◌<◌, ◌≤◌, IfSome, Option, None, Some, Result, Ok, Err, List, [], ◌∷◌, ◌++◌, ◌∙◌, length, refl, sym, ap, arith, cond, Bool, true, false, nat_lt, append_assoc, subst}
use Rattle.std.proofs.lemmas.List.{append-nil}
use Rattle.std.proofs.lemmas.Bool.Decides.{nat_tests}
use Rattle.std.specs.Io.KnownBytes.{Appends, Keeps}
use Rattle.hsr_text.specs.Lines.{lines_of, ReadsFront}
use Rattle.hsr_text.proofs.LineCuts.{lines_line, lines_last, lines_none, lines_long}
use Rattle.hsr_text.specs.declared.lines.Front.TheVariants.{Line as FrontLine, Rest as FrontRest, TooLong}
use Rattle.hsr_node_text.specs.Reply.{answer_of}
use Rattle.hsr_node_text.specs.declared.request.Setting.{Setting}
use Rattle.hsr_commands.specs.Output.{Ended, Output, answer_in, output, put, whole_output, with_line}
use Rattle.hsr_commands.specs.Run.{Finished, OnTheWay, Ran, Served, Turned}
use Rattle.hsr_node_text.proofs.Replies.{answer_some, counter_some, some_before, some_behind}
use Rattle.hsr_node.specs.Step.{counters_of, new_node}
use Rattle.hsr_node.specs.declared.node.Node.{Node}
use Rattle.hsr_commands.specs.declared.fault.Fault.{Fault}
use Rattle.hsr_commands.specs.declared.fault.Fault.TheVariants.{Line, Read, Write, Scenario, Step, Fine, Transcript, Check, Names, Tables, Memory as OutOfMemory, Thread, Gate}
use Rattle.hsr_commands.specs.declared.fault.Status.TheVariants.{Fault as Faulty, Certified}

fits_test : (line : List ℕ) → length line ≤ 4096 → nat_lt 4096 (length line) ≡ false
fits_test line h = grind (arith, nat_tests)

long_test : (line : List ℕ) → 4096 < length line → nat_lt 4096 (length line) ≡ true
long_test line h = grind (arith, nat_tests)

fits : (capacity : ℕ) (setting : Setting) (d : Node capacity) (line : List ℕ) → length line ≤ 4096 → answer_in capacity setting d line ≡ answer_of capacity setting d line
fits capacity setting d line h = ap (λ t. cond t None (answer_of capacity setting d line)) (fits_test line h)

long : (capacity : ℕ) (setting : Setting) (d : Node capacity) (line : List ℕ) → 4096 < length line → answer_in capacity setting d line ≡ None
long capacity setting d line h = ap (λ t. cond t None (answer_of capacity setting d line)) (long_test line h)

output_line : (capacity : ℕ) (setting : Setting) (d : Node capacity) (n : ℕ) (line : List ℕ) (ls : List (List ℕ)) (o : Option (List ℕ × Node capacity)) → answer_in capacity setting d line ≡ o
    → output capacity setting d n (line ∷ ls) ≡ with_line capacity n o (λ e. output capacity setting e (n + 1) ls)
output_line capacity setting d n line ls o e = ap (λ x. with_line capacity n x (λ e. output capacity setting e (n + 1) ls)) e

output_some : (capacity : ℕ) (setting : Setting) (d e : Node capacity) (n : ℕ) (line : List ℕ) (ls : List (List ℕ)) (text : List ℕ) → length line ≤ 4096 → answer_of capacity setting d line ≡ Some (text, e)
    → output capacity setting d n (line ∷ ls) ≡ put text (output capacity setting e (n + 1) ls)
output_some capacity setting d e n line ls text h is = output_line capacity setting d n line ls (Some (text, e)) (fits capacity setting d line h ∙ is)

output_none : (capacity : ℕ) (setting : Setting) (d : Node capacity) (n : ℕ) (line : List ℕ) (ls : List (List ℕ)) → length line ≤ 4096 → answer_of capacity setting d line ≡ None
    → output capacity setting d n (line ∷ ls) ≡ record { text = []; bad_line = Some n }
output_none capacity setting d n line ls h e = output_line capacity setting d n line ls None (fits capacity setting d line h ∙ e)

output_long : (capacity : ℕ) (setting : Setting) (d : Node capacity) (n : ℕ) (line : List ℕ) (ls : List (List ℕ)) → 4096 < length line
    → output capacity setting d n (line ∷ ls) ≡ record { text = []; bad_line = Some n }
output_long capacity setting d n line ls h = output_line capacity setting d n line ls None (long capacity setting d line h)

nothing : (held holds : Option (List ℕ)) → Keeps held holds → Appends held holds []
nothing None holds k = tt
nothing (Some xs) None k = absurd k
nothing (Some xs) (Some ys) k = k ∙ sym (append-nil xs)

unchanged : (held : Option (List ℕ)) → Keeps held held
unchanged None = tt
unchanged (Some xs) = refl

-- a line that is not answered ends the run
failed : (capacity : ℕ) (setting : Setting) (old new : Node capacity) (n : ℕ) (line : List ℕ) (ls : List (List ℕ)) (held holds : Option (List ℕ)) (e : Fault)
    → length line ≤ 4096 → Served capacity setting old new n line held holds (Err e) → Ended held holds (output capacity setting old n (line ∷ ls)) (Faulty e)
failed capacity setting old new n line ls held holds (Line k) h s =
    subst (λ out. Ended held holds out (Faulty (Line k))) (sym (output_none capacity setting old n line ls h s.1)) (ap Some (sym s.0), nothing held holds s.2)
failed capacity setting old new n line ls held holds Read h s = absurd s
failed capacity setting old new n line ls held holds (Scenario f) h s = absurd s
failed capacity setting old new n line ls held holds (Step k f) h s = absurd s
failed capacity setting old new n line ls held holds (Fine k) h s = absurd s
failed capacity setting old new n line ls held holds (Transcript f) h s = absurd s
failed capacity setting old new n line ls held holds (Check f) h s = absurd s
failed capacity setting old new n line ls held holds (Names f) h s = absurd s
failed capacity setting old new n line ls held holds Tables h s = absurd s
failed capacity setting old new n line ls held holds Thread h s = absurd s
failed capacity setting old new n line ls held holds Gate h s = absurd s
failed capacity setting old new n line ls held holds Write h s =
    subst (λ out. Ended held holds out (Faulty Write)) (sym (output_some capacity setting old new n line ls s.0 h s.1)) (some_before s.0 _ (answer_some capacity setting old new line s.0 s.1))
failed capacity setting old new n line ls held holds OutOfMemory h s = ([], (output capacity setting old n (line ∷ ls)).text, refl, nothing held holds s)

-- a line that isn't answered is no fault of a reader
pub served_told : (capacity : ℕ) (setting : Setting) (old new : Node capacity) (n : ℕ) (line : List ℕ) (held holds : Option (List ℕ)) (e : Fault) → Served capacity setting old new n line held holds (Err e) → e ≢ Read
served_told capacity setting old new n line held holds e s is = subst (λ f. Served capacity setting old new n line held holds (Err f)) is s

pub turned_line : (capacity : ℕ) (setting : Setting) (left rest held holds : Option (List ℕ)) (old new : Node capacity) (n : ℕ) (line : List ℕ)
    → ReadsFront 4096 left rest line FrontLine → length line ≤ 4096 → Served capacity setting old new n line held holds (Ok tt)
    → Turned capacity setting left rest held holds old new n (Ok true)
turned_line capacity setting None rest held holds old new n line f h s = tt
turned_line capacity setting (Some ys) rest held holds old new n line f h s = (
  f.0,
  f.1,
  s.0,
  ap (output capacity setting old n) (lines_line ys line f.0 f.2) ∙ output_some capacity setting old new n line (lines_of f.0) s.0 h s.1,
  s.2,
)

pub turned_line_err : (capacity : ℕ) (setting : Setting) (left rest held holds : Option (List ℕ)) (old new : Node capacity) (n : ℕ) (line : List ℕ) (e : Fault)
    → ReadsFront 4096 left rest line FrontLine → length line ≤ 4096 → Served capacity setting old new n line held holds (Err e)
    → Turned capacity setting left rest held holds old new n (Err e)
turned_line_err capacity setting None rest held holds old new n line e f h s = tt
turned_line_err capacity setting (Some ys) rest held holds old new n line e f h s =
    subst (λ ls. Ended held holds (output capacity setting old n ls) (Faulty e)) (sym (lines_line ys line f.0 f.2)) (failed capacity setting old new n line (lines_of f.0) held holds e h s)

pub turned_rest : (capacity : ℕ) (setting : Setting) (left rest held holds : Option (List ℕ)) (old new : Node capacity) (n : ℕ) (line : List ℕ)
    → ReadsFront 4096 left rest line FrontRest → 0 < length line → length line ≤ 4096 → Served capacity setting old new n line held holds (Ok tt)
    → Turned capacity setting left rest held holds old new n (Ok false)
turned_rest capacity setting None rest held holds old new n line f some h s = tt
turned_rest capacity setting (Some ys) rest held holds old new n [] f some h s = absurd (omega arith)
turned_rest capacity setting (Some ys) rest held holds old new n (b ∷ bs) f some h s = (
  s.0,
  ap (output capacity setting old n) (lines_last ys b bs f.2.0) ∙ output_some capacity setting old new n (b ∷ bs) [] s.0 h s.1,
  s.2,
)

pub turned_rest_err : (capacity : ℕ) (setting : Setting) (left rest held holds : Option (List ℕ)) (old new : Node capacity) (n : ℕ) (line : List ℕ) (e : Fault)
    → ReadsFront 4096 left rest line FrontRest → 0 < length line → length line ≤ 4096 → Served capacity setting old new n line held holds (Err e)
    → Turned capacity setting left rest held holds old new n (Err e)
turned_rest_err capacity setting None rest held holds old new n line e f some h s = tt
turned_rest_err capacity setting (Some ys) rest held holds old new n [] e f some h s = absurd (omega arith)
turned_rest_err capacity setting (Some ys) rest held holds old new n (b ∷ bs) e f some h s =
    subst (λ ls. Ended held holds (output capacity setting old n ls) (Faulty e)) (sym (lines_last ys b bs f.2.0)) (failed capacity setting old new n (b ∷ bs) [] held holds e h s)

pub turned_none : (capacity : ℕ) (setting : Setting) (left rest held : Option (List ℕ)) (old : Node capacity) (n : ℕ) (line : List ℕ)
    → ReadsFront 4096 left rest line FrontRest → length line ≡ 0 → Turned capacity setting left rest held held old old n (Ok false)
turned_none capacity setting None rest held old n line f h = tt
turned_none capacity setting (Some ys) rest held old n [] f h = ([], ap (output capacity setting old n) (lines_none ys f.2.0), nothing held held (unchanged held))
turned_none capacity setting (Some ys) rest held old n (b ∷ bs) f h = absurd (omega arith)

pub turned_long : (capacity : ℕ) (setting : Setting) (left rest held : Option (List ℕ)) (old : Node capacity) (n : ℕ) (line : List ℕ)
    → ReadsFront 4096 left rest line TooLong → Turned capacity setting left rest held held old old n (Err (Line n))
turned_long capacity setting None rest held old n line f = tt
turned_long capacity setting (Some ys) rest held old n line f =
    let l = lines_long ys (omega arith) in
    subst (λ out. Ended held held out (Faulty (Line n))) (sym (ap (output capacity setting old n) l.1 ∙ output_long capacity setting old n _ l.0 f.2.0)) (refl, nothing held held (unchanged held))

appends_more : (held holds new : Option (List ℕ)) (a b : List ℕ) → Appends held holds a → Appends holds new b → Appends held new (a ++ b)
appends_more None holds new a b h k = tt
appends_more (Some xs) None new a b h k = absurd h
appends_more (Some xs) (Some ys) None a b h k = absurd k
appends_more (Some xs) (Some ys) (Some zs) a b h k = k ∙ ap (λ l. l ++ b) h ∙ append_assoc xs a b

-- the end of what is left is the end of the whole
pub ended_on_way : (held holds new : Option (List ℕ)) (front : List ℕ) (out rest : Output) (e : Fault)
    → out ≡ put front rest → Appends held holds front → Ended holds new rest (Faulty e) → Ended held new out (Faulty e)
ended_on_way held holds new front out rest (Line k) p a s =
    subst (λ o. Ended held new o (Faulty (Line k))) (sym p) (s.0, appends_more held holds new front rest.text a s.1)
ended_on_way held holds new front out rest Read p a s =
    subst (λ o. Ended held new o (Faulty Read)) (sym p) (front ++ s.0, s.1, ap (λ t. front ++ t) s.2 ∙ sym (append_assoc front s.0 s.1), appends_more held holds new front s.0 a s.3)
ended_on_way held holds new front out rest Write p a s = subst (λ o. Ended held new o (Faulty Write)) (sym p) (some_behind front rest.text s)
ended_on_way held holds new front out rest (Scenario f) p a s = absurd s
ended_on_way held holds new front out rest (Step k f) p a s = absurd s
ended_on_way held holds new front out rest (Fine k) p a s = absurd s
ended_on_way held holds new front out rest (Transcript f) p a s = absurd s
ended_on_way held holds new front out rest (Check f) p a s = absurd s
ended_on_way held holds new front out rest (Names f) p a s = absurd s
ended_on_way held holds new front out rest Tables p a s = absurd s
ended_on_way held holds new front out rest Thread p a s = absurd s
ended_on_way held holds new front out rest Gate p a s = absurd s
ended_on_way held holds new front out rest OutOfMemory p a s =
    subst (λ o. Ended held new o (Faulty OutOfMemory)) (sym p) (front ++ s.0, s.1, ap (λ t. front ++ t) s.2 ∙ sym (append_assoc front s.0 s.1), appends_more held holds new front s.0 a s.3)

-- the left text of a way, and what was written on it
turned_at : (capacity : ℕ) (setting : Setting) (left rest held holds : Option (List ℕ)) (old new : Node capacity) (n : ℕ) (r : Result Bool Fault) (ys : List ℕ) → left ≡ Some ys
    → Turned capacity setting left rest held holds old new n r → Turned capacity setting (Some ys) rest held holds old new n r
turned_at capacity setting left rest held holds old new n r ys e t = subst (λ l. Turned capacity setting l rest held holds old new n r) e t

-- a run on its way, for a text that may be unknown
abbrev pub Way : (capacity : ℕ) → Setting → Option (List ℕ) → Option (List ℕ) → Option (List ℕ) → Option (List ℕ) → Node capacity → ℕ → Type 0
Way capacity setting text left held holds node n = IfSome text (λ known. OnTheWay capacity setting (whole_output capacity setting (lines_of known)) left held holds node n)

pub way_begins : (capacity : ℕ) (setting : Setting) (text held : Option (List ℕ)) → Way capacity setting text text held held (new_node capacity setting.place) 1
way_begins capacity setting None held = tt
way_begins capacity setting (Some xs) held = (xs, refl, [], refl, nothing held held (unchanged held))

pub way_on : (capacity : ℕ) (setting : Setting) (text left rest held holds new : Option (List ℕ)) (d e : Node capacity) (n : ℕ)
    → Way capacity setting text left held holds d n → Turned capacity setting left rest holds new d e n (Ok true) → Way capacity setting text rest held new e (n + 1)
way_on capacity setting None left rest held holds new d e n w t = tt
way_on capacity setting (Some xs) left rest held holds new d e n w t =
    let u = turned_at capacity setting left rest holds new d e n (Ok true) w.0 w.1 t in (
      u.0,
      u.1,
      w.2 ++ u.2,
      w.3 ∙ ap (put w.2) u.3 ∙ ap (λ t. record { text = t; bad_line = (output capacity setting e (n + 1) (lines_of u.0)).bad_line }) (sym (append_assoc w.2 u.2 (output capacity setting e (n + 1) (lines_of u.0)).text)),
      appends_more held holds new w.2 u.2 w.4 u.4,
    )

pub way_fails : (capacity : ℕ) (setting : Setting) (text left rest held holds new : Option (List ℕ)) (d e : Node capacity) (n : ℕ) (fault : Fault)
    → Way capacity setting text left held holds d n → Turned capacity setting left rest holds new d e n (Err fault) → Ran capacity setting text held new (Err fault)
way_fails capacity setting None left rest held holds new d e n fault w t = tt
way_fails capacity setting (Some xs) left rest held holds new d e n fault w t =
    let u = turned_at capacity setting left rest holds new d e n (Err fault) w.0 w.1 t in
    ended_on_way held holds new w.2 (whole_output capacity setting (lines_of xs)) (output capacity setting d n (lines_of w.0)) fault w.3 w.4 u

last : (capacity : ℕ) (setting : Setting) (held holds new : Option (List ℕ)) (out : Output) (front : List ℕ) (e : Node capacity) (r : Result Unit Fault)
    → out ≡ put front (output capacity setting e 0 []) → Appends held holds front → Finished capacity e holds new r
    → elim r as (λ _. Type 0) [ Ok _ ↦ Ended held new out Certified | Err f ↦ Ended held new out (Faulty f) ]
last capacity setting held holds new out front e (Ok _) p a f = subst (λ o. Ended held new o Certified) (sym p) (refl, appends_more held holds new front (output capacity setting e 0 []).text a f)
last capacity setting held holds new out front e (Err (Line k)) p a f = absurd f
last capacity setting held holds new out front e (Err Read) p a f = absurd f
last capacity setting held holds new out front e (Err (Scenario g)) p a f = absurd f
last capacity setting held holds new out front e (Err (Step k g)) p a f = absurd f
last capacity setting held holds new out front e (Err (Fine k)) p a f = absurd f
last capacity setting held holds new out front e (Err (Transcript g)) p a f = absurd f
last capacity setting held holds new out front e (Err (Check g)) p a f = absurd f
last capacity setting held holds new out front e (Err (Names g)) p a f = absurd f
last capacity setting held holds new out front e (Err Tables) p a f = absurd f
last capacity setting held holds new out front e (Err Thread) p a f = absurd f
last capacity setting held holds new out front e (Err Gate) p a f = absurd f
last capacity setting held holds new out front e (Err Write) p a f = subst (λ o. Ended held new o (Faulty Write)) (sym p) (some_behind front (output capacity setting e 0 []).text (counter_some (counters_of capacity e)))
last capacity setting held holds new out front e (Err OutOfMemory) p a f =
    subst (λ o. Ended held new o (Faulty OutOfMemory)) (sym p) (front ++ [], (output capacity setting e 0 []).text, ap (λ l. l ++ (output capacity setting e 0 []).text) (sym (append-nil front)), appends_more held holds new front [] a (nothing holds new f))

pub way_ends : (capacity : ℕ) (setting : Setting) (text left rest held holds mid new : Option (List ℕ)) (d e : Node capacity) (n : ℕ) (r : Result Unit Fault)
    → Way capacity setting text left held holds d n → Turned capacity setting left rest holds mid d e n (Ok false) → Finished capacity e mid new r → Ran capacity setting text held new r
way_ends capacity setting None left rest held holds mid new d e n (Ok _) w t f = tt
way_ends capacity setting None left rest held holds mid new d e n (Err _) w t f = tt
way_ends capacity setting (Some xs) left rest held holds mid new d e n r w t f =
    let u = turned_at capacity setting left rest holds mid d e n (Ok false) w.0 w.1 t in
    whole r (last capacity setting held mid new (whole_output capacity setting (lines_of xs)) (w.2 ++ u.0) e r
    (w.3 ∙ ap (put w.2) u.1 ∙ ap (λ t. record { text = t; bad_line = None }) (sym (append_assoc w.2 u.0 (output capacity setting e 0 []).text)))
    (appends_more held holds mid w.2 u.0 w.4 u.2) f)
  where
    whole : (r : Result Unit Fault) → elim r as (λ _. Type 0) [ Ok _ ↦ Ended held new (whole_output capacity setting (lines_of xs)) Certified | Err f ↦ Ended held new (whole_output capacity setting (lines_of xs)) (Faulty f) ]
        → Ran capacity setting (Some xs) held new r
    whole (Ok _) h = h
    whole (Err f) h = h
