-- Which observed copy is which expected one. In a turn each observed copy that isn't matched, in their order, gets the first expected copy that
-- is alone and fits it.
--     fits       whether an observed copy may be matched with an expected one
--     found      the first expected copy that is alone and fits
--     turned     what a turn makes of all
--     matched    three turns: the same in time, the same too late, the same frame altered
use Rattle.std.specs.Prelude.{ℕ, ◌+◌, ◌&&◌, Bool, true, false, List, [], ◌∷◌, length, drop, map, replicate, slice_get, unwrap_or, Option, Some, None, if◌then◌else◌}
use Rattle.std.specs.Borrow.{Bor}
use Rattle.std.specs.List.{slice_set}
use Rattle.hsr_tap_device.specs.Words.{is_same_end}
use Rattle.hsr_tap_device.specs.declared.device.Times.{Times}
use Rattle.hsr_playback.specs.declared.expected.Expected.{Expected}
use Rattle.hsr_playback.specs.declared.passage.Passage.{Passage}
use Rattle.hsr_judging.specs.Agreement.{is_equal}
use Rattle.hsr_judging.specs.Alikeness.{is_alike}
use Rattle.hsr_judging.specs.Windows.{has, in_time, is_ahead, is_over, late}
use Rattle.hsr_judging.specs.declared.agreement.Rule.{Rule}
use Rattle.hsr_judging.specs.declared.matching.Got.{Got}
use Rattle.hsr_judging.specs.declared.matching.Turn.{Turn}
use Rattle.hsr_judging.specs.declared.matching.Word.{Word}
use Rattle.hsr_judging.specs.declared.matching.Word.TheVariants.{Same, Late, Altered}
use Rattle.hsr_judging.specs.declared.window.Window.{Window}

-- the observed copies behind their references
abbrev pub views : List (Bor Passage) → List Passage
views ps = map (λ p. p.now) ps

-- ---- one observed copy and one expected one

-- too late copies have to say the same too
abbrev pub says : Word → Rule → Expected → Passage → Bool
says Same rule e s = is_equal rule e s
says Late rule e s = is_equal rule e s
says Altered rule e s = is_alike rule e s

unfoldable pub fits : Turn → Expected → Passage → Bool
fits t e s = is_same_end e.out s.end && (has t.window e.moment s.moment && says t.word t.rule e s)

-- ---- the first that fits

-- how many copies in front have a window that is over
abbrev pub over_front : Window → ℕ → List Expected → ℕ
over_front w at [] = 0
over_front w at (e ∷ es) = if is_over w e.moment at then over_front w at es + 1 else 0

abbrev pub is_alone : List Bool → ℕ → Bool
is_alone alone n = unwrap_or (slice_get alone n) false

-- the first copy that is alone and fits, among those from an index on; none where a window has not begun yet
abbrev pub first_alone : Turn → List Bool → Passage → ℕ → List Expected → Option ℕ
first_alone t alone s n [] = None
first_alone t alone s n (e ∷ es) =
    if is_ahead t.window e.moment s.moment then None
    else (if is_alone alone n && fits t e s then Some n else first_alone t alone s (n + 1) es)

-- the first copy that is alone and fits, from the first on whose window isn't over
abbrev pub found : Turn → List Expected → List Bool → Passage → Option ℕ
found t es alone s = let n = over_front t.window s.moment es in first_alone t alone s n (drop n es)

-- ---- a turn

-- what an observed copy gets, and which expected copies are alone then
abbrev pub given : Word → List Bool → Option ℕ → Option Got × List Bool
given word alone None = (None, alone)
given word alone (Some n) = (Some (record { expected = n; word = word }), slice_set alone n false)

-- what is matched stays so
abbrev pub got_by : Turn → List Expected → List Bool → Option Got → Passage → Option Got × List Bool
got_by t es alone (Some got) s = (Some got, alone)
got_by t es alone None s = given t.word alone (found t es alone s)

-- what each observed copy has, and which expected copies are alone
abbrev pub Matched : Type 0
Matched = List (Option Got) × List Bool

abbrev pub in_front : Option Got → Matched → Matched
in_front got m = (got ∷ m.0, m.1)

abbrev pub turned : Turn → List Expected → List Bool → List (Option Got) → List Passage → Matched
turned t es alone [] ss = ([], alone)
turned t es alone (g ∷ gs) [] = (g ∷ gs, alone)
turned t es alone (g ∷ gs) (s ∷ ss) = let y = got_by t es alone g s in in_front y.0 (turned t es y.1 gs ss)

-- ---- three turns

abbrev pub turn_of : Times → Rule → Word → Turn
turn_of times rule Same = record { word = Same; window = in_time times; rule = rule }
turn_of times rule Late = record { word = Late; window = late times; rule = rule }
turn_of times rule Altered = record { word = Altered; window = in_time times; rule = rule }

-- at first no observed copy is matched, and each expected one is alone
abbrev pub start : List Expected → List Passage → Matched
start es ss = (replicate (length ss) None, replicate (length es) true)

abbrev pub next_turn : Turn → List Expected → List Passage → Matched → Matched
next_turn t es ss m = turned t es m.1 m.0 ss

unfoldable pub matched : Times → Rule → List Expected → List Passage → Matched
matched times rule es ss =
    next_turn (turn_of times rule Altered) es ss
    (next_turn (turn_of times rule Late) es ss
    (next_turn (turn_of times rule Same) es ss (start es ss)))
