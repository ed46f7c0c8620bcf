-- Each step of a link leaves each queue the list of its direction's Queued rows.
use Rattle.std.proofs.Common.{◌≡◌, ℕ, Bool, List, [], ◌∷◌, ◌++◌, length, map, take, drop, refl, Result, Ok, Err, IfOk, IfErr, arith}
use Rattle.std.proofs.lemmas.Grind.{common_steps}
use Rattle.circular_buffer.specs.Buffer.{Buffer, buffer}
use Rattle.hsr_node.specs.declared.event.Carried.{Carried}
use Rattle.hsr_link.specs.Link.{Link, add_step}
use Rattle.hsr_link.specs.Queue.{IsSound, waiting}
use Rattle.hsr_link.specs.Rows.{lost, put_fate, turned}
use Rattle.hsr_link.specs.declared.queue.Waiting.{Waiting}
use Rattle.hsr_link.specs.declared.row.Dir.{Dir}
use Rattle.hsr_link.specs.declared.row.Dir.TheVariants.{Forth, Back}
use Rattle.hsr_link.specs.declared.row.Fate.{Fate}
use Rattle.hsr_link.specs.declared.row.Row.{Row}
use Rattle.hsr_link.proofs.Lost.{waiting_lost}
use Rattle.hsr_link.proofs.Waiting.{length_waiting, waiting_push_other, waiting_turned_other}

-- a slice of as many rows, written back
pub refilled : {X : Type 0} (n : ℕ) (xs ys : List X) → length xs ≡ length ys → n ≡ length ys → take n (xs ++ drop (length xs) ys) ≡ xs
refilled n xs ys same all = grind (arith, common_steps)

-- what both answers lead to
pub by_result : {A E : Type 0} {P : Type 0} (ok : A → Type 0) (err : E → Type 0) (r : Result A E) → IfOk r ok → IfErr r err → ((x : A) → ok x → P) → ((e : E) → err e → P) → P
by_result ok err (Ok x) h k f g = f x h
by_result ok err (Err e) h k f g = g e k

pub so_ok : {A E : Type 0} (before after : A → Type 0) (r : Result A E) → IfOk r before → ((x : A) → before x → after x) → IfOk r after
so_ok before after (Ok x) h f = f x h
so_ok before after (Err e) h f = tt

pub sound_turned_forth : (capacity : ℕ) (fate : Fate) (rows new : List Row) (forth back queue : Buffer Waiting) → IsSound capacity rows forth back → new ≡ turned fate Forth rows → queue ≡ buffer (waiting Forth 0 new) forth.capacity → IsSound capacity new queue back
sound_turned_forth capacity fate rows new forth back queue i is holds = record {
  least = i.least;
  most = i.most;
  queued_forth = rw (holds, i.queued_forth);
  queued_back = rw (is, waiting_turned_other Forth Back fate 0 rows refl) i.queued_back;
}

pub sound_turned_back : (capacity : ℕ) (fate : Fate) (rows new : List Row) (forth back queue : Buffer Waiting) → IsSound capacity rows forth back → new ≡ turned fate Back rows → queue ≡ buffer (waiting Back 0 new) back.capacity → IsSound capacity new forth queue
sound_turned_back capacity fate rows new forth back queue i is holds = record {
  least = i.least;
  most = i.most;
  queued_forth = rw (is, waiting_turned_other Back Forth fate 0 rows refl) i.queued_forth;
  queued_back = rw (holds, i.queued_back);
}

pub sound_push_forth : (capacity : ℕ) (rows new : List Row) (row : Row) (forth back queue : Buffer Waiting) → IsSound capacity rows forth back → row.dir ≡ Forth → new ≡ rows ++ row ∷ [] → queue ≡ buffer (waiting Forth 0 new) forth.capacity → IsSound capacity new queue back
sound_push_forth capacity rows new row forth back queue i way is holds = record {
  least = i.least;
  most = i.most;
  queued_forth = rw (holds, i.queued_forth);
  queued_back = rw (is, waiting_push_other Forth Back rows row way refl) i.queued_back;
}

pub sound_push_back : (capacity : ℕ) (rows new : List Row) (row : Row) (forth back queue : Buffer Waiting) → IsSound capacity rows forth back → row.dir ≡ Back → new ≡ rows ++ row ∷ [] → queue ≡ buffer (waiting Back 0 new) back.capacity → IsSound capacity new forth queue
sound_push_back capacity rows new row forth back queue i way is holds = record {
  least = i.least;
  most = i.most;
  queued_forth = rw (is, waiting_push_other Back Forth rows row way refl) i.queued_forth;
  queued_back = rw (holds, i.queued_back);
}

pub sound_lost : (capacity : ℕ) (rows new : List Row) (forth back no_forth no_back : Buffer Waiting) → IsSound capacity rows forth back → new ≡ map lost rows → no_forth ≡ buffer [] forth.capacity → no_back ≡ buffer [] back.capacity → IsSound capacity new no_forth no_back
sound_lost capacity rows new forth back no_forth no_back i is f b = record {
  least = i.least;
  most = i.most;
  queued_forth = rw (f, i.queued_forth, is, waiting_lost Forth 0 rows);
  queued_back = rw (b, i.queued_back, is, waiting_lost Back 0 rows);
}

-- the answer to a put, and what it leaves
pub added : (link : Link) (dir : Dir) (carried : Carried) (injected : Bool) (queue : Buffer Waiting) (fate : Fate) (new : List Row) (way : Dir) → dir ≡ way → queue ≡ buffer (waiting way 0 link.rows) link.capacity → fate ≡ put_fate link.is_cut (length queue.items) queue.capacity
    → new ≡ link.rows ++ record { dir = dir; carried = carried; injected = injected; fate = fate } ∷ []
    → (fate, record { rows = new; is_cut = link.is_cut; capacity = link.capacity }) ≡ add_step link dir carried injected
added link dir carried injected queue fate new way goes holds becomes is =
    let judged = rw (holds, length_waiting way 0 link.rows, ← goes) at becomes in
    rw (is, judged)
