-- Any calls of a link, one after another.
use Rattle.std.specs.Prelude.{ℕ, ◌≡◌, List, [], ◌∷◌, ◌++◌, if◌then◌else◌}
use Rattle.std.specs.Option.{option_to_list}
use Rattle.hsr_node.specs.declared.event.Carried.{Carried}
use Rattle.hsr_link.specs.Link.{Link, cut_step, inject_step, mended, new_link, put_step, take_step}
use Rattle.hsr_link.specs.Rows.{is_same_dir, taken_copies}
use Rattle.hsr_link.specs.declared.row.Dir.{Dir}

-- what is done to a link
pub data Call : Type 0 where
  putting : Dir → Carried → Call
  injecting : Dir → Carried → Call
  taking : Dir → Call
  cutting : Call
  mending : Call

abbrev pub after_call : Link → Call → Link
after_call link (putting dir carried) = (put_step link dir carried).1
after_call link (injecting dir carried) = (inject_step link dir carried).1
after_call link (taking dir) = (take_step link dir).1
after_call link cutting = (cut_step link).1
after_call link mending = mended link

abbrev pub after_calls : Link → List Call → Link
after_calls link [] = link
after_calls link (call ∷ calls) = after_calls (after_call link call) calls

-- the copy that a call takes in a direction, if it does
abbrev pub given : Dir → Link → Call → List Carried
given dir link (taking from) = if is_same_dir dir from then option_to_list (take_step link from).0 else []
given dir link _ = []

-- the copies that calls take in a direction, one after another
abbrev pub all_given : Dir → Link → List Call → List Carried
all_given dir link [] = []
all_given dir link (call ∷ calls) = given dir link call ++ all_given dir (after_call link call) calls

-- Whatever is done to a new link, the copies taken in a direction are those of its Taken rows, in the same order: a
-- copy overtakes no other.
abbrev pub TakesInOrder : Type 0
TakesInOrder = (capacity : ℕ) (calls : List Call) (dir : Dir) → all_given dir (new_link capacity) calls ≡ taken_copies dir (after_calls (new_link capacity) calls).rows
