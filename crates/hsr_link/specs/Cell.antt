-- What is known of a link under a lock.
use Rattle.std.specs.Prelude.{◌||◌, Bool, true, false, is_some}
use Rattle.hsr_link.specs.Rows.{first_copy}
use Rattle.hsr_link.specs.declared.cell.Desk.{Desk}
use Rattle.hsr_link.specs.declared.row.Dir.{Dir}
use Rattle.hsr_link.specs.declared.row.Fate.{Fate}
use Rattle.hsr_link.specs.declared.row.Fate.TheVariants.{Queued, LostDown, LostOverrun}

-- what may become of a copy at once
abbrev pub is_put_fate : Fate → Bool
is_put_fate Queued = true
is_put_fate LostDown = true
is_put_fate LostOverrun = true
is_put_fate _ = false

-- a copy waits in the direction, or nobody is to wait for one any more
abbrev pub is_ready : Desk → Dir → Bool
is_ready desk dir = desk.closed || is_some (first_copy dir desk.link.rows)
