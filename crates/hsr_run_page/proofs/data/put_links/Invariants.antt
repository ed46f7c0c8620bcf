use Rattle.std.proofs.Common.{◌≡◌, ◌++◌, take}
use Rattle.hsr_run_page.specs.Data.{link_rows}
use Rattle.hsr_run_page.proofs.data.put_links.Given as goal

abbrev pub invariant-loop-link : goal.invariant-loop-link
invariant-loop-link l = l.text.items ≡ l.initial.text.items ++ link_rows l.places (take l.link-index l.links)
