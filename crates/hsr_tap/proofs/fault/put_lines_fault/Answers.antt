use Rattle.hsr_tap.proofs.Wording.{no_such_name}
use Rattle.hsr_tap.proofs.fault.put_lines_fault.Goals as goal

pub returns-in_ok-put-in-NoSuchName : goal.returns-in_ok-put-in-NoSuchName
returns-in_ok-put-in-NoSuchName c =
    no_such_name c.put_shown.result _ _ _ _ _ _ c.in_ok-put-in-NoSuchName.ensures.ok c.as_slice.ensures c.in-NoSuchName.is c.put_shown.ensures
