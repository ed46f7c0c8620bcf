use Rattle.std.proofs.Common.{append_assoc}
use Rattle.hsr_diagram_text.specs.Title.{run_words}
use Rattle.hsr_diagram_text.proofs.title.put_run.Goals as goal

pub returns : goal.returns
unfolding run_words
returns c =
    rw (c.in_ok-put_number-3.ensures.ok, c.in_ok-put-3.ensures.ok, c.in_ok-put_number-2.ensures.ok, c.in_ok-put-2.ensures.ok, c.in_ok-put_number.ensures.ok, c.in_ok-put.ensures.ok) (simp append_assoc)
