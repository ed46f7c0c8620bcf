use Rattle.hsr_run_tables.proofs.Growing.{whole}
use Rattle.hsr_run_tables.proofs.load.table_of.Goals as goal

pub returns : goal.returns
returns c = whole _ _ _ _ _ c.text_of.ensures c.in_ok-put_loads.ensures c.in_ok-table.ensures.text
