-- The copies that a record and rows tell of, as hsr_run_index has them.
pub use Rattle.hsr_run_index.specs.InOrder.{came}
