-- Copies, each as often, as hsr_run_index has them.
pub use Rattle.hsr_run_index.specs.Often.{is_same_carried}
unfoldable pub use Rattle.hsr_run_index.specs.Often.{AsOften}
