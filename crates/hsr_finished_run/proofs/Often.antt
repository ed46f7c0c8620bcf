-- Lists that hold each copy as often, as hsr_run_index has it.
pub use Rattle.hsr_run_index.proofs.Often.{in_order}
