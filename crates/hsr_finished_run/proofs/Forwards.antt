-- What records tell, the oldest entry first and the newest first, as hsr_run_index has it.
pub use Rattle.hsr_run_index.proofs.Forwards.{arrivals_of}
