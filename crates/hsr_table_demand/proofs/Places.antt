-- A fact of each entry and its past, by places: it stands below, and is named here for the crates above.
pub use Rattle.hsr_finished_run.proofs.Places.{each_from, from_each, here_is, no_entry, past_length, past_more, past_with}
