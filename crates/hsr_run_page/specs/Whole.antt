-- The page of a finished run.
--     IsPageWith   its text: the data is what was asked for of the run, each entry and each row once, in the order of time
use Rattle.std.specs.Prelude.{ℕ, ◌≡◌, List, None}
use Rattle.hsr_node.specs.declared.event.Probe.{Probe}
use Rattle.hsr_finished_run.specs.Finished.{Finished}
use Rattle.hsr_diagram.specs.Pictures.{Picture}
use Rattle.hsr_diagram.specs.declared.span.Span.{Span}
use Rattle.hsr_downs.specs.declared.downing.Down.{Down}
use Rattle.hsr_downs.specs.declared.draining.Drain.{Drain}
use Rattle.hsr_page.specs.Frame.{whole_text}
use Rattle.hsr_page.specs.declared.frame.Kind.TheVariants.{Run}
use Rattle.hsr_run_page.specs.Data.{data_text}
use Rattle.hsr_run_page.specs.Entries.{AreEntries}
use Rattle.hsr_run_page.specs.declared.entries.Stamped.{Stamped}

-- with this picture of what is asked for; of its body no more is said than that it is there
pub record IsPageWith (names : List (List ℕ)) (f : Finished) (title : List ℕ) (sends : List Probe) (span : Span) (downs : List Down) (drains : List Drain) (picture : Picture) (octets : List ℕ) : Type 0 where
  pub entries : List Stamped
  pub are_entries : AreEntries f.run f.plan entries
  pub body : List ℕ
  pub is_text : octets ≡ whole_text (record { kind = Run; title = title; foot = None; body = body; json = data_text names f sends span entries picture downs drains })
