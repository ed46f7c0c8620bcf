-- Rows of a page, one after another.
use Rattle.std.proofs.Common.{◌≡◌, ℕ, ◌+◌, List, slice_index_or, sym, subst}
use Rattle.hsr_faults.specs.Sweep.{Swept}
use Rattle.hsr_faults.specs.declared.fault.Fault.{Fault}
use Rattle.hsr_faults.proofs.Pushed.{each_more, length_more}
use Rattle.hsr_naming.specs.declared.naming.Naming.{Naming}
use Rattle.hsr_plan_page.specs.declared.facts.CaseRow.{CaseRow}
use Rattle.hsr_plan_page.specs.declared.facts.OutageRow.{OutageRow}
use Rattle.hsr_plan_sweep.specs.declared.playing.Played.{Played}
use Rattle.hsr_plan_report.specs.Cases.{AddsRow as AddsCase, AreCaseRows, IsCaseRow}
use Rattle.hsr_plan_report.specs.Outages.{AddsRow, AreOutageRows, IsOutageRow}

pub outages_more : (swept : Swept) (faults : List Fault) (n : ℕ) (fault : Fault) (rows after : List OutageRow) → ((d : Fault) → slice_index_or faults n d ≡ fault)
    → AddsRow swept fault rows after → AreOutageRows swept faults n rows → AreOutageRows swept faults (n + 1) after
outages_more swept faults n fault rows after at (row, is, same) are =
    let P : ℕ → OutageRow → Type 0 = λ i it. (d : Fault) → IsOutageRow swept (slice_index_or faults i d) it in
    let one : P n row = λ d. subst (λ f. IsOutageRow swept f row) (sym (at d)) is in
    record {
      many = length_more rows after row n same are.many;
      each = λ i d o low. each_more P rows after row n same are.many (λ k o inside f. are.each k f o inside) one i o low d;
    }

pub cases_more : (naming : Naming) (plays : List Played) (n : ℕ) (played : Played) (rows after : List CaseRow) → ((d : Played) → slice_index_or plays n d ≡ played)
    → AddsCase naming played rows after → AreCaseRows naming plays n rows → AreCaseRows naming plays (n + 1) after
cases_more naming plays n played rows after at (row, is, same) are =
    let P : ℕ → CaseRow → Type 0 = λ i it. (d : Played) → IsCaseRow naming (slice_index_or plays i d) it in
    let one : P n row = λ d. subst (λ p. IsCaseRow naming p row) (sym (at d)) is in
    record {
      many = length_more rows after row n same are.many;
      each = λ i d o low. each_more P rows after row n same are.many (λ k o inside f. are.each k f o inside) one i o low d;
    }
