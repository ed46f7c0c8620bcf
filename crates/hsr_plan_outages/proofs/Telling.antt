-- The lines of faults, one after another.
use Rattle.std.proofs.Common.{◌≡◌, ℕ, ◌+◌, ◌∙◌, ◌++◌, ◌∷◌, [], List, Bool, true, false, cond, length, slice_index_or, refl, sym, ap, subst, append_assoc, arith}
use Rattle.std.specs.Prelude.{count_by}
use Rattle.std.specs.List.{flat_map}
use Rattle.std.proofs.lemmas.List.{flat_map_more}
use Rattle.hsr_faults.specs.CutOff.{IsOutage}
use Rattle.hsr_faults.specs.Sweep.{Swept, sends_of}
use Rattle.hsr_faults.specs.declared.fault.Fault.{Fault}
use Rattle.hsr_faults.specs.declared.outage.Outage.{Outage}
use Rattle.hsr_faults.proofs.Grouped.{count_more}
use Rattle.hsr_faults.proofs.Pushed.{each_more, length_more}
use Rattle.hsr_plan_network.specs.Nodes.{Node}
use Rattle.hsr_plan_outages.specs.Lines.{is_cutting, last_line}
use Rattle.hsr_plan_outages.specs.Outages.{TellsLine, TellsLines, TellsOutages, line_of}

-- one more is counted, or none
pub one_more : (cutting all : ℕ) (b : Bool) → b ≡ true → all ≡ cutting + 1 → all ≡ cutting + cond {A = ℕ} b 1 0
one_more cutting all b is more = more ∙ ap (λ v. cutting + cond {A = ℕ} v 1 0) (sym is)

pub none_more : (cutting all : ℕ) (b : Bool) → b ≡ false → all ≡ cutting → all ≡ cutting + cond {A = ℕ} b 1 0
none_more cutting all b is same = let none : cutting ≡ cutting + 0 = omega arith in same ∙ (none ∙ ap (λ v. cutting + cond {A = ℕ} v 1 0) (sym is))

pub told_more : (nodes : List Node) (swept : Swept) (faults : List Fault) (n : ℕ) (fault : Fault) (old text new : List ℕ) (cutting all : ℕ) (cuts : Bool) →
    ((d : Fault) → slice_index_or faults n d ≡ fault) → all ≡ cutting + cond {A = ℕ} cuts 1 0 → TellsLine nodes swept fault text new cuts → TellsLines nodes swept faults n old text cutting →
    TellsLines nodes swept faults (n + 1) old new all
told_more nodes swept faults n fault old text new cutting all cuts at is line told =
    let after : List Outage = told.outages ++ line.outage ∷ [] in
    let P : ℕ → Outage → Type 0 = λ i outage. (d : Fault) → IsOutage swept.net swept.orders (sends_of swept) (slice_index_or faults i d) outage in
    let one : P n line.outage = λ d. subst (λ f. IsOutage swept.net swept.orders (sends_of swept) f line.outage) (sym (at d)) line.is in
    record {
      outages = after;
      are = record {
        many = length_more told.outages after line.outage n refl told.are.many;
        each = λ i d o low. each_more P told.outages after line.outage n refl told.are.many (λ k o inside f. told.are.each k f o inside) one i o low d;
      };
      told = line.told ∙ (ap (λ xs. xs ++ line_of nodes swept line.outage) told.told ∙ flat_map_more (line_of nodes swept) old told.outages line.outage);
      cuts = is ∙ (ap (λ b. cutting + cond {A = ℕ} b 1 0) line.cuts ∙ (ap (λ m. m + cond {A = ℕ} (is_cutting line.outage) 1 0) told.cuts ∙ sym (count_more is_cutting told.outages line.outage)));
    }

-- the lines of all faults, and the last line
pub told_all : (nodes : List Node) (swept from : Swept) (faults list : List Fault) (old text new : List ℕ) (cutting many : ℕ) →
    from ≡ swept → list ≡ faults → many ≡ length list → TellsLines nodes from list (length list) old text cutting → new ≡ text ++ last_line cutting many → TellsOutages nodes swept faults old new
told_all nodes swept from faults list old text new cutting many is lists counted told last =
    let same : TellsLines nodes swept faults (length faults) old text cutting =
    subst (λ s. TellsLines nodes s faults (length faults) old text cutting) is (subst (λ fs. TellsLines nodes from fs (length fs) old text cutting) lists told) in
    let lines : List ℕ = flat_map (line_of nodes swept) same.outages in
    let all : many ≡ length same.outages = counted ∙ (ap length lists ∙ sym same.are.many) in
    let ends : last_line cutting many ≡ last_line (count_by is_cutting same.outages) (length same.outages) =
    ap (λ m. last_line m many) same.cuts ∙ ap (λ m. last_line (count_by is_cutting same.outages) m) all in
    record {
      outages = same.outages;
      are = same.are;
      told = last ∙ (ap (λ xs. xs ++ last_line cutting many) same.told ∙ (append_assoc old lines (last_line cutting many) ∙ ap (λ ls. old ++ (lines ++ ls)) ends));
    }
