-- The words of faults, put one behind the other.
use Rattle.std.proofs.Common.{◌≡◌, ℕ, List, ◌++◌, append_assoc, ap, codes, map, sym, ◌∙◌, OnOk, Result, Ok, Err}
use Rattle.hsr_node_lines.specs.declared.fault.LinesFault.{LinesFault}
use Rattle.hsr_node_lines.specs.declared.fault.LinesFault.TheVariants.{NoSuchName}
use Rattle.hsr_toml.specs.Line.{shown}
use Rattle.hsr_tap.specs.Fault.{lines_words}

pub no_such_name : {A E : Type 0} (r : Result A E) (old middle new name slice : List ℕ) (fault : LinesFault) → middle ≡ old ++ codes "device interface no-such-name " → slice ≡ name → fault ≡ NoSuchName name
    → OnOk r (new ≡ middle ++ map shown slice) → OnOk r (new ≡ old ++ lines_words fault)
no_such_name (Err e) old middle new name slice fault first same is put = put
no_such_name (Ok done) old middle new name slice fault first same is put =
    put
    ∙ (ap (λ (m : List ℕ). m ++ map shown slice) first
    ∙ (append_assoc old (codes "device interface no-such-name ") (map shown slice)
    ∙ (ap (λ (s : List ℕ). old ++ (codes "device interface no-such-name " ++ map shown s)) same ∙ sym (ap (λ (f : LinesFault). old ++ lines_words f) is))))
