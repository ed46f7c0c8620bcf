-- Of a capture that is too large a front tells it too.
use Rattle.std.proofs.Common.{◌≡◌, inl, inr, ℕ, ◌<◌, ◌+◌, List, length, length-append, refl, sym, ap, ◌∙◌, arith, true, Option, Some, None, Result, Err}
use Rattle.std.specs.Prelude.{IfSome, nat_lt}
use Rattle.std.proofs.lemmas.Bool.{lt-ltb}
use Rattle.hsr_capture_reader.specs.Capture.{capture_of, most_octets}
use Rattle.hsr_capture_reader.specs.declared.fault.CaptureFault.TheVariants as capture
use Rattle.hsr_node_lines.specs.declared.fault.LinesFault.{LinesFault}
use Rattle.hsr_node_lines.specs.Lines.{LinesFields}
use Rattle.hsr_text.specs.Whole.{IsWhole}
use Rattle.hsr_text.specs.declared.whole.InputFault.{InputFault}
use Rattle.hsr_text.specs.declared.whole.InputFault.TheVariants as input
use Rattle.hsr_tap.specs.Tapping.{IsNoInput, IsTold, IsUntold}
use Rattle.hsr_tap.specs.Fault.{input_fault}
use Rattle.hsr_tap.specs.declared.fault.Fault.{Fault}
use Rattle.hsr_tap.specs.declared.fault.Fault.TheVariants as fault

too_large : (fcs : ℕ) (octets : List ℕ) → most_octets < length octets → capture_of fcs octets ≡ Err (record { offset = 0; fault = capture.TooLarge })
unfolding capture_of
too_large fcs octets h = let e : nat_lt most_octets (length octets) ≡ true = lt-ltb most_octets (length octets) h in rw e refl

pub same_capture : (fcs : ℕ) (all read : List ℕ) → IsWhole most_octets all read → capture_of fcs all ≡ capture_of fcs read
same_capture fcs all read (inl same) = ap (capture_of fcs) same
same_capture fcs all read (inr (more, (rest, is))) =
    let longer : length all ≡ length read + length rest = ap length is ∙ length-append read rest in
    too_large fcs all (omega arith) ∙ sym (too_large fcs read more)

told_whole : (document : Option (List ℕ)) (fcs : ℕ) (all read : List ℕ) (lines : Result LinesFields LinesFault) → capture_of fcs all ≡ capture_of fcs read → IsTold document fcs read lines → IsTold document fcs all lines
told_whole document fcs all read lines same told = record { device = told.device; capture = told.capture; is_device = told.is_device; is_capture = same ∙ told.is_capture; has_lines = told.has_lines }

untold_whole : (document : Option (List ℕ)) (fcs : ℕ) (all read : List ℕ) (e : Fault) → capture_of fcs all ≡ capture_of fcs read → IsUntold document fcs read e → IsUntold document fcs all e
untold_whole document fcs all read (fault.Device e) same h = h
untold_whole document fcs all read (fault.Capture e) same h = record { device = h.device; is_device = h.is_device; is_refused = same ∙ h.is_refused }
untold_whole document fcs all read (fault.Lines e) same h = told_whole document fcs all read (Err e) same h
untold_whole document fcs all read (fault.Stimuli e) same h = h
untold_whole document fcs all read (fault.Judge e) same h = h
untold_whole document fcs all read fault.Sources same h = h
untold_whole document fcs all read fault.NoPlanFile same h = h
untold_whole document fcs all read fault.NoPlan same h = h
untold_whole document fcs all read fault.NoDevice same h = h
untold_whole document fcs all read fault.Write same h = h
untold_whole document fcs all read fault.Read same h = h
untold_whole document fcs all read fault.Memory same h = h

pub told_of_whole : (document : Option (List ℕ)) (fcs : ℕ) (text : Option (List ℕ)) (read : List ℕ) (lines : Result LinesFields LinesFault) → IfSome text (λ all. IsWhole most_octets all read)
    → IsTold document fcs read lines → IfSome text (λ octets. IsTold document fcs octets lines)
told_of_whole document fcs None read lines whole told = tt
told_of_whole document fcs (Some all) read lines whole told = told_whole document fcs all read lines (same_capture fcs all read whole) told

pub untold_of_whole : (document : Option (List ℕ)) (fcs : ℕ) (text : Option (List ℕ)) (read : List ℕ) (e : Fault) → IfSome text (λ all. IsWhole most_octets all read)
    → IsUntold document fcs read e → IfSome text (λ octets. IsUntold document fcs octets e)
untold_of_whole document fcs None read e whole untold = tt
untold_of_whole document fcs (Some all) read e whole untold = untold_whole document fcs all read e (same_capture fcs all read whole) untold

-- a reader failed, or room was refused
pub input_failed : (e : InputFault) → IsNoInput (input_fault e)
input_failed input.Read = tt
input_failed input.Memory = tt

pub no_input : (document : Option (List ℕ)) (fcs : ℕ) (text : Option (List ℕ)) (e : Fault) → IsNoInput e → IfSome text (λ octets. IsUntold document fcs octets e)
no_input document fcs None e h = tt
no_input document fcs (Some all) fault.Read h = tt
no_input document fcs (Some all) fault.Memory h = tt
no_input document fcs (Some all) (fault.Capture e) h = absurd h
no_input document fcs (Some all) fault.NoDevice h = absurd h
no_input document fcs (Some all) (fault.Device e) h = absurd h
no_input document fcs (Some all) (fault.Lines e) h = absurd h
no_input document fcs (Some all) (fault.Stimuli e) h = absurd h
no_input document fcs (Some all) (fault.Judge e) h = absurd h
no_input document fcs (Some all) fault.Sources h = absurd h
no_input document fcs (Some all) fault.NoPlanFile h = absurd h
no_input document fcs (Some all) fault.NoPlan h = absurd h
no_input document fcs (Some all) fault.Write h = absurd h
