-- By what receivers know a stream of GOOSE or sampled values.
use Rattle.std.specs.Prelude.{ℕ, ⊤, Bool, true, false, List, Option, Some, None, Result, Ok, Err}
use Rattle.toml.specs.Data.{Data, Members}
use Rattle.hsr_toml.specs.Fallible.{◌>>=◌}
use Rattle.hsr_toml.specs.Tables.{at_key, between, optional, perhaps, word}
use Rattle.hsr_plan_text.specs.Fault.{faults}
use Rattle.hsr_plan_text.specs.Words.{element_of, id_of}
use Rattle.hsr_plan_text.specs.declared.fault.Key.{Key}
use Rattle.hsr_plan_text.specs.declared.fault.Key.TheVariants as key
use Rattle.hsr_plan_text.specs.declared.fault.Refusal.TheVariants.{Idle}
use Rattle.hsr_plan_text.specs.declared.fault.What.{What}
use Rattle.hsr_plan_text.specs.declared.fault.What.TheVariants.{Refused}
use Rattle.hsr_plan_text.specs.declared.plan.Kind.{Kind}
use Rattle.hsr_plan_text.specs.declared.plan.Kind.TheVariants.{Goose, SampledValues, Number}
use Rattle.hsr_plan_text.specs.declared.plan.Naming.{Naming}

-- frames of the kind name who publishes them
abbrev pub is_published : Kind → Bool
is_published Goose = true
is_published SampledValues = true
is_published (Number n) = false

abbrev pub is_sampled : Kind → Bool
is_sampled SampledValues = true
is_sampled Goose = false
is_sampled (Number n) = false

-- a key stands only where it says something
abbrev pub idle_if : Bool → Key → Option Data → Result ⊤ What
idle_if true key d = Ok tt
idle_if false key None = Ok tt
idle_if false key (Some d) = Err (Refused (Idle key))

abbrev pub only_where : Bool → Key → Members → Result ⊤ What
only_where says key ms = idle_if says key (at_key faults key ms)

-- a text that may be left out, and says something of some kinds alone
abbrev pub name_at : Kind → (List ℕ → Option (List ℕ)) → Key → Members → Result (Option (List ℕ)) What
name_at kind spelled key ms = only_where (is_published kind) key ms >>= λ _. optional faults key None (perhaps (word faults spelled)) ms

abbrev pub appid_in : Kind → Members → Result (Option ℕ) What
appid_in kind ms = only_where (is_published kind) key.Appid ms >>= λ _. optional faults key.Appid None (perhaps (between faults 0 65535)) ms

unfoldable pub naming_in : Kind → Members → Result Naming What
naming_in kind ms = do
  appid ← appid_in kind ms
  control_block ← name_at kind element_of key.ControlBlock ms
  id ← name_at kind id_of key.Id ms
  data_set ← name_at kind element_of key.DataSet ms
  Ok (record { appid = appid; control_block = control_block; id = id; data_set = data_set })
