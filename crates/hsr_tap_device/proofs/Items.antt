-- Each item of an array, and each key of a table.
use Rattle.std.proofs.Common.{◌≡◌, ℕ, ◌+◌, ◌<◌, ◌∙◌, ◌++◌, length, get_or, drop, List, [], ◌∷◌, Result, Ok, ap, sym, subst, string_bytes}
use Rattle.std.specs.Prelude.{⊤}
use Rattle.toml.specs.View.{view, items_view, members_view}
use Rattle.toml.specs.declared.value.Value.{Value}
use Rattle.toml.proofs.Views.{Entry, items_view-drop}
use Rattle.hsr_toml.specs.Fallible.{◌>>=◌, each_item, each_member}
use Rattle.hsr_toml.proofs.Fallible.{stays}
use Rattle.hsr_toml.proofs.Lists.{item_fail, item_step, member_fail, member_step}
use Rattle.hsr_node.specs.declared.role.Role.{Role}
use Rattle.hsr_tap_device.specs.Fallible.{Fails}
use Rattle.hsr_tap_device.specs.Fault.{is_memory}
use Rattle.hsr_tap_device.specs.Lists.{down, ignored_by, ignored_from, interface, station}
use Rattle.hsr_tap_device.specs.Reading.{kind_of, kinds}
use Rattle.hsr_tap_device.specs.Words.{key_among, top_keys}
use Rattle.hsr_tap_device.specs.declared.device.Down.{Down}
use Rattle.hsr_tap_device.specs.declared.device.Ignored.{Ignored}
use Rattle.hsr_tap_device.specs.declared.device.Named.{Named}
use Rattle.hsr_tap_device.specs.declared.fault.DeviceFault.{DeviceFault}

-- ---- stations

pub stations_step : (seen : List (List ℕ)) (vs : List Value) (i : ℕ) (d : Value) (x : List ℕ) → i < length vs → station (view (get_or vs i d)) ≡ Ok x
    → each_item station seen (items_view (drop i vs)) ≡ each_item station (seen ++ x ∷ []) (items_view (drop (i + 1) vs))
stations_step = item_step station

pub stations_fail : (seen : List (List ℕ)) (vs : List Value) (i : ℕ) (d : Value) (what : DeviceFault) (whole : Result (List (List ℕ)) DeviceFault) → i < length vs
    → each_item station seen (items_view (drop i vs)) ≡ whole → Fails what (station (view (get_or vs i d))) → Fails what whole
stations_fail = item_fail station is_memory

-- ---- ports that are down

pub downs_step : (role : Role) (seen : List Down) (vs : List Value) (i : ℕ) (d : Value) (x : Down) → i < length vs → down role (view (get_or vs i d)) ≡ Ok x
    → each_item (down role) seen (items_view (drop i vs)) ≡ each_item (down role) (seen ++ x ∷ []) (items_view (drop (i + 1) vs))
downs_step role = item_step (down role)

pub downs_fail : (role : Role) (seen : List Down) (vs : List Value) (i : ℕ) (d : Value) (what : DeviceFault) (whole : Result (List Down) DeviceFault) → i < length vs
    → each_item (down role) seen (items_view (drop i vs)) ≡ whole → Fails what (down role (view (get_or vs i d))) → Fails what whole
downs_fail role = item_fail (down role) is_memory

-- ---- interfaces

pub interfaces_step : (role : Role) (seen : List Named) (es rest : List Entry) (e : Entry) (x : Named) → es ≡ e ∷ rest → interface role (string_bytes e.0) (view e.1) ≡ Ok x
    → each_member (interface role) seen (members_view es) ≡ each_member (interface role) (seen ++ x ∷ []) (members_view rest)
interfaces_step role = member_step (interface role)

pub interfaces_fail : (role : Role) (seen : List Named) (es rest : List Entry) (e : Entry) (what : DeviceFault) (whole : Result (List Named) DeviceFault) → es ≡ e ∷ rest
    → each_member (interface role) seen (members_view es) ≡ whole → Fails what (interface role (string_bytes e.0) (view e.1)) → Fails what whole
interfaces_fail role = member_fail (interface role) is_memory

-- ---- what need not agree

next_word : (s : Ignored) (vs : List Value) (i : ℕ) (d : Value) → i < length vs
    → ignored_from s (items_view (drop i vs)) ≡ (ignored_by s (view (get_or vs i d)) >>= λ t. ignored_from t (items_view (drop (i + 1) vs)))
next_word s vs i d h = ap (ignored_from s) (items_view-drop vs i d h)

pub ignored_step : (s t : Ignored) (vs : List Value) (i : ℕ) (d : Value) → i < length vs → ignored_by s (view (get_or vs i d)) ≡ Ok t
    → ignored_from s (items_view (drop i vs)) ≡ ignored_from t (items_view (drop (i + 1) vs))
ignored_step s t vs i d h e = next_word s vs i d h ∙ ap (λ r. r >>= λ t. ignored_from t (items_view (drop (i + 1) vs))) e

pub ignored_fail : (s : Ignored) (vs : List Value) (i : ℕ) (d : Value) (what : DeviceFault) (whole : Result Ignored DeviceFault) → i < length vs
    → ignored_from s (items_view (drop i vs)) ≡ whole → Fails what (ignored_by s (view (get_or vs i d))) → Fails what whole
ignored_fail s vs i d what whole h same f =
    subst (Fails what) (sym (next_word s vs i d h) ∙ same) (stays is_memory what (ignored_by s (view (get_or vs i d))) (λ t. ignored_from t (items_view (drop (i + 1) vs))) f)

-- ---- keys and kinds

pub kinds_step : (es rest : List Entry) (e : Entry) → es ≡ e ∷ rest → kind_of (string_bytes e.0) (key_among top_keys (string_bytes e.0)) (view e.1) ≡ Ok tt
    → kinds (members_view es) ≡ kinds (members_view rest)
kinds_step es rest e same got = ap (λ l. kinds (members_view l)) same ∙ ap (λ r. r >>= λ _. kinds (members_view rest)) got

pub kinds_fail : (es rest : List Entry) (e : Entry) (what : DeviceFault) (whole : Result ⊤ DeviceFault) → es ≡ e ∷ rest → kinds (members_view es) ≡ whole
    → Fails what (kind_of (string_bytes e.0) (key_among top_keys (string_bytes e.0)) (view e.1)) → Fails what whole
kinds_fail es rest e what whole same all f =
    subst (Fails what) (sym (ap (λ l. kinds (members_view l)) same) ∙ all) (stays is_memory what (kind_of (string_bytes e.0) (key_among top_keys (string_bytes e.0)) (view e.1)) (λ _. kinds (members_view rest)) f)
