-- Where a port leads, and what came, left and was lost there.
use Rattle.std.specs.Prelude.{ℕ, ◌&&◌, Bool, true, false, if◌then◌else◌, length, count_by, Option, option_map}
use Rattle.std.specs.List.{sum_by}
use Rattle.hsr_link.specs.Rows.{is_lost, is_same_dir, is_taken}
use Rattle.hsr_link.specs.declared.row.Dir.{Dir}
use Rattle.hsr_link.specs.declared.row.Dir.TheVariants.{Forth, Back}
use Rattle.hsr_link.specs.declared.row.Row.{Row}
use Rattle.hsr_topology.specs.Links.{link_from}
use Rattle.hsr_topology.specs.declared.end.End.{End}
use Rattle.hsr_run_laws.specs.Run.{Run, ends_of, rows_of, to_end}
use Rattle.hsr_devices.specs.declared.port.Copies.{Copies}
use Rattle.hsr_devices.specs.declared.port.Copies.TheVariants.{Put, Taken}
use Rattle.hsr_devices.specs.declared.port.PortLink.{PortLink}

-- the directions of the copies that leave by the first end of a link or its second, and of those that come to it
abbrev pub out_dir : Bool → Dir
out_dir true = Forth
out_dir false = Back

abbrev pub in_dir : Bool → Dir
in_dir true = Back
in_dir false = Forth

-- a row is of a lost copy of a direction
abbrev pub is_loss : Dir → Row → Bool
is_loss dir row = is_same_dir dir row.dir && is_lost row.fate

-- a row is of a copy of a direction that was put on the link, as all are; or of one that was taken from it
abbrev pub is_among : Copies → Dir → Row → Bool
is_among Put dir row = is_same_dir dir row.dir
is_among Taken dir row = is_same_dir dir row.dir && is_taken row.fate

-- the octets of such a copy
abbrev pub octets_among : Copies → Dir → Row → ℕ
octets_among copies dir row = if is_among copies dir row then length row.carried.octets else 0

-- a link, and whether the port is its first end
abbrev pub port_link_at : Run → ℕ × Bool → PortLink
port_link_at run at = record {
  link = at.0;
  peer = to_end (out_dir at.1) (ends_of run at.0);
  lost_in = count_by (is_loss (in_dir at.1)) (rows_of run at.0);
  lost_out = count_by (is_loss (out_dir at.1)) (rows_of run at.0);
  octets_in = sum_by (octets_among Taken (in_dir at.1)) (rows_of run at.0);
  octets_out = sum_by (octets_among Put (out_dir at.1)) (rows_of run at.0);
}

-- the link of a port
abbrev pub port_link : Run → End → Option PortLink
port_link run end = option_map (port_link_at run) (link_from 0 run.links end)
