-- Each kind of node is read again from its word.
use Rattle.std.proofs.Common.{◌≡◌, Some, refl}
use Rattle.hsr_options.specs.Roles.{node_role_of, node_role_word}
use Rattle.hsr_options.specs.declared.role.NodeRole.{NodeRole}
use Rattle.hsr_options.specs.declared.role.NodeRole.TheVariants.{Danh, RedBox, QuadBox}

pub role_again : (role : NodeRole) → node_role_of (node_role_word role) ≡ Some role
role_again Danh = refl
role_again RedBox = refl
role_again QuadBox = refl
