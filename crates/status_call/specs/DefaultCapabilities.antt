-- The default properties of a file system.
use Rattle.std.specs.Prelude.{true}
use Rattle.status_call.specs.declared.index_as_worktree.types.Capabilities.{Capabilities}

-- Links and executability count; no listings. The listings are in `DefaultOptions`.
abbrev pub default_capabilities : Capabilities
default_capabilities = record { symlink = true; executable_bit = true }
