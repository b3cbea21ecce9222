-- The search for untracked files that a request asks for.
use Rattle.std.specs.Prelude.{Bool, true, false}
use Rattle.git_checkout.specs.declared.request.UntrackedFiles.{UntrackedFiles}
use Rattle.git_checkout.specs.declared.request.UntrackedFiles.TheVariants.{All, No, Normal}

-- Whether untracked files are asked for.
abbrev pub is_asked : UntrackedFiles → Bool
is_asked No = false
is_asked Normal = true
is_asked All = true

-- Whether each untracked file has a line, and not the folder.
abbrev pub is_each : UntrackedFiles → Bool
is_each No = false
is_each Normal = false
is_each All = true
