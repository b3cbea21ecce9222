use Rattle.std.proofs.Common.{ℕ, ◌-◌, length}
use Rattle.git_staged.proofs.known.KnownFolders.seek.Given as goal

abbrev pub decreases-folders : goal.decreases-folders
decreases-folders l = length l.self.folders.now - l.next
