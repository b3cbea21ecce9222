-- The specification of a collector's entries.
use Rattle.bstr.specs.BStr.{bstr_bytes}
use Rattle.status_call.specs.Visits.{visit}
use Rattle.status_walk.specs.WalkedNodes.{walked_of}
use Rattle.status_joined.specs.declared.index_as_worktree_with_renames.entry.Entry.{Entry}
use Rattle.status_joined.specs.declared.index_as_worktree_with_renames.entry.Entry.TheVariants as entries
use Rattle.status_joined.specs.declared.index_as_worktree_with_renames.entry.RewriteSource.{RewriteSource}
use Rattle.status_joined.specs.declared.index_as_worktree_with_renames.entry.RewriteSource.TheVariants.{RewriteFromIndex, CopyFromDirectoryEntry}
use Rattle.status_joined.specs.Items.{Item, Reported, tracked, walked, modification, contents, rewrite}

-- A record, a node, or a rewrite with source, destination, its id, and whether it is a copy. This is the source.
abbrev pub reported_source : {T U : Type 0} → RewriteSource T U → Item T U
reported_source (RewriteFromIndex es entry place path status) =
    tracked (visit es.now entry.now place (bstr_bytes path) status)
reported_source (CopyFromDirectoryEntry entry collapsed id) = walked (walked_of entry collapsed) id

-- The report that an entry is.
abbrev pub reported_entry : {T U : Type 0} → Entry T U → Reported T U
reported_entry (entries.Modification es entry place path status) =
    modification (visit es.now entry.now place (bstr_bytes path) status)
reported_entry (entries.DirectoryContents entry collapsed) = contents (walked_of entry collapsed)
reported_entry (entries.Rewrite source entry collapsed id copy) =
    rewrite (reported_source source) (walked_of entry collapsed) id copy
