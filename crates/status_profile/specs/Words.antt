-- The words for kinds of ids, comparers and kinds of nodes.
use Rattle.std.specs.Prelude.{ℕ, List, codes, Option, Some, None, if◌then◌else◌}
use Rattle.std.specs.Str.{bytes_eq}
use Rattle.serde_json.specs.Data.{Data}
use Rattle.serde_json.specs.Find.{as_str}
use Rattle.status_index.specs.declared.id.HashKind.{HashKind}
use Rattle.status_index.specs.declared.id.HashKind.TheVariants.{Sha1, Sha256}
use Rattle.status_index.specs.declared.stat.NodeKind.{NodeKind}
use Rattle.status_index.specs.declared.stat.NodeKind.TheVariants as kinds
use Rattle.status_compare.specs.declared.compare.Comparer.{Comparer}
use Rattle.status_compare.specs.declared.compare.Comparer.TheVariants.{Hash, Fast}
use Rattle.status_format.specs.Reads.{◌>>=◌}

-- how ids are made
abbrev pub hash_named : List ℕ → Option HashKind
hash_named word =
    if bytes_eq word (codes "sha1") then Some Sha1
    else (if bytes_eq word (codes "sha256") then Some Sha256 else None)

-- how files are compared
abbrev pub comparer_named : List ℕ → Option Comparer
comparer_named word =
    if bytes_eq word (codes "hash") then Some Hash
    else (if bytes_eq word (codes "fast") then Some Fast else None)

-- what a node is
abbrev pub kind_named : List ℕ → Option NodeKind
kind_named word =
    if bytes_eq word (codes "file") then Some kinds.File
    else (if bytes_eq word (codes "link") then Some kinds.Link
    else (if bytes_eq word (codes "directory") then Some kinds.Directory
    else (if bytes_eq word (codes "other") then Some kinds.Other
    else None)))

abbrev pub hash_in : Data → Option HashKind
hash_in d = as_str d >>= hash_named

abbrev pub comparer_in : Data → Option Comparer
comparer_in d = as_str d >>= comparer_named

abbrev pub kind_in : Data → Option NodeKind
kind_in d = as_str d >>= kind_named
