-- Blobs by their ids.
use Rattle.std.specs.Prelude.{ℕ, List, map, Result}
use Rattle.std.specs.Option.{ok_or}
use Rattle.std.specs.Coded.{Coded, coded_ℕ, coded_list}
use Rattle.std.specs.Ordering.{nat_cmp}
use Rattle.std.specs.declared.cmp.Ordering.{Ordering}
use Rattle.std.specs.declared.cmp.Ordering.TheVariants.{Less, Greater}
use Rattle.std.specs.Cmp.Lexicographic.{slice_cmp}
use Rattle.std.specs.FinMap as ids
use Rattle.std.specs.Global.{Vec}
use Rattle.status_index.specs.contracts.id.ObjectId as id
use Rattle.status_index.specs.declared.id.ObjectId.{ObjectId}
use Rattle.status_index.specs.declared.id.ObjectId.TheVariants.{Sha1, Sha256}
use Rattle.status_base.specs.declared.worktree.objects.FindError.{FindError}
use Rattle.status_base.specs.declared.worktree.objects.FindError.TheVariants.{Missing}

-- The order of ids: by kind, and then by bytes.
abbrev pub id_cmp : ObjectId → ObjectId → Ordering
id_cmp (Sha1 a) (Sha1 b) = slice_cmp nat_cmp a b
id_cmp (Sha256 a) (Sha256 b) = slice_cmp nat_cmp a b
id_cmp (Sha1 a) (Sha256 b) = Less
id_cmp (Sha256 a) (Sha1 b) = Greater

-- Blobs are a finite map by ids; other ids are missing.
abbrev pub Contents : Type 0
Contents = ids.FinMap id_cmp (List ℕ)

abbrev pub contents_code : Coded Contents
contents_code = ids.code id.the_row.coded (coded_list coded_ℕ)

abbrev pub content_entries : List (ObjectId × Vec ℕ) → List (ObjectId × List ℕ)
content_entries = map (λ e. (e.0, e.1.items))

-- The contents, from the entries of a map.
abbrev pub contents_of : List (ObjectId × Vec ℕ) → Contents
contents_of entries = ids.from_entries (content_entries entries)

-- The content of an id, or that it is missing.
abbrev pub found_in : Contents → ObjectId → Result (List ℕ) FindError
found_in contents id = ok_or (ids.get contents id) Missing
