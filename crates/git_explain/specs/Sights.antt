-- The sight of one entry, as the results of a worktree and a submodule.
use Rattle.std.specs.Prelude.{ℕ, Bool, true, false, List, [], ◌∷◌, codes, Option, Some, None, Result, Ok, Err, if◌then◌else◌}
use Rattle.std.specs.Str.{bytes_eq}
use Rattle.std.specs.Global.{Vec}
use Rattle.status_index.specs.Content.{Content}
use Rattle.status_index.specs.declared.fault.Fault.{Fault}
use Rattle.status_index.specs.declared.fault.Fault.TheVariants.{Other}
use Rattle.status_index.specs.declared.stat.Metadata.{Metadata}
use Rattle.git_explain.specs.declared.sight.LstatCall.{LstatCall}
use Rattle.git_explain.specs.declared.sight.Reading.{Reading}

-- The fault of a call that wasn't made.
abbrev pub unasked : Fault
unasked = Other 4294967295

-- The result of the first call of `lstat` at a path.
abbrev pub result_at : List LstatCall → List ℕ → Result Metadata Fault
result_at [] path = Err unasked
result_at (call ∷ calls) path = if bytes_eq call.path.items path then call.found else result_at calls path

-- The content that was read of a file: its bytes, and then its end or a fault.
abbrev pub content_of : Reading → Content
content_of r = record { bytes = r.bytes.items; fault = r.fault }

-- The result of opening the file.
abbrev pub opened : Option (Result Reading Fault) → Result Content Fault
opened None = Err unasked
opened (Some (Err f)) = Err f
opened (Some (Ok r)) = Ok (content_of r)

-- The link's target.
abbrev pub linked : Option (Result (Vec ℕ) Fault) → Result (List ℕ) Fault
linked None = Err unasked
linked (Some (Err f)) = Err f
linked (Some (Ok target)) = Ok target.items

-- The report of the submodule: whether it changed, or the words of its fault.
abbrev pub reported : Option (Result Bool (List ℕ)) → Result (Option (Unit {0})) (List ℕ)
reported None = Err (codes "not asked")
reported (Some (Err text)) = Err text
reported (Some (Ok true)) = Ok (Some tt)
reported (Some (Ok false)) = Ok None
