-- Files outside of a worktree, one after the other.
use Rattle.std.proofs.Common.{◌≡◌, List, [], ◌∷◌, ◌++◌, map, sym, ◌∙◌, ap, subst, arith}
use Rattle.std.specs.List.{All}
use Rattle.std.proofs.lemmas.List.{append-nil, append_assoc, map-append, map_push}
use Rattle.std.proofs.lemmas.List.Elements.{All-push}
use Rattle.git_attributes.specs.Files.{File}
use Rattle.git_attributes.specs.Views.{file_view}
use Rattle.git_attributes.specs.declared.files.AttributeFile.{AttributeFile}
use Rattle.git_repository.specs.AttributeFiles.{IsOutside, AreRepositoryFiles}

-- one more file outside
pub outside_more : (old new : List AttributeFile) (file : AttributeFile) → new ≡ old ++ file ∷ [] → IsOutside (file_view file) → All IsOutside (map file_view old) → All IsOutside (map file_view new)
outside_more old new file is here all =
    let P : List File → Type 0 = λ v. All IsOutside v in
    subst P (sym (ap (map file_view) is ∙ map_push file_view old file)) (All-push IsOutside (map file_view old) (file_view file) all here)

module _ (outer inner both : List AttributeFile) where
  -- without a file of the repository's own
  pub files_without_own : both ≡ outer ++ inner → All IsOutside (map file_view outer) → AreRepositoryFiles (map file_view inner) (map file_view both)
  files_without_own is outside = record {
    outer = map file_view outer;
    own = [];
    outside = (let P : List File → Type 0 = λ v. All IsOutside v in subst P (sym (append-nil (map file_view outer))) outside);
    one = omega arith;
    order = ap (map file_view) is ∙ map-append file_view outer inner ∙ ap (λ (v : List File). map file_view outer ++ v) (sym (append-nil (map file_view inner)));
  }

  -- with one
  pub files_with_own : (new : List AttributeFile) (own : AttributeFile) → both ≡ outer ++ inner → new ≡ both ++ own ∷ [] → IsOutside (file_view own) → All IsOutside (map file_view outer)
      → AreRepositoryFiles (map file_view inner) (map file_view new)
  files_with_own new own is more here outside = record {
    outer = map file_view outer;
    own = file_view own ∷ [];
    outside = All-push IsOutside (map file_view outer) (file_view own) outside here;
    one = omega arith;
    order = ap (map file_view) more ∙ map_push file_view both own
        ∙ ap (λ (v : List File). v ++ file_view own ∷ []) (ap (map file_view) is ∙ map-append file_view outer inner)
        ∙ append_assoc (map file_view outer) (map file_view inner) (file_view own ∷ []);
  }
