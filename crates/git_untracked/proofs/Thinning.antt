-- Names without some that are passed over.
use Rattle.std.proofs.Common.{◌≡◌, ◌∙◌, ℕ, ◌||◌, Bool, not, true, false, List, [], ◌∷◌, ◌++◌, refl, ap}
use Rattle.git_untracked.specs.Lines.{Lines, no_lines}
use Rattle.git_untracked.specs.Questions.{Question, Within, is_passed_over, is_settled, is_special}
use Rattle.git_untracked.specs.Requests.{Thins}
use Rattle.git_untracked.specs.Walks.{AreNodes, IsNamed, IsNode}

module _ (passed : List ℕ → Bool) (folder : List ℕ) where
  -- None is left out.
  pub thins_all : (names : List (List ℕ)) → Thins passed folder names names
  thins_all [] = Thins.none
  thins_all (name ∷ names) = Thins.kept name names names (thins_all names)

  -- One more name is kept.
  pub thins_kept : (names thin : List (List ℕ)) (name : List ℕ) → Thins passed folder names thin → Thins passed folder (names ++ name ∷ []) (thin ++ name ∷ [])
  thins_kept names thin name Thins.none = thins_all (name ∷ [])
  thins_kept names thin name (Thins.kept one rest less t) = Thins.kept one (rest ++ name ∷ []) (less ++ name ∷ []) (thins_kept rest less name t)
  thins_kept names thin name (Thins.dropped one rest less p t) = Thins.dropped one (rest ++ name ∷ []) (less ++ name ∷ []) p (thins_kept rest less name t)

  -- One more name is left out.
  pub thins_dropped : (names thin : List (List ℕ)) (name : List ℕ) → passed (folder ++ name) ≡ true → Thins passed folder names thin → Thins passed folder (names ++ name ∷ []) thin
  thins_dropped names thin name is Thins.none = Thins.dropped name [] [] is Thins.none
  thins_dropped names thin name is (Thins.kept one rest less t) = Thins.kept one (rest ++ name ∷ []) less (thins_dropped rest less name is t)
  thins_dropped names thin name is (Thins.dropped one rest less p t) = Thins.dropped one (rest ++ name ∷ []) less p (thins_dropped rest less name is t)

  -- More paths are passed over.
  pub thins_as : (other : List ℕ → Bool) → ((path : List ℕ) → passed path ≡ true → other path ≡ true) → (names thin : List (List ℕ)) → Thins passed folder names thin → Thins other folder names thin
  thins_as other h names thin Thins.none = Thins.none
  thins_as other h names thin (Thins.kept one rest less t) = Thins.kept one rest less (thins_as other h rest less t)
  thins_as other h names thin (Thins.dropped one rest less p t) = Thins.dropped one rest less (h (folder ++ one) p) (thins_as other h rest less t)

-- A path is passed over if an entry settles it.
pub settled_passed : (q : Question) → q.all ≡ false → q.ignored ≡ false → (path : List ℕ) → is_settled (q.leads path) q.index path ≡ true → is_passed_over q path ≡ true
settled_passed q all ignored path settled =
    let others = not (q.reaches path) in
    ap (λ (x : Bool). is_settled (x || (q.ignored || q.leads path)) q.index path || others) all
    ∙ ap (λ (x : Bool). is_settled (x || q.leads path) q.index path || others) ignored
    ∙ ap (λ (x : Bool). x || others) settled

module _ (q : Question) (folder : List ℕ) (w : Within) where
  -- A name that is passed over has no line.
  passed_named : (name : List ℕ) → is_passed_over q (folder ++ name) ≡ true → IsNamed q w folder name no_lines
  passed_named name passed = by (is_special name) refl
    where
      by : (b : Bool) → is_special name ≡ b → IsNamed q w folder name no_lines
      by true e = IsNamed.special w folder name e
      by false e = IsNamed.node w folder name no_lines e (IsNode.passed_over w (folder ++ name) passed)

  -- The lines of some names are those of others.
  abbrev AreMore : List (List ℕ) → List (List ℕ) → Type 0
  AreMore thin names = (lines : Lines) → AreNodes q folder w thin lines → AreNodes q folder w names lines

  more_dropped : (name : List ℕ) (names thin : List (List ℕ)) → is_passed_over q (folder ++ name) ≡ true → AreMore thin names → AreMore thin (name ∷ names)
  more_dropped name names thin passed more lines nodes = AreNodes.next folder w name names no_lines lines (passed_named name passed) (more lines nodes)

more_kept : (q : Question) (folder : List ℕ) (w : Within) (name : List ℕ) (names thin : List (List ℕ)) → AreMore q folder w thin names
    → (lines : Lines) → AreNodes q folder w (name ∷ thin) lines → AreNodes q folder w (name ∷ names) lines
more_kept q folder w name names thin more lines (AreNodes.next _ _ _ _ one rest named tail) = AreNodes.next folder w name names one rest named (more rest tail)
more_kept q folder w name names thin more lines (AreNodes.enough _ _ _ _ _ named one some) = AreNodes.enough folder w name names lines named one some

module _ (q : Question) (folder : List ℕ) (w : Within) where
  -- The lines of the names that are left are those of all.
  pub thins_nodes : (names thin : List (List ℕ)) → Thins (is_passed_over q) folder names thin → AreMore q folder w thin names
  thins_nodes names thin Thins.none = λ lines nodes. nodes
  thins_nodes names thin (Thins.kept one rest less t) = more_kept q folder w one rest less (thins_nodes rest less t)
  thins_nodes names thin (Thins.dropped one rest less p t) = more_dropped q folder w one rest less p (thins_nodes rest less t)
