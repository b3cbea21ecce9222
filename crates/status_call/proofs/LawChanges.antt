-- The parts of a modification, and the entries that aren't read.
use Rattle.std.proofs.Common.{◌≡◌, ◌⊎◌, ◌∙◌, inl, inr, refl, sym, ap, subst, ℕ, Bool, true, false, not, ◌&&◌, List, Option, Some, None, is_some, Result, Ok, Err, IsTrue, IsFalse, if◌then◌else◌}
use Rattle.std.proofs.lemmas.Bool.{and_parts}
use Rattle.status_index.specs.declared.stat.Metadata.{Metadata}
use Rattle.status_index.specs.declared.stat.NodeKind.{NodeKind}
use Rattle.status_index.specs.declared.stat.NodeKind.TheVariants as kinds
use Rattle.status_index.specs.declared.mode.Mode.{Mode}
use Rattle.status_index.specs.declared.mode.Mode.TheVariants as modes
use Rattle.status_index.specs.declared.mode.Change.TheVariants.{TypeChange, ExecutableBit}
use Rattle.status_index.specs.declared.stat.Stat.{Stat}
use Rattle.status_index.specs.Entries.{IndexEntry}
use Rattle.status_index.specs.Mode.{mode_change_at, new_mode, other_type, other_executable}
use Rattle.status_compare.specs.declared.error.Error.{Error}
use Rattle.status_compare.specs.declared.read_data.Reads.{Reads}
use Rattle.status_compare.specs.Reads.{no_reads}
use Rattle.status_call.specs.declared.index_as_worktree.types.Change.TheVariants as changes
use Rattle.status_call.specs.declared.index_as_worktree.types.EntryStatus.{EntryStatus}
use Rattle.status_call.specs.Counts.{is_compared_case, is_looked_at, reads_of, reads_of_case, reads_of_found}
use Rattle.status_call.specs.Laws.{IsDirectoryMode, IsChange, ModificationLaw, ExecutableLaw, UnreadLaw}
use Rattle.status_call.specs.Query.{Query}
use Rattle.status_call.specs.Status as status
use Rattle.status_call.specs.Status.{Case, answer, changed, case_of, found, status_of}
use Rattle.status_call.specs.StatusTable.{Row, gone, refused, in_submodule, added, unstamped, retyped, unchanged, failed, modified, to_update, SameType, trusted, racy, IsCompared, HasChange, IsTableRow}
use Rattle.status_call.proofs.LawRows.{row_of}
use Rattle.status_call.proofs.LawTable.{change_of, case_gone, case_refused, case_in_submodule, case_added, case_unstamped, case_retyped, case_unchanged, status_table}

module _ {T U : Type 0} where
  -- Two results that aren't a modification.
  not_error : (err : Error) (x : Bool) (c : Option T) (zero : Bool) → ◌≡◌ {A = Result (Option (EntryStatus T U)) Error} (Err err) (changed (changes.Modification x c zero)) → ⊥
  not_error err x c zero h = cc

  not_submodule : (path : List ℕ) (a : Result (Option U) (List ℕ)) (x : Bool) (c : Option T) (zero : Bool) → answer path (status.in_submodule a) ≡ changed (changes.Modification x c zero) → ⊥
  not_submodule path (Ok None) x c zero h = cc
  not_submodule path (Ok (Some u)) x c zero h = cc
  not_submodule path (Err text) x c zero h = cc

  -- A modification that equals another has the same parts.
  same_bit : (x y : Bool) (c d : Option T) (z w : Bool) → changed {T = T} {U = U} (changes.Modification x c z) ≡ changed (changes.Modification y d w) → x ≡ y
  same_bit x y c d z w h = cc

  same_content : (x y : Bool) (c d : Option T) (z w : Bool) → changed {T = T} {U = U} (changes.Modification x c z) ≡ changed (changes.Modification y d w) → c ≡ d
  same_content x y c d z w h = cc

  same_zero : (x y : Bool) (c d : Option T) (z w : Bool) → changed {T = T} {U = U} (changes.Modification x c z) ≡ changed (changes.Modification y d w) → z ≡ w
  same_zero x y c d z w h = cc

module _ {T U : Type 0} (q : Query T U) (e : IndexEntry) where
  -- A modification is the one of the table's row for it.
  pub record Modified (x : Bool) (c : Option T) (zero : Bool) : Type 0 where
    pub node : Metadata
    pub stat : Stat
    pub is_compared : IsCompared q e node stat x
    pub change : HasChange q e x c
    pub zero_is : zero ≡ (is_some c && trusted q e stat && racy q e stat)

  modified_at : (x y : Bool) (c d : Option T) (zero : Bool) (n : Metadata) (s : Stat) → IsCompared q e n s y → HasChange q e y d
      → changed {T = T} {U = U} (changes.Modification y d (is_some d && trusted q e s && racy q e s)) ≡ changed (changes.Modification x c zero) → Modified x c zero
  modified_at x y c d zero n s p change h =
      let bit : y ≡ x = same_bit {T = T} {U = U} y x d c (is_some d && trusted q e s && racy q e s) zero h in
      let content : d ≡ c = same_content {T = T} {U = U} y x d c (is_some d && trusted q e s && racy q e s) zero h in
      let size : (is_some d && trusted q e s && racy q e s) ≡ zero = same_zero {T = T} {U = U} y x d c (is_some d && trusted q e s && racy q e s) zero h in
      record {
        node = n;
        stat = s;
        is_compared = subst (λ (v : Bool). IsCompared q e n s v) bit p;
        change = subst (λ (v : Option T). HasChange q e x v) content (subst (λ (v : Bool). HasChange q e v d) bit change);
        zero_is = sym size ∙ ap (λ (v : Option T). is_some v && trusted q e s && racy q e s) content;
      }

  modified_in : (r : Row) → IsTableRow q e r → (x : Bool) (c : Option T) (zero : Bool) → status_of q e ≡ changed (changes.Modification x c zero) → Modified x c zero
  modified_in gone i x c zero h = let k : changed {T = T} {U = U} changes.Removed ≡ changed (changes.Modification x c zero) = sym ((status_table q e).gone_row i) ∙ h in cc
  modified_in refused i x c zero h = absurd (not_error {T = T} {U = U} _ x c zero (sym ((status_table q e).refused_row i.0 i.1) ∙ h))
  modified_in in_submodule i x c zero h = absurd (not_submodule {T = T} {U = U} e.path (q.submodule e) x c zero (sym (ap (answer e.path) (case_in_submodule q e i)) ∙ h))
  modified_in added i x c zero h = let k = sym ((status_table q e).added_row i) ∙ h in cc
  modified_in unstamped i x c zero h = absurd (not_error {T = T} {U = U} _ x c zero (sym ((status_table q e).unstamped_row i) ∙ h))
  modified_in retyped i x c zero h = let k = sym ((status_table q e).retyped_row i.0 i.1) ∙ h in cc
  modified_in unchanged i x c zero h = let k = sym ((status_table q e).unchanged_row i) ∙ h in cc
  modified_in failed (n, (s, (y, (err, (p, f))))) x c zero h = absurd (not_error {T = T} {U = U} err x c zero (sym ((status_table q e).failed_row n s y err p f) ∙ h))
  modified_in modified (n, (s, (y, (d, (p, f, change))))) x c zero h = modified_at x y c d zero n s p change (sym ((status_table q e).modified_row n s y d p f change) ∙ h)
  modified_in to_update (n, (s, (p, f))) x c zero h = let k = sym ((status_table q e).update_row n s p f) ∙ h in cc

  modified_of : (x : Bool) (c : Option T) (zero : Bool) → status_of q e ≡ changed (changes.Modification x c zero) → Modified x c zero
  modified_of x c zero h = modified_in (row_of q e).0 (row_of q e).1 x c zero h

  zero_parts : (x : Bool) (c : Option T) (zero : Bool) → (m : Modified x c zero) → IsTrue zero → IsTrue (is_some c) × IsTrue (trusted q e m.stat) × IsTrue (racy q e m.stat)
  zero_parts x c zero m h =
      let both = and_parts (is_some c && trusted q e m.stat) (racy q e m.stat) (sym m.zero_is ∙ h) in
      let front = and_parts (is_some c) (trusted q e m.stat) both.0 in
      (front.0, front.1, both.1)

  change_from : (x : Bool) (c : Option T) (zero : Bool) → Modified x c zero → IsChange q e x c zero
  change_from x c zero m = record {
    change = m.change;
    of_content = λ h. (zero_parts x c zero m h).0;
    hidden = λ h. record { node = m.node; stat = m.stat; stamped = m.is_compared.stamped; trusted_stat = (zero_parts x c zero m h).1; racy_stat = (zero_parts x c zero m h).2 };
  }

pub modification_law : {T U : Type 0} (q : Query T U) → ModificationLaw q
modification_law q e x c zero h = change_from q e x c zero (modified_of q e x c zero h)

-- An executable change, by the mode and the kind.
abbrev OtherFile : Metadata → Mode → Type 0
OtherFile n mode = ((mode ≡ modes.File) × IsTrue n.executable) ⊎ ((mode ≡ modes.FileExecutable) × IsFalse n.executable)

other_executable_is : (s b x : Bool) → other_executable s b x ≡ Some ExecutableBit → (b ≡ true) × (x ≡ true)
other_executable_is s true true h = (refl, refl)
other_executable_is s false true h = cc
other_executable_is s b false h = cc

not_not : (b : Bool) → not b ≡ true → b ≡ false
not_not true h = cc
not_not false h = refl

executable_at : (s b : Bool) (n : Metadata) (mode : Mode) (k : NodeKind) → mode_change_at s b n mode k ≡ Some ExecutableBit → (b ≡ true) × (k ≡ kinds.File) × OtherFile n mode
executable_at s b n modes.File kinds.File h = let w = other_executable_is s b n.executable h in (w.0, refl, inl (refl, w.1))
executable_at s b n modes.FileExecutable kinds.File h = let w = other_executable_is s b (not n.executable) h in (w.0, refl, inr (refl, not_not n.executable w.1))
executable_at true b n modes.Symlink kinds.File h = cc
executable_at false b n modes.Symlink kinds.File h = cc
executable_at s b n modes.Symlink kinds.Link h = cc
executable_at s b n modes.Commit kinds.Directory h = cc
executable_at s b n modes.Dir kinds.Directory h = cc
executable_at s b n _ _ h = cc

pub executable_law : {T U : Type 0} (q : Query T U) → ExecutableLaw q
executable_law q e c zero h =
    let m = modified_of q e true c zero h in
    let w = executable_at q.symlink q.executable_bit m.node e.mode m.node.kind m.is_compared.same_type in
    (w.0, record { node = m.node; present = m.is_compared.stamped.present; file = w.1; other = w.2 })

other_at : (s b : Bool) (n : Metadata) (mode : Mode) (k : NodeKind) → IsDirectoryMode mode → (k ≡ kinds.File) ⊎ ((k ≡ kinds.Link) ⊎ (k ≡ kinds.Other)) → mode_change_at s b n mode k ≡ other_type s b n
other_at s b n mode k (inl m) (inl f) = ap (λ (v : Mode). mode_change_at s b n v k) m ∙ ap (mode_change_at s b n modes.Commit) f
other_at s b n mode k (inl m) (inr (inl f)) = ap (λ (v : Mode). mode_change_at s b n v k) m ∙ ap (mode_change_at s b n modes.Commit) f
other_at s b n mode k (inl m) (inr (inr f)) = ap (λ (v : Mode). mode_change_at s b n v k) m ∙ ap (mode_change_at s b n modes.Commit) f
other_at s b n mode k (inr m) (inl f) = ap (λ (v : Mode). mode_change_at s b n v k) m ∙ ap (mode_change_at s b n modes.Dir) f
other_at s b n mode k (inr m) (inr (inl f)) = ap (λ (v : Mode). mode_change_at s b n v k) m ∙ ap (mode_change_at s b n modes.Dir) f
other_at s b n mode k (inr m) (inr (inr f)) = ap (λ (v : Mode). mode_change_at s b n v k) m ∙ ap (mode_change_at s b n modes.Dir) f

module _ {T U : Type 0} (q : Query T U) (e : IndexEntry) where
  no_type_change : (n : Metadata) (x : Bool) (mode : Mode) → SameType q e n x → change_of q e n ≡ Some (TypeChange mode) → ⊥
  no_type_change n true mode same h = cc
  no_type_change n false mode same h = cc

  directory_not_compared : (n : Metadata) (s : Stat) (x : Bool) → IsDirectoryMode e.mode → IsCompared q e n s x → ⊥
  directory_not_compared n s x mode p =
      no_type_change n x (new_mode q.executable_bit n.kind n.executable) p.same_type (other_at q.symlink q.executable_bit n e.mode n.kind mode p.stamped.present.no_directory)

  unlooked_in : IsDirectoryMode e.mode → (r : Row) → IsTableRow q e r → is_compared_case (case_of q e) ≡ false
  unlooked_in mode gone h = ap is_compared_case (case_gone q e h)
  unlooked_in mode refused h = ap is_compared_case (case_refused q e h.0 h.1)
  unlooked_in mode in_submodule h = ap is_compared_case (case_in_submodule q e h)
  unlooked_in mode added h = ap is_compared_case (case_added q e h)
  unlooked_in mode unstamped h = ap is_compared_case (case_unstamped q e h)
  unlooked_in mode retyped h = ap is_compared_case (case_retyped q e h.0 h.1)
  unlooked_in mode unchanged h = ap is_compared_case (case_unchanged q e h)
  unlooked_in mode failed (n, (s, (x, (err, (p, h))))) = absurd (directory_not_compared n s x mode p)
  unlooked_in mode modified (n, (s, (x, (c, (p, h, change))))) = absurd (directory_not_compared n s x mode p)
  unlooked_in mode to_update (n, (s, (p, h))) = absurd (directory_not_compared n s false mode p)

  unlooked : IsDirectoryMode e.mode → is_compared_case (case_of q e) ≡ false
  unlooked mode = unlooked_in mode (row_of q e).0 (row_of q e).1

  unread_where : (b : Bool) (k : Reads) → k ≡ no_reads → (if b then k else no_reads) ≡ no_reads
  unread_where true k h = h
  unread_where false k h = refl

  unread : IsDirectoryMode e.mode → reads_of q e ≡ no_reads
  unread mode =
      unread_where (is_looked_at q e) (reads_of_case q e) (ap (λ (b : Bool). if b then reads_of_found q e (found q e) else no_reads) (unlooked mode))

pub unread_law : {T U : Type 0} (q : Query T U) → UnreadLaw q
unread_law q e mode = (unlooked q e mode, unread q e mode)
