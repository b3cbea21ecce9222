-- Results that `lstat` may return, changed at one path.
use Rattle.std.proofs.Common.{◌≡◌, ◌≢◌, ◌<◌, ℕ, zero, suc, Bool, true, false, cond, List, [], ◌∷◌, ◌++◌, length, take, Option, Some, None, Result, Ok, Err, slice_index, refl, sym, ◌∙◌, ap, subst, arith, append_assoc, if◌then◌else◌}
use Rattle.std.proofs.lemmas.List.{append-nil, length-take-le}
use Rattle.std.proofs.lemmas.Slice.Eq.{bytes_eq-Decides}
use Rattle.std.specs.Str.{bytes_eq}
use Rattle.status_index.specs.declared.fault.Fault.{Fault}
use Rattle.status_index.specs.declared.fault.Fault.TheVariants as faults
use Rattle.status_index.specs.declared.stat.Metadata.{Metadata}
use Rattle.status_base.specs.Paths.{is_slash, directories, directories_below, abnormal_component}
use Rattle.status_base.specs.LinkCheck.{LinkCheck, decided, barrier_of, leftmost_barrier, check_of_normal, link_check}
use Rattle.status_base.specs.Sights.{Stats, MayStat, AnyAnswer, AreAllowed, IsOpen}
use Rattle.status_base.specs.AfterQuery.{IsAfterVerified}
use Rattle.status_base.specs.CheckState.{CheckState}
use Rattle.status_base.specs.MemoryTree.{bare_directory}
use Rattle.status_base.specs.declared.stack.error.StackError.{StackError}

-- The same results, except at one path.
abbrev pub with_answer : List ℕ → Result Metadata Fault → Stats → Stats
with_answer path answer lstat other = cond (bytes_eq other path) answer (lstat other)

-- At that path it is the new result.
pub answer_here : (path : List ℕ) (answer : Result Metadata Fault) (lstat : Stats) → with_answer path answer lstat path ≡ answer
answer_here path answer lstat = ap (λ (b : Bool). cond b answer (lstat path)) ((bytes_eq-Decides path path).1 refl)

false_unless : (b : Bool) → (b ≡ true → ⊥) → b ≡ false
false_unless true h = absurd (h refl)
false_unless false h = refl

-- At a path of another length it is the old result.
pub answer_there : (path other : List ℕ) (answer : Result Metadata Fault) (lstat : Stats) → length other ≢ length path → with_answer path answer lstat other ≡ lstat other
answer_there path other answer lstat differs =
    ap (λ (b : Bool). cond b answer (lstat other)) (false_unless (bytes_eq other path) (λ same. differs (ap length ((bytes_eq-Decides other path).0 same))))

allowed_by : (may : MayStat) (other path : List ℕ) (answer old : Result Metadata Fault) (b : Bool) → (b ≡ true → other ≡ path) → may path answer → may other old → may other (cond b answer old)
allowed_by may other path answer old true same here there =
    let P : List ℕ → Type 0 = λ p. may p answer in subst P (sym (same refl)) here
allowed_by may other path answer old false same here there = there

-- If the new result may be returned too, each may.
pub with_answer_allowed : (may : MayStat) (path : List ℕ) (answer : Result Metadata Fault) (lstat : Stats) → may path answer → AreAllowed may lstat → AreAllowed may (with_answer path answer lstat)
with_answer_allowed may path answer lstat here allowed other =
    allowed_by may other path answer (lstat other) (bytes_eq other path) (bytes_eq-Decides other path).0 here (allowed other)

one_directory : (lstat other : Stats) (directory : List ℕ) (slash : Bool) (others : List (List ℕ)) → lstat directory ≡ other directory → leftmost_barrier lstat others ≡ leftmost_barrier other others
    → leftmost_barrier lstat ((if slash then directory ∷ [] else []) ++ others) ≡ leftmost_barrier other ((if slash then directory ∷ [] else []) ++ others)
one_directory lstat other directory true others same rest =
    ap (λ (v : Result Metadata Fault). decided directory (barrier_of v) (leftmost_barrier lstat others)) same
    ∙ ap (λ (v : LinkCheck). decided directory (barrier_of (other directory)) v) rest
one_directory lstat other directory false others same rest = rest

-- The first directory that bars the way is the same if the results at the directories are.
same_leftmost : (lstat other : Stats) (path : List ℕ) (n : ℕ) (others : List (List ℕ)) → ((k : ℕ) → k < n → lstat (take k path) ≡ other (take k path)) → leftmost_barrier lstat others ≡ leftmost_barrier other others
    → leftmost_barrier lstat (directories_below path n ++ others) ≡ leftmost_barrier other (directories_below path n ++ others)
same_leftmost lstat other path zero others same rest = rest
same_leftmost lstat other path (suc n) others same rest =
    let last : List (List ℕ) = if is_slash (slice_index path n) then take n path ∷ [] else [] in
    let grouped = append_assoc (directories_below path n) last others in
    ap (leftmost_barrier lstat) grouped
    ∙ same_leftmost lstat other path n (last ++ others) (λ k below. same k (omega arith)) (one_directory lstat other (take n path) (is_slash (slice_index path n)) others (same n (omega arith)) rest)
    ∙ sym (ap (leftmost_barrier other) grouped)

same_normal : (lstat other : Stats) (path : List ℕ) (abnormal : Option (List ℕ)) → leftmost_barrier lstat (directories path) ≡ leftmost_barrier other (directories path) → check_of_normal lstat path abnormal ≡ check_of_normal other path abnormal
same_normal lstat other path (Some component) same = refl
same_normal lstat other path None same = same

same_check : (lstat other : Stats) (path : List ℕ) → leftmost_barrier lstat (directories path) ≡ leftmost_barrier other (directories path) → link_check lstat path ≡ link_check other path
same_check lstat other [] same = refl
same_check lstat other (b ∷ path) same = same_normal lstat other (b ∷ path) (abnormal_component (b ∷ path)) same

-- A path is no proper directory prefix of itself, so the result at it doesn't decide its check.
pub link_check_with_answer : (path : List ℕ) (answer : Result Metadata Fault) (lstat : Stats) → link_check (with_answer path answer lstat) path ≡ link_check lstat path
link_check_with_answer path answer lstat =
    let other : Stats = with_answer path answer lstat in
    let same : (k : ℕ) → k < length path → other (take k path) ≡ lstat (take k path) = λ k below. answer_there path (take k path) answer lstat (omega (arith, length-take-le k path (omega arith))) in
    let whole : directories path ++ [] ≡ directories path = append-nil (directories path) in
    same_check other lstat path (ap (leftmost_barrier other) (sym whole) ∙ same_leftmost other lstat path (length path) [] same refl ∙ ap (leftmost_barrier lstat) whole)

-- No directory is above the empty path.
pub open_nothing : (may : MayStat) → ((path : List ℕ) → may path (Err faults.Memory)) → IsOpen may []
open_nothing may may_fail = record {
  lstat = λ path. Err faults.Memory;
  allowed = may_fail;
  clear = λ k below slash. absurd (omega arith);
}

-- If any result may be returned, each path is open.
pub open_anyway : (path : List ℕ) → IsOpen AnyAnswer path
open_anyway path = record {
  lstat = λ other. Ok bare_directory;
  allowed = λ other. tt;
  clear = λ k below slash. refl;
}

-- A check after a query, of which it isn't stated which results `lstat` may return.
pub after_anyway : {A : Type 0} (may : MayStat) (modelled : Bool) (lstat : Stats) (query : List ℕ) (result : Result A StackError) (old new : CheckState) → IsAfterVerified may modelled lstat query result old new → IsAfterVerified AnyAnswer modelled lstat query result old new
after_anyway {A} may modelled lstat query result old new verified =
    let after = verified.after in
    record {
      path = verified.path;
      after = record {
        root = after.root;
        clear = after.clear;
        «open» = λ opened. open_anyway new.path;
        looks = after.looks;
        few = after.few;
        barred = after.barred;
        unchanged = after.unchanged;
      };
    }
