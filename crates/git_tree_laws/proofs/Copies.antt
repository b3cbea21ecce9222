-- Entries without their flags make the same tree, and are the same files.
use Rattle.std.proofs.Common.{◌≡◌, ℕ, Bool, true, false, not, cond, List, [], ◌∷◌, ◌++◌, length, drop, map, refl, sym, ◌∙◌, ap, subst}
use Rattle.std.specs.List.{filter, AllByRecursion}
use Rattle.std.proofs.Math.Seq.{drop-append_seam}
use Rattle.status_index.specs.declared.entry.Flags.{Flags}
use Rattle.status_index.specs.declared.entry.TheConstants.Flags.{INTENT_TO_ADD}
use Rattle.status_index.specs.declared.id.ObjectId.{ObjectId}
use Rattle.status_index.specs.declared.mode.Mode.{Mode}
use Rattle.status_index.specs.Entries.{IndexEntry}
use Rattle.status_index.specs.FlagBits.{has_bits}
use Rattle.git_staged.specs.Folders.{inside, IsBelow, copies, with_flags}
use Rattle.git_staged.specs.Letters.{is_intended}
use Rattle.git_staged.specs.Trees.{Items, and_entry, and_entries, put, components, path_of_item}
use Rattle.git_tree_laws.specs.Agreement.{SameFiles, file_of}

-- An entry of a folder's own tree, by its whole path.
abbrev pub below : List ℕ → IndexEntry → IndexEntry
below path e = record e { path = path ++ e.path }

-- One entry of those that are copied.
copied : (flags : Flags) (e : IndexEntry) (es : List IndexEntry) (b : Bool) → is_intended e ≡ b → copies flags (e ∷ es) ≡ cond b (copies flags es) (with_flags flags e ∷ copies flags es)
copied flags e es true h = ap (λ (b : Bool). map (with_flags flags) (cond (not b) (e ∷ filter (λ x. not (is_intended x)) es) (filter (λ x. not (is_intended x)) es))) h
copied flags e es false h = ap (λ (b : Bool). map (with_flags flags) (cond (not b) (e ∷ filter (λ x. not (is_intended x)) es) (filter (λ x. not (is_intended x)) es))) h

-- Without flags an entry isn't one of `git add -N`.
none_intended : (bits : ℕ) → bits ≡ 0 → has_bits bits INTENT_TO_ADD.0 ≡ false
none_intended bits h = ap (λ (n : ℕ). has_bits n INTENT_TO_ADD.0) h

entry_put : (t : Items) (e : IndexEntry) (b : Bool) → is_intended e ≡ b → and_entry t e ≡ cond b t (put (components (path_of_item e.mode e.path)) e.mode e.id t)
entry_put t e b h = ap (λ (c : Bool). cond c t (put (components (path_of_item e.mode e.path)) e.mode e.id t)) h

make_next : (flags : Flags) (e : IndexEntry) (es : List IndexEntry) (t : Items) → flags.0 ≡ 0 → ((u : Items) → and_entries u (copies flags es) ≡ and_entries u es) → (b : Bool) → is_intended e ≡ b
    → and_entries t (copies flags (e ∷ es)) ≡ and_entries t (e ∷ es)
make_next flags e es t plain more true h =
    ap (and_entries t) (copied flags e es true h) ∙ (more t ∙ ap (λ (u : Items). and_entries u es) (sym (entry_put t e true h)))
make_next flags e es t plain more false h =
    ap (and_entries t) (copied flags e es false h)
    ∙ (more (and_entry t (with_flags flags e)) ∙ ap (λ (u : Items). and_entries u es) (entry_put t (with_flags flags e) false (none_intended flags.0 plain) ∙ sym (entry_put t e false h)))

pub copies_make : (flags : Flags) (es : List IndexEntry) (t : Items) → flags.0 ≡ 0 → and_entries t (copies flags es) ≡ and_entries t es
copies_make flags [] t plain = refl
copies_make flags (e ∷ es) t plain = make_next flags e es t plain (λ u. copies_make flags es u plain) (is_intended e) refl

-- Entries below a path are those inside of its folder, with the path in front.
abbrev back : List ℕ → Flags → List IndexEntry → List IndexEntry
back path flags es = map (below path) (copies flags (map (inside (length path)) es))

placed_next : (path : List ℕ) (flags : Flags) (e : IndexEntry) (es : List IndexEntry) → IsBelow path e → copies flags es ≡ back path flags es → (b : Bool) → is_intended e ≡ b → copies flags (e ∷ es) ≡ back path flags (e ∷ es)
placed_next path flags e es here more true h =
    let n : ℕ = length path in
    copied flags e es true h ∙ (more ∙ ap (map (below path)) (sym (copied flags (inside n e) (map (inside n) es) true h)))
placed_next path flags e es here more false h =
    let n : ℕ = length path in
    let (rest, at) = here h in
    let cut : drop n e.path ≡ rest = ap (drop n) at ∙ drop-append_seam path rest in
    let whole : e.path ≡ path ++ drop n e.path = at ∙ ap (λ (r : List ℕ). path ++ r) (sym cut) in
    let same : with_flags flags e ≡ below path (with_flags flags (inside n e)) = ap (λ (p : List ℕ). record (with_flags flags e) { path = p }) whole in
    copied flags e es false h
    ∙ (ap (λ (x : IndexEntry). x ∷ copies flags es) same
    ∙ (ap (λ (l : List IndexEntry). below path (with_flags flags (inside n e)) ∷ l) more ∙ ap (map (below path)) (sym (copied flags (inside n e) (map (inside n) es) false h))))

pub placed_back : (path : List ℕ) (flags : Flags) (es : List IndexEntry) → AllByRecursion (IsBelow path) es → copies flags es ≡ back path flags es
placed_back path flags [] h = refl
placed_back path flags (e ∷ es) h = placed_next path flags e es h.0 (placed_back path flags es h.1) (is_intended e) refl

-- What holds of the copy of each entry holds of all copies.
hold_next : (P : IndexEntry → Type 0) (flags : Flags) (e : IndexEntry) (es : List IndexEntry) → P (with_flags flags e) → AllByRecursion P (copies flags es) → (b : Bool) → is_intended e ≡ b → AllByRecursion P (copies flags (e ∷ es))
hold_next P flags e es one more true h = subst (AllByRecursion P) (sym (copied flags e es true h)) more
hold_next P flags e es one more false h = subst (AllByRecursion P) (sym (copied flags e es false h)) (one, more)

pub copies_hold : (P : IndexEntry → Type 0) (flags : Flags) (es : List IndexEntry) → AllByRecursion (λ e. P (with_flags flags e)) es → AllByRecursion P (copies flags es)
copies_hold P flags [] h = tt
copies_hold P flags (e ∷ es) h = hold_next P flags e es h.0 (copies_hold P flags es h.1) (is_intended e) refl

-- None of them has flags.
all_same : (flags : Flags) (es : List IndexEntry) → flags.0 ≡ 0 → AllByRecursion (λ e. e.flags.0 ≡ 0) (map (with_flags flags) es)
all_same flags [] plain = tt
all_same flags (e ∷ es) plain = (plain, all_same flags es plain)

pub all_plain : (flags : Flags) (es : List IndexEntry) → flags.0 ≡ 0 → AllByRecursion (λ e. e.flags.0 ≡ 0) (copies flags es)
all_plain flags es plain = all_same flags (filter (λ e. not (is_intended e)) es) plain

-- They are the same files.
files_same : (flags : Flags) (es : List IndexEntry) → map file_of (map (with_flags flags) es) ≡ map file_of es
files_same flags [] = refl
files_same flags (e ∷ es) = ap (λ (l : List (List ℕ × Mode × ObjectId)). file_of e ∷ l) (files_same flags es)

pub copied_files : (flags : Flags) (es : List IndexEntry) → SameFiles (copies flags es) (filter (λ e. not (is_intended e)) es)
copied_files flags es = files_same flags (filter (λ e. not (is_intended e)) es)
