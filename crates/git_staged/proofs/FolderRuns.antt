-- The entries of a known folder.
use Rattle.std.proofs.Common.{◌≡◌, ◌≤◌, ◌<◌, ℕ, zero, suc, Bool, true, false, inl, inr, ◌+◌, ◌-◌, false, List, [], ◌∷◌, ◌++◌, length, take, drop, map, get_or, All, Bor, IfSome, MatchOption, Option, None, Some, ◌⊎◌, refl, sym, ◌∙◌, ap, subst, arith, append_assoc}
use Rattle.std.specs.List.{slice_index_or, slice_range, AllByRecursion}
use Rattle.std.proofs.lemmas.List.{append-nil, drop-take, drop-map, take-map, take-append-drop, length-append, length-take-le, get_or-take, get_or_default, length-map}
use Rattle.std.proofs.Math.Seq.{take-append_seam, drop-append_seam, get_or-append_seam}
use Rattle.std.proofs.Math.ListN.{get_or-map}
use Rattle.status_index.specs.declared.id.ObjectId.{ObjectId}
use Rattle.status_index.specs.declared.entry.Flags.{Flags}
use Rattle.status_index.specs.declared.entry.Entry.{Entry}
use Rattle.status_index.specs.declared.entry.PathStorage.{PathStorage}
use Rattle.status_index.specs.declared.id.HashKind.{HashKind}
use Rattle.status_index.specs.declared.id.HashKind.TheVariants.{Sha1, Sha256}
use Rattle.status_index.specs.declared.mode.Mode.{Mode}
use Rattle.status_index.specs.BlobId.{id_kind}
use Rattle.status_index.specs.Entries.{IndexEntry, index_entry, path_in}
use Rattle.status_index.specs.States.{backing_of, entries_of, index_of}
use Rattle.git_staged.specs.declared.known.KnownFolders.{KnownFolders}
use Rattle.git_staged.specs.Staged.{IsWritten}
use Rattle.git_staged.specs.TreeFiles.{HasFiles, IsItem, ItemOf, Known, Part, is_folder, nothing_known, tree_mode}
use Rattle.git_staged.specs.declared.builder.Folder.{Folder}
use Rattle.git_staged.specs.Folders.{FrontOf, IsBelow, IsFolder, IsKnown, IsRun, copies, inside}
use Rattle.git_staged.specs.Trees.{Items, index_tree_id, tree_id_of}

run_lengths : (es : List IndexEntry) (path : List ℕ) (first end : ℕ) (items : Items) (r : IsRun es path first end items) → end ≤ length es → end ≡ first + length r.run
run_lengths es path first end items r within = omega (arith, length-take-le end es within, ap length r.split, length-append r.before r.run, r.number)

run_part : (es : List IndexEntry) (path : List ℕ) (first end : ℕ) (items : Items) (r : IsRun es path first end items) → end ≤ length es → r.run ≡ slice_range es first end
run_part es path first end items r within =
    let len = run_lengths es path first end items r within in
    let back : r.run ≡ drop first (take end es) =
    sym (drop-append_seam r.before r.run) ∙ (ap (λ (n : ℕ). drop n (r.before ++ r.run)) r.number ∙ ap (drop first) (sym r.split)) in
    let cut : end ≡ first + (end - first) = omega (arith, len) in
    back ∙ (ap (λ (n : ℕ). drop first (take n es)) cut ∙ drop-take first (end - first) es)

-- Two fronts of one path with the same length are the same.
same_front : (a b c d : List ℕ) → length a ≡ length b → a ++ c ≡ b ++ d → a ≡ b
same_front a b c d len e =
    sym (take-append_seam a c) ∙ (ap (λ (n : ℕ). take n (a ++ c)) len ∙ (ap (take (length b)) e ∙ take-append_seam b d))

first_path : (es : List IndexEntry) (path : List ℕ) (first end : ℕ) (items : Items) (r : IsRun es path first end items) → end ≤ length es → (other : List ℕ) → FrontOf es first (length path) other → path ≡ other
first_path es path first end items r within other front =
    let (e, more, starts, staged) = r.begins in
    let len = run_lengths es path first end items r within in
    let some : first < end = omega (arith, len, ap length starts) in
    let split : take end es ≡ r.before ++ (e ∷ more) = r.split ∙ ap (λ (l : List IndexEntry). r.before ++ l) starts in
    let is : slice_index_or es first e ≡ e =
    sym (get_or-take end es first e some) ∙ (ap (λ (l : List IndexEntry). get_or l first e) split ∙ (ap (λ (n : ℕ). get_or (r.before ++ (e ∷ more)) n e) (sym r.number) ∙ get_or-append_seam r.before e more e)) in
    let belows : AllByRecursion (IsBelow path) (e ∷ more) = subst (AllByRecursion (IsBelow path)) starts r.below in
    let (rest, at) = belows.0 staged in
    let (other_rest, other_at) = front.1 e in
    same_front path other rest other_rest (sym front.0) (sym at ∙ (ap (λ (x : IndexEntry). x.path) (sym is) ∙ other_at))

-- ---- what the code asks for

some_as : {X : Type 0} (A : Type 0) (P Q : X → Type 0) (r : Option X) → MatchOption r A P → ((x : X) → P x → Q x) → IfSome r Q
some_as A P Q None m h = tt
some_as A P Q (Some x) m h = h x m

pub front_found : (backing : PathStorage) (xs stored : List Entry) (first len : ℕ) (e : Entry) (path : List ℕ) (r : Option (Bor (List ℕ))) → first < length xs → e ≡ slice_index_or xs first e → path ≡ path_in backing e → xs ≡ stored
    → MatchOption r ((len < 0) ⊎ (length path < len)) (λ x. (0 ≤ len) × (len ≤ length path) × (x.now ≡ slice_range path 0 len) × (length x.now + 0 ≡ len))
    → IfSome r (λ x. FrontOf (map (index_entry backing) stored) first len x.now)
front_found backing xs stored first len e path r within is named same m =
    let f : Entry → IndexEntry = index_entry backing in
    some_as _ _ _ r m (λ x g.
    let front : x.now ++ drop len path ≡ path = ap (λ (l : List ℕ). l ++ drop len path) (g.2 ∙ ap (λ (n : ℕ). take n path) (omega (arith))) ∙ take-append-drop len path in (
      omega (arith, g.3),
      λ d. (
        drop len path,
        ap (λ (y : IndexEntry). y.path) (ap (λ (l : List Entry). slice_index_or (map f l) first d) (sym same) ∙ (get_or_default (map f xs) first d (f e) (omega (arith, within, length-map xs f)) ∙ get_or-map f xs first e ∙ ap f (sym is))) ∙ (sym named ∙ sym front),
      ),
    ))

map-slice : (h : Entry → IndexEntry) (ys : List Entry) (a b : ℕ) → map h (slice_range ys a b) ≡ slice_range (map h ys) a b
map-slice h ys a b = sym (take-map h (b - a) (drop a ys)) ∙ ap (take (b - a)) (sym (drop-map h a ys))

pub found_run : (k : KnownFolders) (f : Folder) (number : ℕ) (id : ObjectId) (path : List ℕ) (xs : List Entry) (r : Option (Bor (List Entry))) → number < length k.folders.now → ((d : Folder) → slice_index_or k.folders.now number d ≡ f)
    → f.id ≡ id → FrontOf (index_of k.index.now) f.first f.path_len path → xs ≡ entries_of k.index.now
    → MatchOption r ((f.end < f.first) ⊎ (length xs < f.end)) (λ x. (f.first ≤ f.end) × (f.end ≤ length xs) × (x.now ≡ slice_range xs f.first f.end) × (length x.now + f.first ≡ f.end))
    → IfSome r (λ run. (flags : Flags) → flags.0 ≡ 0 → IsKnown k id path (copies flags (map (index_entry (backing_of k.index.now)) run.now)))
found_run k f number id path xs r within listed same front all m =
    let named : Entry → IndexEntry = index_entry (backing_of k.index.now) in
    some_as _ _ _ r m (λ x g. λ flags plain.
    record {
      folder = f;
      number = number;
      within = within;
      listed = listed;
      id_is = same;
      front = front;
      flags = flags;
      plain = plain;
      are = ap (copies flags) (ap (map named) (g.2 ∙ ap (λ (l : List Entry). slice_range l f.first f.end) all) ∙ map-slice named (entries_of k.index.now) f.first f.end);
    })

-- ---- known folders are made of their files

kept_kind : (kind : HashKind) (items : Items) → id_kind (tree_id_of kind items) ≡ kind
kept_kind Sha1 items = refl
kept_kind Sha256 items = refl

-- A folder whose id was computed is made of its files.
pub known_written : (k : KnownFolders) (kind : HashKind) → All (IsFolder kind (index_of k.index.now)) k.folders.now → (id : ObjectId) (path : List ℕ) (files : List IndexEntry) → IsKnown k id path files → IsWritten (index_of k.index.now) id path files
known_written k kind all id path files known =
    let es : List IndexEntry = index_of k.index.now in
    let f : Folder = known.folder in
    let fo : IsFolder kind es f = subst (IsFolder kind es) (known.listed f) (all known.number f known.within) in
    let here : fo.path ≡ path = first_path es fo.path f.first f.end fo.items fo.run fo.within path (known.front.0 ∙ sym fo.len, known.front.1) in
    let after : List IndexEntry = drop f.end es in
    let made : IsWritten es f.id fo.path files = record {
      before = fo.run.before;
      run = fo.run.run;
      after = after;
      split = sym (take-append-drop f.end es) ∙ (ap (λ (l : List IndexEntry). l ++ after) fo.run.split ∙ append_assoc fo.run.before fo.run.run after);
      below = fo.run.below;
      flags = known.flags;
      plain = known.plain;
      entries = known.are ∙ ap (copies known.flags) (sym (run_part es fo.path f.first f.end fo.items fo.run fo.within));
      makes = ap (tree_id_of (id_kind f.id)) fo.run.makes ∙ (ap (λ (h : HashKind). tree_id_of h fo.items) (ap id_kind fo.id ∙ kept_kind kind fo.items) ∙ sym fo.id);
    } in
    subst (λ (p : List ℕ). IsWritten es id p files) here (subst (λ (i : ObjectId). IsWritten es i fo.path files) known.id_is made)

-- Inside of the top, an entry is as it is.
pub inside_top : (es : List IndexEntry) → map (inside 0) es ≡ es
inside_top [] = refl
inside_top (e ∷ es) = ap (λ (l : List IndexEntry). e ∷ l) (inside_top es)

pub below_top : (es : List IndexEntry) → AllByRecursion (IsBelow []) es
below_top [] = tt
below_top (e ∷ es) = (λ staged. (e.path, refl), below_top es)

-- An index that makes a tree has its files.
abbrev pub index_written : (kind : HashKind) (flags : Flags) (id : ObjectId) (es : List IndexEntry) → id_kind id ≡ kind → flags.0 ≡ 0 → index_tree_id kind es ≡ id → IsWritten es id [] (copies flags es)
index_written kind flags id es same plain makes = record {
  before = [];
  run = es;
  after = [];
  split = sym (append-nil es);
  below = below_top es;
  flags = flags;
  plain = plain;
  entries = refl;
  makes = ap (index_tree_id (id_kind id)) (inside_top es) ∙ (ap (λ (h : HashKind). index_tree_id h es) same ∙ makes);
}

-- No folder is known if there is none.
pub never_known : (k : KnownFolders) → length k.folders.now ≡ 0 → (id : ObjectId) (path : List ℕ) (files : List IndexEntry) → IsKnown k id path files → nothing_known id path files
never_known k none id path files known = absurd (omega (arith, known.within, none))

-- Where more is known, a tree has the same files.
item_more : (F G : ObjectId → List ℕ → List IndexEntry → Type 0) → ((id : ObjectId) (path : List ℕ) (es : List IndexEntry) → F id path es → G id path es) → (b : Bool) (path : List ℕ) (mode : Mode) (id : ObjectId) (es : List IndexEntry)
    → ItemOf F b path mode id es → ItemOf G b path mode id es
item_more F G h true path mode id es is = h id (path ++ 47 ∷ []) es is
item_more F G h false path mode id es is = is

each_more : (F G : ObjectId → List ℕ → List IndexEntry → Type 0) → ((id : ObjectId) (path : List ℕ) (es : List IndexEntry) → F id path es → G id path es) → (path : List ℕ) (ps : List Part)
    → AllByRecursion (λ p. IsItem F path p.item p.entries) ps → AllByRecursion (λ p. IsItem G path p.item p.entries) ps
each_more F G h path [] each = tt
each_more F G h path (p ∷ ps) each =
    (item_more F G h (is_folder (tree_mode p.item.mode)) (path ++ p.item.name.now) (tree_mode p.item.mode) p.item.id p.entries each.0, each_more F G h path ps each.1)

pub more_known : (known other : Known) → ((id : ObjectId) (path : List ℕ) (es : List IndexEntry) → known id path es → other id path es) → (depth : ℕ) (id : ObjectId) (path : List ℕ) (es : List IndexEntry)
    → HasFiles known depth id path es → HasFiles other depth id path es
more_known known other h zero id path es never = absurd never
more_known known other h (suc depth) id path es (inl k) = inl (h id path es k)
more_known known other h (suc depth) id path es (inr i) = inr (record {
  bytes = i.bytes;
  object = i.object;
  parts = i.parts;
  items = i.items;
  each = each_more (HasFiles known depth) (HasFiles other depth) (more_known known other h depth) path i.parts i.each;
  entries = i.entries;
})
