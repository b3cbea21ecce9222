-- From the order of the list to that of its items' specifications.
use Rattle.std.proofs.Common.{◌≡◌, refl, sym, ap, subst, ◌∙◌, ℕ, Bool, not, ◌&&◌, List, [], map}
use Rattle.std.specs.Cmp.Lexicographic.{slice_cmp}
use Rattle.std.specs.List.{filter}
use Rattle.std.specs.List.Sorted.{IsPermutation, IsSorted, IsStableByKey, ties}
use Rattle.std.specs.Ordering.{is_lt, nat_cmp}
use Rattle.std.specs.declared.cmp.Ordering.{Ordering}
use Rattle.std.proofs.lemmas.List.Sorted.{IsPermutation-map}
use Rattle.status_index.specs.declared.entry.Entry.{Entry}
use Rattle.status_index.specs.declared.id.ObjectId.TheVariants.{Sha1}
use Rattle.status_index.specs.declared.mode.Mode.TheVariants.{File}
use Rattle.status_index.specs.declared.stat.Time.{Time}
use Rattle.status_call.specs.declared.index_as_worktree.types.EntryStatus.TheVariants.{IntentToAdd}
use Rattle.status_rewrites.proofs.Lists.{filter-map, IsSortedBy-map}
use Rattle.status_joined.specs.Items.{path_of}
use Rattle.status_joined.specs.ListItems.{item_of}
use Rattle.status_joined.specs.Lists.{list_cmp, IsSortedList}
use Rattle.status_joined.specs.declared.item.ModificationOrDirwalkEntry.{ModificationOrDirwalkEntry}
use Rattle.status_joined.specs.declared.item.ModificationOrDirwalkEntry.TheVariants.{Modification}

-- Images keep their order if the elements do, and if the key of each image is the key of some element's image.
stable_images : {X Y K : Type 0} (f : X → Y) (key : Y → K) (R : K → K → Ordering) → ((y : Y) → (x : X) × (key (f x) ≡ key y)) → (xs ys : List X) → IsStableByKey (λ x. key (f x)) R xs ys → IsStableByKey key R (map f xs) (map f ys)
stable_images f key R some xs ys stable y =
    let x = some y in
    let tied : _ → _ → Bool = λ k z. not (is_lt (R k (key (f z)))) && not (is_lt (R (key (f z)) k)) in
    filter-map (ties (λ a b. is_lt (R (key a) (key b))) y) f ys
    ∙ ap (map f) (subst (λ k. filter (tied k) ys ≡ filter (tied k) xs) x.1 (stable x.0))
    ∙ sym (filter-map (ties (λ a b. is_lt (R (key a) (key b))) y) f xs)

epoch : Time
epoch = record { secs = 0; nsecs = 0 }

blank : Entry
blank = record {
  stat = record { mtime = epoch; ctime = epoch; dev = 0; ino = 0; uid = 0; gid = 0; size = 0 };
  id = Sha1 [];
  flags = record { 0 = 0 };
  mode = File;
  path = record { start = 0; end = 0 };
}

-- Some item with a path.
at_path : {T U : Type 0} → List ℕ → ModificationOrDirwalkEntry T U
at_path path = Modification (record {
  entry = record { ref_ptr = (0, 0); now = blank };
  entry_index = 0;
  relative_path = record { bytes = record { ref_ptr = (0, 0); now = path } };
  status = IntentToAdd;
  whole = record { 0 = record { ref_ptr = (0, 0); now = [] } };
  parts = record {};
})

-- The items of a sorted list are a sorted list.
pub sorted_images : {T U : Type 0} (xs ys : List (ModificationOrDirwalkEntry T U)) → IsPermutation xs ys → IsStableByKey (λ x. path_of (item_of x)) (slice_cmp nat_cmp) xs ys → IsSorted (λ a b. list_cmp (item_of a) (item_of b)) ys → IsSortedList (map item_of xs) (map item_of ys)
unfolding at_path
sorted_images xs ys bag stable order = record {
  bag = IsPermutation-map item_of xs ys bag;
  stable = stable_images item_of path_of (slice_cmp nat_cmp) (λ y. (at_path (path_of y), refl)) xs ys stable;
  order = IsSortedBy-map (λ a b. is_lt (list_cmp a b)) item_of ys order;
}
