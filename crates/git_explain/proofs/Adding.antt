-- Explanations of more paths, one after the other.
use Rattle.std.proofs.Common.{◌≡◌, ◌==◌, ◌∙◌, ◌++◌, if◌then◌else◌, ◌||◌, ℕ, Bool, true, false, List, [], ◌∷◌, map, Option, Some, None, Result, Ok, Err, refl, sym, ap, subst}
use Rattle.std.specs.Global.{Vec}
use Rattle.std.specs.List.{list_any}
use Rattle.std.specs.Prelude.{IfSome, OnOk, is_err}
use Rattle.std.proofs.Math.Bool.{or-false, or_assoc}
use Rattle.std.proofs.lemmas.List.{append_assoc, map-append}
use Rattle.std.proofs.lemmas.List.Elements.{All-append, All-cons, All-nil, All-weaker}
use Rattle.std.proofs.lemmas.List.Folds.{list_any-append}
use Rattle.bstr.specs.BStr.{bstr_bytes}
use Rattle.git_attributes.specs.declared.clean.CleanFilter.{CleanFilter}
use Rattle.git_status.specs.Runs.{Asking, Converting}
use Rattle.status_base.specs.Openings.{MayOpen}
use Rattle.status_base.specs.Sights.{MayStat}
use Rattle.status_call.specs.Inputs.{settings}
use Rattle.status_call.specs.declared.index_as_worktree.inputs.Settings.{Settings}
use Rattle.status_index.specs.Entries.{IndexEntry, entry_at}
use Rattle.status_index.specs.declared.stat.Metadata.{Metadata}
use Rattle.status_index.specs.States.{index_of}
use Rattle.status_index.specs.declared.entry.Entry.{Entry}
use Rattle.status_index.specs.declared.fault.Fault.{Fault}
use Rattle.status_index.specs.declared.state.State.{State}
use Rattle.git_explain.specs.Added.{Adds}
use Rattle.git_explain.specs.Allowed.{IsFileAllowed, IsLinkAllowed, IsSightAllowed, IsSubmoduleAllowed, linked_anyhow, opened_anyhow}
use Rattle.git_explain.specs.Explained.{AreExplained, IsExplained, IsStatusBySight, IsWhole, entry_of, first_entries, has_line}
use Rattle.git_explain.specs.declared.explained.Explained.{Explained}
use Rattle.git_explain.specs.declared.paths.Explanations.{Explanations}
use Rattle.git_explain.specs.declared.sight.Reading.{Reading}

-- The entry whose path is explained.
pub entry_is : (x : Explained) (path : List ℕ) (e : Entry) → x.entry.now ≡ e → bstr_bytes x.path ≡ path → entry_of x ≡ entry_at path e
entry_is x path e same at = λ i. entry_at (at i) (same i)

-- A test of more values, noted one list after the other.
noted : {X : Type 0} (p : X → Bool) (xs ys : List X) (old mid new : Bool) → mid ≡ (old || list_any p xs) → new ≡ (mid || list_any p ys) → new ≡ (old || list_any p (xs ++ ys))
noted p xs ys old mid new first second =
    second ∙ ap (λ (b : Bool). b || list_any p ys) first ∙ or_assoc old (list_any p xs) (list_any p ys) ∙ ap (λ (b : Bool). old || b) (sym (list_any-append p xs ys))

module _ {U : Type 0} (may_stat : MayStat) (may_open : List ℕ → MayOpen) (may_link : List ℕ → Result (List ℕ) Fault → Type 0)
    (may_report : IndexEntry → Result (Option U) (List ℕ) → Type 0) (settings : Settings) (filter : CleanFilter) (index : State) where
  -- No path is explained.
  pub adds_none : (x : Explanations) → Adds may_stat may_open may_link may_report settings filter index [] x x
  adds_none x = record { found = []; all = refl; each = All-nil (IsExplained may_stat may_open may_link may_report settings filter index); lines = sym (or-false x.differs); faults = sym (or-false x.failed) }

  -- One path is explained.
  pub adds_one : (x : Explained) (e : IndexEntry) (old new : Explanations) → entry_of x ≡ e → IsStatusBySight settings filter index x → IsWhole x.answer
      → IsSightAllowed may_stat (may_open e.path) (may_link e.path) (may_report e) x.sight
      → new.differs ≡ (old.differs || has_line x) → new.failed ≡ (old.failed || is_err x.answer)
      → Adds may_stat may_open may_link may_report settings filter index (e ∷ []) old new
  adds_one x e old new is status whole allowed lines faults = record {
    found = x ∷ [];
    all = ap (λ (v : IndexEntry). v ∷ []) is;
    each = All-cons (IsExplained may_stat may_open may_link may_report settings filter index) x [] (record {
      status = status;
      whole = whole;
      allowed = subst (λ (v : IndexEntry). IsSightAllowed may_stat (may_open v.path) (may_link v.path) (may_report v) x.sight) (sym is) allowed;
    }) (All-nil (IsExplained may_stat may_open may_link may_report settings filter index));
    lines = lines ∙ ap (λ (b : Bool). old.differs || b) (sym (or-false (has_line x)));
    faults = faults ∙ ap (λ (b : Bool). old.failed || b) (sym (or-false (is_err x.answer)));
  }

  -- The same, unless memory ran out.
  pub adds_one_on_ok : {A E : Type 0} (r : Result A E) (x : Explained) (e : IndexEntry) (old new : Explanations) → entry_of x ≡ e → IsStatusBySight settings filter index x → IsWhole x.answer
      → IsSightAllowed may_stat (may_open e.path) (may_link e.path) (may_report e) x.sight
      → OnOk r (new.differs ≡ (old.differs || has_line x)) → OnOk r (new.failed ≡ (old.failed || is_err x.answer))
      → OnOk r (Adds may_stat may_open may_link may_report settings filter index (e ∷ []) old new)
  adds_one_on_ok (Ok v) x e old new is status whole allowed lines faults = adds_one x e old new is status whole allowed lines faults
  adds_one_on_ok (Err v) x e old new is status whole allowed lines faults = tt

  -- More paths are explained.
  pub adds_more : (es others : List IndexEntry) (old mid new : Explanations) → Adds may_stat may_open may_link may_report settings filter index es old mid
      → Adds may_stat may_open may_link may_report settings filter index others mid new
      → Adds may_stat may_open may_link may_report settings filter index (es ++ others) old new
  adds_more es others old mid new a b = record {
    found = a.found ++ b.found;
    all = map-append entry_of a.found b.found ∙ ap (λ (v : List IndexEntry). v ++ map entry_of b.found) a.all ∙ ap (λ (v : List IndexEntry). es ++ v) b.all;
    each = All-append (IsExplained may_stat may_open may_link may_report settings filter index) a.found b.found a.each b.each;
    lines = noted has_line a.found b.found old.differs mid.differs new.differs a.lines b.lines;
    faults = noted (λ (x : Explained). is_err x.answer) a.found b.found old.failed mid.failed new.failed a.faults b.faults;
  }

  -- Some paths are explained after those that were, and the next ones are left.
  pub continued : (all done some here next : List IndexEntry) (old mid new : Explanations) → done ++ here ≡ all → here ≡ some ++ next
      → Adds may_stat may_open may_link may_report settings filter index done old mid → Adds may_stat may_open may_link may_report settings filter index some mid new
      → (others : List IndexEntry) × (others ++ next ≡ all) × Adds may_stat may_open may_link may_report settings filter index others old new
  continued all done some here next old mid new was splits before after = (
    done ++ some,
    append_assoc done some next ∙ ap (λ (v : List IndexEntry). done ++ v) (sym splits) ∙ was,
    adds_more done some old mid new before after,
  )

-- A submodule may report by the other relation all that it may by the one.
report_within : {U : Type 0} (less more : Result (Option U) (List ℕ) → Type 0) → ((r : Result (Option U) (List ℕ)) → less r → more r) → (s : Option (Result Bool (List ℕ)))
    → IfSome s (IsSubmoduleAllowed less) → IfSome s (IsSubmoduleAllowed more)
report_within less more within None h = tt
report_within less more within (Some (Ok true)) h = (h.0, within (Ok (Some h.0)) h.1)
report_within less more within (Some (Ok false)) h = within (Ok None) h
report_within less more within (Some (Err text)) h = within (Err text) h

-- The same for explanations of paths.
pub adds_within : {U : Type 0} (may_stat : MayStat) (may_open : List ℕ → MayOpen) (may_link : List ℕ → Result (List ℕ) Fault → Type 0)
    (less more : IndexEntry → Result (Option U) (List ℕ) → Type 0) (settings : Settings) (filter : CleanFilter) (index : State) (es : List IndexEntry) (old new : Explanations)
    → ((e : IndexEntry) (r : Result (Option U) (List ℕ)) → less e r → more e r)
    → Adds may_stat may_open may_link less settings filter index es old new → Adds may_stat may_open may_link more settings filter index es old new
adds_within may_stat may_open may_link less more settings filter index es old new within a = record {
  found = a.found;
  all = a.all;
  each = All-weaker (IsExplained may_stat may_open may_link less settings filter index) (IsExplained may_stat may_open may_link more settings filter index)
      (λ x h. record {
        status = h.status;
        whole = h.whole;
        allowed = record {
          calls = h.allowed.calls;
          file = h.allowed.file;
          link = h.allowed.link;
          submodule = report_within (less (entry_of x)) (more (entry_of x)) (within (entry_of x)) x.sight.submodule h.allowed.submodule;
        };
      }) a.found a.each;
  lines = a.lines;
  faults = a.faults;
}

file_anyhow : (may : MayOpen) (s : Option (Result Reading Fault)) → IfSome s (IsFileAllowed may) → IfSome s (IsFileAllowed (λ r. (n : Metadata) → may r))
file_anyhow may None h = tt
file_anyhow may (Some (Ok r)) h = λ n. h
file_anyhow may (Some (Err f)) h = λ n. h

link_anyhow : (may : Result (List ℕ) Fault → Type 0) (s : Option (Result (Vec ℕ) Fault)) → IfSome s (IsLinkAllowed may) → IfSome s (IsLinkAllowed (λ r. (n : Metadata) → may r))
link_anyhow may None h = tt
link_anyhow may (Some (Ok target)) h = λ n. h
link_anyhow may (Some (Err f)) h = λ n. h

-- The node that was met at a path doesn't matter for what may be read there.
pub adds_anyhow : {U : Type 0} (may_stat : MayStat) (may_open : List ℕ → MayOpen) (may_link : List ℕ → Result (List ℕ) Fault → Type 0) (may_report : IndexEntry → Result (Option U) (List ℕ) → Type 0)
    (settings : Settings) (filter : CleanFilter) (index : State) (es : List IndexEntry) (old new : Explanations) → Adds may_stat may_open may_link may_report settings filter index es old new
    → Adds may_stat (λ path r. (n : Metadata) → may_open path r) (λ path r. (n : Metadata) → may_link path r) may_report settings filter index es old new
adds_anyhow may_stat may_open may_link may_report settings filter index es old new a = record {
  found = a.found;
  all = a.all;
  each = All-weaker (IsExplained may_stat may_open may_link may_report settings filter index)
      (IsExplained may_stat (λ path r. (n : Metadata) → may_open path r) (λ path r. (n : Metadata) → may_link path r) may_report settings filter index)
      (λ x h. record {
        status = h.status;
        whole = h.whole;
        allowed = record {
          calls = h.allowed.calls;
          file = file_anyhow (may_open (entry_of x).path) x.sight.file h.allowed.file;
          link = link_anyhow (may_link (entry_of x).path) x.sight.link h.allowed.link;
          submodule = h.allowed.submodule;
        };
      }) a.found a.each;
  lines = a.lines;
  faults = a.faults;
}

-- All selected paths are explained, after none was.
pub all_explained : {T U : Type 0} (a : Asking T U) (included : List ℕ → Bool → Bool) (index : State) (c : Converting a index) (none all : Explanations) → none.differs ≡ false → none.failed ≡ false
    → Adds a.may_return.stat (opened_anyhow a.may_return) (linked_anyhow a.may_return) a.may_return.reported (settings a.settings.options index) c.filter index (first_entries included [] (index_of index)) none all
    → AreExplained a included index all.differs all.failed
all_explained a included index c none all unchanged unfailed h = record {
  converting = c;
  found = h.found;
  all = h.all;
  each = h.each;
  lines = h.lines ∙ ap (λ (b : Bool). b || list_any has_line h.found) unchanged;
  faults = h.faults ∙ ap (λ (b : Bool). b || list_any (λ (x : Explained). is_err x.answer) h.found) unfailed;
}

-- The same facts of a path that differs, and of one that failed.
with_both : {T U : Type 0} (a : Asking T U) (included : List ℕ → Bool → Bool) (index : State) (differs failed : Bool) (n : ℕ) → (n == 1) ≡ differs → failed ≡ false
    → AreExplained a included index differs failed → AreExplained a included index (n == 1) false
with_both a included index differs failed n is none h = subst (λ (b : Bool). AreExplained a included index b false) (sym is) (subst (λ (b : Bool). AreExplained a included index differs b) none h)

-- The exit status is 1 exactly if a path differs.
pub exit_explained : {T U : Type 0} (a : Asking T U) (included : List ℕ → Bool → Bool) (index : State) (differs failed : Bool) (n : ℕ) → n ≡ (if differs then 1 else 0) → failed ≡ false
    → AreExplained a included index differs failed → AreExplained a included index (n == 1) false
exit_explained a included index true failed n is none h = with_both a included index true failed n (ap (λ (m : ℕ). m == 1) is) none h
exit_explained a included index false failed n is none h = with_both a included index false failed n (ap (λ (m : ℕ). m == 1) is) none h
