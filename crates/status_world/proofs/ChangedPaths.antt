-- The changed paths of a report, by the entries' verdicts.
use Rattle.std.proofs.Common.{◌≡◌, ◌⊎◌, ◌↔◌, inl, inr, refl, sym, ap, subst, ◌∙◌, ℕ, ◌+◌, Bool, true, false, cond, List, [], ◌∷◌, ◌++◌, map, filter, Option, Some, None, IsSomeAnd, Result, Ok, Err, flat_map}
use Rattle.std.specs.List.{enumerate_from}
use Rattle.std.specs.Str.{bytes_eq}
use Rattle.std.proofs.lemmas.List.{map-append}
use Rattle.std.proofs.lemmas.List.Elements.{filter-append}
use Rattle.std.proofs.lemmas.Slice.Eq.{bytes_eq-Decides}
use Rattle.status_index.specs.Entries.{IndexEntry}
use Rattle.status_compare.specs.declared.error.Error.{Error}
use Rattle.status_world.specs.History.{IsIn}
use Rattle.status_world.specs.Reports.{RunStatus, Reported, is_change, changed_paths}
use Rattle.status_world.specs.StampedWorld.{StampedWorld, entry_of_path, reported_by, verdict_in, report_of}
use Rattle.status_compare.specs.declared.compare.Comparer.{Comparer}
use Rattle.status_world.proofs.Pairs.{IsChangeVerdict}
use Rattle.status_world.proofs.EntryLists.{AreAscending, ascends_tail, ascends_head, none_later}

abbrev pub Decide : Type 0
Decide = IndexEntry → Result (Option RunStatus) Error

abbrev paths_of : List Reported → List (List ℕ)
paths_of rs = map (λ x. x.path) (filter (λ x. is_change x.status) rs)

-- ---- members of joined lists

pub in_left : (x : List ℕ) (xs ys : List (List ℕ)) → IsIn x xs → IsIn x (xs ++ ys)
in_left x [] ys h = absurd h
in_left x (y ∷ xs) ys (inl e) = inl e
in_left x (y ∷ xs) ys (inr h) = inr (in_left x xs ys h)

pub in_right : (x : List ℕ) (xs ys : List (List ℕ)) → IsIn x ys → IsIn x (xs ++ ys)
in_right x [] ys h = h
in_right x (y ∷ xs) ys h = inr (in_right x xs ys h)

pub in_either : (x : List ℕ) (xs ys : List (List ℕ)) → IsIn x (xs ++ ys) → IsIn x xs ⊎ IsIn x ys
in_either x [] ys h = inr h
in_either x (y ∷ xs) ys (inl e) = inl (inl e)
in_either x (y ∷ xs) ys (inr h) = elim (in_either x xs ys h) [ inl k ↦ inl (inr k) | inr k ↦ inr k ]

-- ---- one entry

kept_path : (b : Bool) (x : Reported) (p : List ℕ) → IsIn p (map (λ (r : Reported). r.path) (cond b (x ∷ []) [])) → (p ≡ x.path) × (b ≡ true)
kept_path true x p (inl e) = (e, refl)
kept_path true x p (inr h) = absurd h
kept_path false x p h = absurd h

path_kept : (b : Bool) (x : Reported) (p : List ℕ) → p ≡ x.path → b ≡ true → IsIn p (map (λ (r : Reported). r.path) (cond b (x ∷ []) []))
path_kept true x p e t = inl e
path_kept false x p e t = cc

reported_path : (n : ℕ) (path p : List ℕ) (v : Result (Option RunStatus) Error) → IsIn p (paths_of (reported_by n path v)) → (p ≡ path) × IsChangeVerdict v
reported_path n path p (Ok (Some status)) h = kept_path (is_change status) (record { entry_index = n; path = path; status = status }) p h
reported_path n path p (Ok None) h = absurd h
reported_path n path p (Err e) h = absurd h

path_reported : (n : ℕ) (path p : List ℕ) (v : Result (Option RunStatus) Error) → p ≡ path → IsChangeVerdict v → IsIn p (paths_of (reported_by n path v))
path_reported n path p (Ok (Some status)) e t = path_kept (is_change status) (record { entry_index = n; path = path; status = status }) p e t
path_reported n path p (Ok None) e t = absurd t
path_reported n path p (Err x) e t = absurd t

-- ---- all entries

module _ (decide : Decide) where
  abbrev pub reports_from : ℕ → List IndexEntry → List Reported
  reports_from n es = flat_map (λ p. reported_by p.0 p.1.path (decide p.1)) (enumerate_from n es)

  paths-cons : (n : ℕ) (e : IndexEntry) (es : List IndexEntry) → paths_of (reports_from n (e ∷ es)) ≡ paths_of (reported_by n e.path (decide e)) ++ paths_of (reports_from (n + 1) es)
  paths-cons n e es =
      ap (map (λ (x : Reported). x.path)) (filter-append (λ (x : Reported). is_change x.status) (reported_by n e.path (decide e)) (reports_from (n + 1) es))
      ∙ map-append (λ (x : Reported). x.path) (filter (λ x. is_change x.status) (reported_by n e.path (decide e))) (filter (λ x. is_change x.status) (reports_from (n + 1) es))

  abbrev Changed : List ℕ → Option IndexEntry → Type 0
  Changed p o = IsSomeAnd o (λ e. IsChangeVerdict (decide e))

  -- By the first entry, if it has the path, or otherwise by the later entries.
  at_first : (p : List ℕ) (e : IndexEntry) (later : Option IndexEntry) (b : Bool) → b ≡ bytes_eq e.path p
      → ((p ≡ e.path) × IsChangeVerdict (decide e)) ⊎ Changed p later → (p ≡ e.path → later ≡ None) → Changed p (cond b (Some e) later)
  at_first p e later true t (inl h) none = h.1
  at_first p e later true t (inr h) none =
      let same : e.path ≡ p = (bytes_eq-Decides e.path p).0 (sym t) in
      absurd (subst (Changed p) (none (sym same)) h)
  at_first p e later false t (inl h) none =
      let same : bytes_eq e.path p ≡ true = (bytes_eq-Decides e.path p).1 (sym h.0) in absurd (cc)
  at_first p e later false t (inr h) none = h

  from_first : (p : List ℕ) (e : IndexEntry) (later : Option IndexEntry) (b : Bool) → b ≡ bytes_eq e.path p
      → Changed p (cond b (Some e) later) → ((p ≡ e.path) × IsChangeVerdict (decide e)) ⊎ Changed p later
  from_first p e later true t h = inl (sym ((bytes_eq-Decides e.path p).0 (sym t)), h)
  from_first p e later false t h = inr h

  changed_of : (p : List ℕ) (es : List IndexEntry) (n : ℕ) → AreAscending es → IsIn p (paths_of (reports_from n es)) → Changed p (entry_of_path p es)
  changed_of p [] n ascends h = h
  changed_of p (e ∷ es) n ascends h =
      let here = in_either p (paths_of (reported_by n e.path (decide e))) (paths_of (reports_from (n + 1) es)) (subst (IsIn p) (paths-cons n e es) h) in
      let parts : ((p ≡ e.path) × IsChangeVerdict (decide e)) ⊎ Changed p (entry_of_path p es) =
      elim here [
        | inl k ↦ inl (reported_path n e.path p (decide e) k)
        | inr k ↦ inr (changed_of p es (n + 1) (ascends_tail e es ascends) k)
      ] in
      at_first p e (entry_of_path p es) (bytes_eq e.path p) refl parts (λ same. subst (λ r. entry_of_path r es ≡ None) (sym same) (none_later e es (ascends_head e es ascends)))

  of_changed : (p : List ℕ) (es : List IndexEntry) (n : ℕ) → Changed p (entry_of_path p es) → IsIn p (paths_of (reports_from n es))
  of_changed p [] n h = h
  of_changed p (e ∷ es) n h =
      subst (IsIn p) (sym (paths-cons n e es))
      (elim (from_first p e (entry_of_path p es) (bytes_eq e.path p) refl h) [
        | inl k ↦ in_left p (paths_of (reported_by n e.path (decide e))) (paths_of (reports_from (n + 1) es)) (path_reported n e.path p (decide e) k.0 k.1)
        | inr k ↦ in_right p (paths_of (reported_by n e.path (decide e))) (paths_of (reports_from (n + 1) es)) (of_changed p es (n + 1) k)
      ])

-- A path is among a report's changed paths exactly if its entry's verdict is a change.
pub changed_at : (w : StampedWorld) (c : Comparer) → AreAscending w.entries → (p : List ℕ)
    → IsIn p (changed_paths (report_of w c)) ↔ IsSomeAnd (entry_of_path p w.entries) (λ e. IsChangeVerdict (verdict_in w c e))
changed_at w c ascends p = (changed_of (verdict_in w c) p w.entries 0 ascends, of_changed (verdict_in w c) p w.entries 0)
