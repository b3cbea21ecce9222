-- The entries after a refresh, position by position.
use Rattle.std.proofs.Common.{◌≡◌, ◌≢◌, ◌∙◌, refl, sym, ap, subst, ℕ, zero, suc, ◌<◌, arith, Bool, true, false, not, cond, List, [], ◌∷◌, length, filter, All, Option, Some, None, option_map, slice_get, slice_index_or, Ok, if◌then◌else◌}
use Rattle.std.specs.List.{AllPairs, cons_option}
use Rattle.std.proofs.lemmas.List.Elements.{All-nil, All-cons, All-head, All-tail}
use Rattle.std.proofs.lemmas.List.Folds.{list_any_at}
use Rattle.status_index.specs.Entries.{IndexEntry}
use Rattle.status_index.specs.States.{with_stat}
use Rattle.status_index.specs.declared.stat.Stat.{Stat}
use Rattle.status_call.specs.IndexChanges.{DifferInStats, applied, applied_one, change_at, change_of, changed_entry, changes_of, entry_index_of, updated_entry}
use Rattle.status_call.specs.Considered.{considered}
use Rattle.status_call.specs.Query.{Query}
use Rattle.status_call.specs.Status.{status_of}
use Rattle.status_call.specs.Visits.{Visit}
use Rattle.status_call.specs.declared.index_as_worktree.apply.ApplyChange.{ApplyChange}
use Rattle.status_call.proofs.IndexChanges.{asked, place_kept, stats_alone}
use Rattle.git_status.specs.Kept.{Asks, is_left_out, kept_changes}
use Rattle.git_status.specs.Lines.{letters}
use Rattle.git_status.specs.RefreshLaw.{OwnLaw, RefreshLaw, SeesSame, later_verdict, refreshed_entries, refreshed_entry, shown_letters}
use Rattle.git_status.proofs.RefreshLaw.{kept_law, left_out_law, only_stat}
use Rattle.git_status.proofs.RefreshedRecords.{report_status, reports_ascend}
use Rattle.git_status.proofs.RefreshedVerdicts.{considered_differ, verdict_shown}

-- ---- one change

changed_here : (f : IndexEntry → IndexEntry) (at : ℕ) (es : List IndexEntry) → slice_get (change_at f at es) at ≡ option_map f (slice_get es at)
changed_here f at [] = refl
changed_here f zero (e ∷ es) = refl
changed_here f (suc at) (e ∷ es) = changed_here f at es

kept_there : (f : IndexEntry → IndexEntry) (n at : ℕ) (es : List IndexEntry) → n ≢ at → slice_get (change_at f n es) at ≡ slice_get es at
kept_there f n at [] other = refl
kept_there f zero zero (e ∷ es) other = absurd (other refl)
kept_there f zero (suc at) (e ∷ es) other = refl
kept_there f (suc n) zero (e ∷ es) other = refl
kept_there f (suc n) (suc at) (e ∷ es) other = kept_there f n at es (λ same. other (ap suc same))

-- The change is of another position.
abbrev IsElsewhere : ℕ → ApplyChange → Type 0
IsElsewhere at c = entry_index_of c ≢ at

untouched : (cs : List ApplyChange) (es : List IndexEntry) (at : ℕ) → All (IsElsewhere at) cs → slice_get (applied cs es) at ≡ slice_get es at
untouched [] es at others = refl
untouched (c ∷ cs) es at others =
    untouched cs (applied_one c es) at (All-tail (IsElsewhere at) c cs others)
    ∙ kept_there (changed_entry c) (entry_index_of c) at es (All-head (IsElsewhere at) c cs others)

same_option : {A : Type 0} (o : Option A) → o ≡ option_map (λ a. a) o
same_option (Some a) = refl
same_option None = refl

one_value : {A : Type 0} (a b : A) → ◌≡◌ {A = Option A} (Some a) (Some b) → a ≡ b
one_value a b h = cc

-- The entries after a change, if there is one.
abbrev with_change : Option ApplyChange → List IndexEntry → List IndexEntry
with_change (Some c) es = applied_one c es
with_change None es = es

module _ {T U : Type 0} (said : Asks) where
  -- ---- one record

  -- The entries after the change that a record asks for, if it is kept.
  abbrev stepped : Visit T U → List IndexEntry → List IndexEntry
  stepped v es = if is_left_out said v then es else with_change (asked v) es

  refreshed_cons : (v : Visit T U) (vs : List (Visit T U)) (es : List IndexEntry) → refreshed_entries said (v ∷ vs) es ≡ refreshed_entries said vs (stepped v es)
  refreshed_cons v vs es = by (is_left_out said v)
    where
      rest : List (Visit T U)
      rest = filter (λ w. not (is_left_out said w)) vs

      asks : (o : Option ApplyChange) → applied (cons_option o (changes_of rest)) es ≡ applied (changes_of rest) (with_change o es)
      asks (Some c) = refl
      asks None = refl

      by : (left : Bool) → applied (changes_of (cond (not left) (v ∷ rest) rest)) es ≡ applied (changes_of rest) (if left then es else with_change (asked v) es)
      by true = refl
      by false = asks (asked v)

  stepped_here : (v : Visit T U) (es : List IndexEntry) → slice_get (stepped v es) v.entry_index ≡ option_map (refreshed_entry said v) (slice_get es v.entry_index)
  stepped_here v es = by (is_left_out said v)
    where
      asks : (o : Option ApplyChange) → asked v ≡ o → slice_get (with_change o es) v.entry_index ≡ option_map (updated_entry o) (slice_get es v.entry_index)
      asks (Some c) is =
          let place : entry_index_of c ≡ v.entry_index = place_kept v.entry_index v.status c is in
          subst (λ (at : ℕ). slice_get (applied_one c es) at ≡ option_map (changed_entry c) (slice_get es at)) place (changed_here (changed_entry c) (entry_index_of c) es)
      asks None is = same_option (slice_get es v.entry_index)

      by : (left : Bool) → slice_get (if left then es else with_change (asked v) es) v.entry_index
          ≡ option_map (λ (e : IndexEntry). if left then e else updated_entry (asked v) e) (slice_get es v.entry_index)
      by true = same_option (slice_get es v.entry_index)
      by false = asks (asked v) refl

  stepped_there : (v : Visit T U) (es : List IndexEntry) (at : ℕ) → v.entry_index ≢ at → slice_get (stepped v es) at ≡ slice_get es at
  stepped_there v es at other = by (is_left_out said v)
    where
      asks : (o : Option ApplyChange) → asked v ≡ o → slice_get (with_change o es) at ≡ slice_get es at
      asks (Some c) is = kept_there (changed_entry c) (entry_index_of c) at es (λ same. other (sym (place_kept v.entry_index v.status c is) ∙ same))
      asks None is = refl

      by : (left : Bool) → slice_get (if left then es else with_change (asked v) es) at ≡ slice_get es at
      by true = refl
      by false = asks (asked v) refl

  -- ---- all records

  abbrev IsApart : ℕ → Visit T U → Type 0
  IsApart at v = v.entry_index ≢ at

  others_kept : (visits : List (Visit T U)) (es : List IndexEntry) (at : ℕ) → All (IsApart at) visits → slice_get (refreshed_entries said visits es) at ≡ slice_get es at
  others_kept [] es at apart = refl
  others_kept (v ∷ vs) es at apart =
      ap (λ (l : List IndexEntry). slice_get l at) (refreshed_cons v vs es)
      ∙ (others_kept vs (stepped v es) at (All-tail (IsApart at) v vs apart)
      ∙ stepped_there v es at (All-head (IsApart at) v vs apart))

  abbrev Ascends : Visit T U → Visit T U → Type 0
  Ascends a b = a.entry_index < b.entry_index

  abbrev IsOwn : List IndexEntry → List IndexEntry → Visit T U → Type 0
  IsOwn new es v = slice_get new v.entry_index ≡ option_map (refreshed_entry said v) (slice_get es v.entry_index)

  recorded : (visits : List (Visit T U)) (es : List IndexEntry) → AllPairs Ascends visits → All (IsOwn (refreshed_entries said visits es) es) visits
  recorded [] es ascends = All-nil (IsOwn es es)
  recorded (v ∷ vs) es ascends =
      All-cons (IsOwn (refreshed_entries said (v ∷ vs) es) es) v vs head
      (tail (recorded vs (stepped v es) (λ i j c before within. ascends (suc i) (suc j) c (omega arith) (omega arith))))
    where
      above : (k : ℕ) (d : Visit T U) → k < length vs → v.entry_index < (slice_index_or vs k d).entry_index
      above k d inside = ascends zero (suc k) d (omega arith) (omega arith)

      head : IsOwn (refreshed_entries said (v ∷ vs) es) es v
      head =
          ap (λ (l : List IndexEntry). slice_get l v.entry_index) (refreshed_cons v vs es)
          ∙ (others_kept vs (stepped v es) v.entry_index (λ k d inside same. let less = above k d inside in omega arith)
          ∙ stepped_here v es)

      tail : All (IsOwn (refreshed_entries said vs (stepped v es)) (stepped v es)) vs → All (IsOwn (refreshed_entries said (v ∷ vs) es) es) vs
      tail later k d inside =
          let w = slice_index_or vs k d in
          let less : v.entry_index < w.entry_index = above k d inside in
          ap (λ (l : List IndexEntry). slice_get l w.entry_index) (refreshed_cons v vs es)
          ∙ (later k d inside
          ∙ ap (option_map (refreshed_entry said w)) (stepped_there v es w.entry_index (λ same. omega arith)))

  pub own_law : (visits : List (Visit T U)) (es : List IndexEntry) → OwnLaw said visits es
  own_law visits es ascends = record { recorded = recorded visits es ascends; others = λ at apart. others_kept visits es at apart }

module _ {U : Type 0} (said : Asks) (q later : Query (Unit {0}) U) (visits : List (Visit (Unit {0}) U)) (es : List IndexEntry) where
  pub refresh_law : RefreshLaw said q later visits es
  refresh_law sizes later_sizes selects records early k d inside old new seen =
      let v = slice_index_or visits k d in
      let own : Some new ≡ Some (refreshed_entry said v old) =
      sym seen.new_entry ∙ (recorded said visits es (reports_ascend q es visits records.1) k d inside ∙ ap (option_map (refreshed_entry said v)) seen.old_entry) in
      let is : new ≡ refreshed_entry said v old = one_value new (refreshed_entry said v old) own in
      subst Shows (sym is) (by (is_left_out said v) refl (subst (SeesSame q later old) is seen.same))
    where
      v : Visit (Unit {0}) U
      v = slice_index_or visits k d

      Shows : IndexEntry → Type 0
      Shows e = shown_letters (later_verdict said q later visits es e) ≡ Ok (letters v.status)

      asks : Option ApplyChange
      asks = change_of v.entry_index v.status

      differ : DifferInStats (considered later.prefix (refreshed_entries said visits es)) (considered q.prefix es)
      differ =
          subst (λ (prefix : List ℕ). DifferInStats (considered prefix (refreshed_entries said visits es)) (considered q.prefix es)) (sym selects.prefix)
          (considered_differ q.prefix (refreshed_entries said visits es) es (stats_alone (kept_changes said visits) es))

      by_status : (stat : Stat) → (status_of q old ≡ Ok (Some v.status) → shown_letters (status_of later (with_stat stat old)) ≡ Ok (letters v.status)) → Shows (with_stat stat old)
      by_status stat kept =
          verdict_shown q later selects (considered later.prefix (refreshed_entries said visits es)) (considered q.prefix es) differ old stat v.status kept (report_status q es visits records.1 records.0 k d inside old seen.old_entry)

      by : (left : Bool) → is_left_out said v ≡ left → SeesSame q later old (if left then old else updated_entry asks old) → Shows (if left then old else updated_entry asks old)
      by true left same = by_status old.stat (λ status. left_out_law q later old sizes later_sizes (early (list_any_at (is_left_out said) visits k d inside left)) v.status status same)
      by false left same =
          let one = only_stat asks old in
          subst Shows (sym one)
          (by_status (updated_entry asks old).stat (λ status.
          subst (λ (e : IndexEntry). shown_letters (status_of later e) ≡ Ok (letters v.status)) one (kept_law q later old sizes later_sizes seen.empty v.entry_index v.status status same)))
