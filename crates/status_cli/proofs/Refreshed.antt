-- How a refresh ends, by the ends of its parts.
use Rattle.std.proofs.Common.{◌≡◌, ℕ, zero, suc, List, [], ◌∷◌, ◌++◌, Option, Some, Result, Ok, Err, inl, inr, refl, sym, ap, subst, ◌∙◌}
use Rattle.std.specs.Prelude.{◌⊎◌, IfErr}
use Rattle.std.specs.Result.{IsErrAnd}
use Rattle.std.specs.Str.{IsUtf8}
use Rattle.std.proofs.lemmas.List.Elements.{All-cons, All-head, All-tail}
use Rattle.serde_json.specs.Data.{Data}
use Rattle.serde_json.specs.Read.{read as json_of}
use Rattle.status_index.specs.Entries.{IndexEntry, index_entries}
use Rattle.status_index.specs.States.{backing_of, entries_of, index_of, timestamp_of}
use Rattle.status_index.specs.declared.stat.Moment.{Moment}
use Rattle.status_index.specs.declared.state.State.{State}
use Rattle.status_call.specs.IndexChanges.{applied, applied_one, change_at, changed_entry, entry_index_of}
use Rattle.status_call.specs.declared.index_as_worktree.apply.ApplyChange.{ApplyChange}
use Rattle.status_call.specs.declared.index_as_worktree.apply.ApplyChange.TheVariants.{NewStat, SetSizeToZero}
use Rattle.status_stored.specs.Storable.{AreUtf8}
use Rattle.status_profile.specs.Profiles.{IsRead}
use Rattle.status_profile.specs.Refreshed.{IsLineOf, IsUnwritten, refreshed}
use Rattle.status_profile.specs.declared.error.ProfileError.{ProfileError}
use Rattle.status_profile.specs.declared.error.ProfileError.TheVariants as profiles
use Rattle.status_profile.specs.declared.options.Kind.TheVariants.{Plain}
use Rattle.status_profile.specs.declared.profile.Profile.{Profile}
use Rattle.status_cli.specs.declared.failure.Failure.{Failure}
use Rattle.status_cli.specs.declared.failure.Failure.TheVariants.{Unreadable, Memory}
use Rattle.status_cli.specs.declared.status.inputs.WantedChanges.TheVariants.{Returned}
use Rattle.status_cli.specs.Failures.{failure_of_profile}
use Rattle.status_cli.specs.ProfileStatuses.{IsProfilePrinted}
use Rattle.status_cli.specs.Refreshes.{IsIndexRefreshed, IsRefreshFailed, IsRefreshed, PrintedStatus}

abbrev has_utf8 : IndexEntry → Type 0
has_utf8 e = IsUtf8 e.path

-- of what failed for a reason, what holds for that reason holds
pub err_weaker : {A : Type 0} (r : Result A Failure) (P Q : Failure → Type 0) → ((f : Failure) → P f → Q f) → IsErrAnd r P → IfErr r Q
err_weaker (Ok x) P Q step h = absurd h
err_weaker (Err f) P Q step h = step f h

-- a new timestamp keeps the entries
pub index_kept : (old new : State) → entries_of new ≡ entries_of old → backing_of new ≡ backing_of old → index_of new ≡ index_of old
index_kept old new entries backing = ap (λ b. index_entries b (entries_of new)) backing ∙ ap (index_entries (backing_of old)) entries

-- the status failed, so there is no index
pub unrefreshed_index : (p : Profile) (timestamp : Moment) (old new : Option (List ℕ)) (r : Result State Failure) (e : Failure) → IsErrAnd r (λ f. f ≡ e) → IsProfilePrinted p Returned old (Err e) new → IsIndexRefreshed p timestamp old r new
unrefreshed_index p timestamp old new (Ok index) e h printed = absurd h
unrefreshed_index p timestamp old new (Err f) e h printed = subst (λ d. IsProfilePrinted p Returned old (Err d) new) (sym h) printed

-- if paths are UTF-8, nothing but memory can be missing
unwritten_memory : (es : List IndexEntry) → AreUtf8 es → (e : ProfileError) → IsUnwritten es e → e ≡ profiles.Memory
unwritten_memory es utf8 profiles.NotJson h = absurd h
unwritten_memory es utf8 (profiles.Bad key) h = absurd (h.1 utf8)
unwritten_memory es utf8 (profiles.Index e) h = absurd h
unwritten_memory es utf8 profiles.Memory h = refl

-- changes keep paths
changed_path : (c : ApplyChange) (e : IndexEntry) → (changed_entry c e).path ≡ e.path
changed_path (NewStat at stat) e = refl
changed_path (SetSizeToZero at) e = refl

change_utf8 : (c : ApplyChange) (at : ℕ) (es : List IndexEntry) → AreUtf8 es → AreUtf8 (change_at (changed_entry c) at es)
change_utf8 c at [] all = all
change_utf8 c zero (e ∷ es) all = All-cons has_utf8 (changed_entry c e) es (subst IsUtf8 (sym (changed_path c e)) (All-head has_utf8 e es all)) (All-tail has_utf8 e es all)
change_utf8 c (suc at) (e ∷ es) all = All-cons has_utf8 e (change_at (changed_entry c) at es) (All-head has_utf8 e es all) (change_utf8 c at es (All-tail has_utf8 e es all))

applied_utf8 : (cs : List ApplyChange) (es : List IndexEntry) → AreUtf8 es → AreUtf8 (applied cs es)
applied_utf8 [] es all = all
applied_utf8 (c ∷ cs) es all = applied_utf8 cs (applied_one c es) (change_utf8 c (entry_index_of c) es all)

module _ (text : List ℕ) (old : Option (List ℕ)) where
  -- the text couldn't be read
  pub failed_unread : (f : Failure) → (f ≡ Unreadable) ⊎ (f ≡ Memory) → IsRefreshFailed text old f old
  failed_unread f why = inl (inl (inl (why, refl)))

  -- it says no profile
  pub failed_read : (e : ProfileError) → IsRead Plain text (Err e) → (f : Failure) → f ≡ failure_of_profile e → IsRefreshFailed text old f old
  failed_read e read f is = inl (inl (inr (e, read, is, refl)))

module _ (text : List ℕ) (old new : Option (List ℕ)) (p : Profile) (read : IsRead Plain text (Ok p)) where
  -- the status failed
  pub failed_status : (e f : Failure) → f ≡ e → IsProfilePrinted p Returned old (Err e) new → IsRefreshFailed text old f new
  failed_status e f is printed = subst (λ d. IsRefreshFailed text old d new) (sym is) (inl (inr (p, read, printed)))

  module _ (timestamp : Moment) (index : State) (refreshed_by : IsIndexRefreshed p timestamp old (Ok index) new) where
    abbrev status : PrintedStatus text old new
    status = record { profile = p; read = read; changes = refreshed_by.0; printed = refreshed_by.1 }

    -- there was no memory for the refreshed text
    pub failed_text : AreUtf8 (index_of p.index) → (e : ProfileError) → IsUnwritten (index_of index) e → (f : Failure) → f ≡ failure_of_profile e → IsRefreshFailed text old f new
    failed_text utf8 e unwritten f is =
        let kept = applied_utf8 refreshed_by.0 (index_of p.index) utf8 in
        inr (status, is ∙ ap failure_of_profile (unwritten_memory (applied refreshed_by.0 (index_of p.index)) kept e (subst (λ es. IsUnwritten es e) refreshed_by.2 unwritten)))

    -- it is made
    pub text_made : (d : Data) → json_of text ≡ Some d → (line : List ℕ) → IsLineOf (refreshed d (index_of index) (timestamp_of index)) line → IsRefreshed text timestamp old new [] line
    text_made d parsed line is =
        let same = ap (λ es. refreshed d es (timestamp_of index)) refreshed_by.2 ∙ ap (refreshed d (applied refreshed_by.0 (index_of p.index))) refreshed_by.3 in
        (status, d, parsed, line, subst (λ v. IsLineOf v line) same is, refl)

module _ (text : List ℕ) (timestamp : Moment) (old new : Option (List ℕ)) (before added : List ℕ) (h : IsRefreshed text timestamp old new [] added) where
  -- the refreshed text was appended
  pub text_appended : (after : List ℕ) → after ≡ before ++ added → IsRefreshed text timestamp old new before after
  text_appended after grew = (h.0, h.1, h.2, h.3, h.4, grew ∙ ap (λ text. before ++ text) h.5)

  -- there was no memory for it
  pub text_lost : IsRefreshFailed text old Memory new
  text_lost = inr (h.0, refl)
