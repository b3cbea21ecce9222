-- A refresh prints a profile's status, and then writes the profile again, with the changes that the status asks for in its index and with
-- this timestamp.
use Rattle.std.specs.Prelude.{◌≡◌, ◌⊎◌, ℕ, List, ◌++◌, Option, Some, Result, Ok, Err}
use Rattle.serde_json.specs.Data.{Data}
use Rattle.serde_json.specs.Read.{read}
use Rattle.status_index.specs.Entries.{IndexEntry}
use Rattle.status_index.specs.States.{index_of, timestamp_of}
use Rattle.status_index.specs.declared.stat.Moment.{Moment}
use Rattle.status_index.specs.declared.state.State.{State}
use Rattle.status_call.specs.IndexChanges.{applied}
use Rattle.status_call.specs.declared.index_as_worktree.apply.ApplyChange.{ApplyChange}
use Rattle.status_profile.specs.Profiles.{IsRead}
use Rattle.status_profile.specs.Refreshed.{IsLineOf, refreshed}
use Rattle.status_profile.specs.declared.options.Kind.TheVariants.{Plain}
use Rattle.status_profile.specs.declared.profile.Profile.{Profile}
use Rattle.status_cli.specs.declared.failure.Failure.{Failure}
use Rattle.status_cli.specs.declared.failure.Failure.TheVariants.{Memory}
use Rattle.status_cli.specs.declared.status.inputs.WantedChanges.TheVariants.{Returned}
use Rattle.status_cli.specs.ProfileStatuses.{IsProfilePrinted, IsTextPrinted}

-- a profile's status was printed, and this is its index, with the changes that the status asks for and with this timestamp; or the status
-- failed, and a part was printed
abbrev pub IsIndexRefreshed : Profile → Moment → Option (List ℕ) → Result State Failure → Option (List ℕ) → Type 0
IsIndexRefreshed p timestamp old (Ok index) new =
    (changes : List ApplyChange) × IsProfilePrinted p Returned old (Ok changes) new × (index_of index ≡ applied changes (index_of p.index)) × (timestamp_of index ≡ timestamp)
IsIndexRefreshed p timestamp old (Err f) new = IsProfilePrinted p Returned old (Err f) new

-- a text says this profile, all of whose status was printed, which asks for these changes
pub record PrintedStatus (text : List ℕ) (old new : Option (List ℕ)) : Type 0 where
  pub profile : Profile
  pub read : IsRead Plain text (Ok profile)
  pub changes : List ApplyChange
  pub printed : IsProfilePrinted profile Returned old (Ok changes) new

-- the entries of the profile's index after these changes
abbrev pub refreshed_entries : {text : List ℕ} {old new : Option (List ℕ)} → PrintedStatus text old new → List IndexEntry
refreshed_entries s = applied s.changes (index_of s.profile.index)

-- the status was printed, and a list of bytes grew by a line: the text of the text's JSON value with these entries and this timestamp
abbrev pub IsRefreshed : List ℕ → Moment → Option (List ℕ) → Option (List ℕ) → List ℕ → List ℕ → Type 0
IsRefreshed text timestamp old new before after =
    (s : PrintedStatus text old new) × (d : Data) × (read text ≡ Some d) × (line : List ℕ)
    × IsLineOf (refreshed d (refreshed_entries s) timestamp) line × (after ≡ before ++ line)

-- the refresh of a text fails as its status does; or all of its status was printed, and memory ran out
abbrev pub IsRefreshFailed : List ℕ → Option (List ℕ) → Failure → Option (List ℕ) → Type 0
IsRefreshFailed text old f new = IsTextPrinted Plain text Returned old (Err f) new ⊎ (PrintedStatus text old new × (f ≡ Memory))
