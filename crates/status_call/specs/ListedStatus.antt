-- When listings change nothing of a status.
use Rattle.std.specs.Prelude.{◌≡◌, ℕ, false, true, List, None, IfSome, Result, Ok, Err}
use Rattle.status_index.specs.Entries.{IndexEntry}
use Rattle.status_index.specs.declared.fault.Fault.{Fault}
use Rattle.status_index.specs.declared.stat.Metadata.{Metadata}
use Rattle.status_base.specs.LinkCheck.{accepted, link_check}
use Rattle.status_base.specs.ListedNodes.{Listing, known_node, listed, listed_node}
use Rattle.status_call.specs.Query.{Query}
use Rattle.status_call.specs.Records.{records_of, first_fault}

-- A listed node has the kind, length and times of the node that `lstat` finds, which has no device, inode or owners.
pub record IsSameNode (known live : Metadata) : Type 0 where
  pub kind : known.kind ≡ live.kind
  pub len : known.len ≡ live.len
  pub mtime : known.mtime ≡ live.mtime
  pub ctime : known.ctime ≡ live.ctime
  pub dev : live.dev ≡ 0
  pub ino : live.ino ≡ 0
  pub uid : live.uid ≡ 0
  pub gid : live.gid ≡ 0

-- `lstat` finds such a node.
abbrev pub FindsSame : Metadata → Result Metadata Fault → Type 0
FindsSame known (Ok live) = IsSameNode known live
FindsSame known (Err f) = ⊥

-- `lstat` finds such a node at each path that the listings know, if the link check accepts the path. Only there are they used.
abbrev pub AreLive : (List ℕ → Listing) → (List ℕ → Result Metadata Fault) → Type 0
AreLive listing lstat = (path : List ℕ) → link_check lstat path ≡ accepted
    → IfSome (listed listing path) (λ stat. FindsSame (listed_node stat) (lstat path))

module _ {T U : Type 0} where
  -- The same query with listings, and without.
  abbrev pub with_listings : Query T U → (List ℕ → Listing) → Query T U
  with_listings q listing = record q { cached = λ e. known_node true listing e.path }

  abbrev pub without_listings : Query T U → Query T U
  without_listings q = record q { cached = λ _. None }

  pub record IsSameStatus (q other : Query T U) : Type 0 where
    pub records : (start : ℕ) (es : List IndexEntry)
        → records_of q start es ≡ records_of other start es
    pub fault : (es : List IndexEntry) → first_fault q es ≡ first_fault other es

  -- Listings change no record or fault if they are as `lstat` has it and executability doesn't count.
  abbrev pub ListingsLaw : Query T U → Type 0
  ListingsLaw q = (listing : List ℕ → Listing) → ((e : IndexEntry) → AreLive listing (q.lstat e)) → q.executable_bit ≡ false
      → IsSameStatus (with_listings q listing) (without_listings q)
