-- Entries of which only stats changed still fit a file of their version.
use Rattle.std.proofs.Common.{◌≡◌, ℕ, List, [], ◌∷◌, sym, ap, subst}
use Rattle.std.specs.List.{AllByRecursion}
use Rattle.status_index.specs.declared.entry.Entry.{Entry}
use Rattle.status_index.specs.declared.entry.PathStorage.{PathStorage}
use Rattle.status_index.specs.declared.id.HashKind.{HashKind}
use Rattle.status_index.specs.declared.stat.Stat.{Stat}
use Rattle.status_index.specs.Entries.{IndexEntry, index_entries}
use Rattle.status_index.specs.States.{with_stat}
use Rattle.status_call.specs.IndexChanges.{DifferInStats}
use Rattle.git_index.specs.RawEntry.{FixedFits, RawFits}
use Rattle.git_index.specs.Writing.{raw_after, raw_entries}

-- a stat of which each number has its width
abbrev pub HasWidths : IndexEntry → Type 0
HasWidths e = FixedFits e.stat

-- the stats of entries are those of an index
pub widths_of : (backing : PathStorage) (es : List Entry) → AllByRecursion (λ e. FixedFits e.stat) es → AllByRecursion HasWidths (index_entries backing es)
widths_of backing [] h = tt
widths_of backing (e ∷ es) h = (h.0, widths_of backing es h.1)

-- an entry with another stat
restated : (kind : HashKind) (version : ℕ) (before : List ℕ) (stat : Stat) (e : IndexEntry) → FixedFits stat → RawFits kind version (raw_after version before e) → RawFits kind version (raw_after version before (with_stat stat e))
restated kind version before stat e fits r = record {
  stat = fits;
  id_kind = r.id_kind;
  id_len = r.id_len;
  flags = r.flags;
  stated = r.stated;
  strip = r.strip;
  name = r.name;
}

-- all entries, after an entry with this path
pub fit_again : (kind : HashKind) (version : ℕ) (before : List ℕ) (es others : List IndexEntry) → DifferInStats es others → AllByRecursion HasWidths es
    → AllByRecursion (RawFits kind version) (raw_entries version before others) → AllByRecursion (RawFits kind version) (raw_entries version before es)
fit_again kind version before [] others differ widths fit = tt
fit_again kind version before (e ∷ es) [] differ widths fit = absurd (let same = differ e.stat in cc)
fit_again kind version before (e ∷ es) (o ∷ others) differ widths fit =
    let heads : e ≡ with_stat e.stat o = (let same = differ e.stat in cc) in
    let tails : DifferInStats es others = λ stat. (let same = differ stat in cc) in
    let paths : e.path ≡ o.path = ap (λ x. x.path) heads in (
      subst (λ x. RawFits kind version (raw_after version before x)) (sym heads) (restated kind version before e.stat o widths.0 fit.0),
      fit_again kind version e.path es others tails widths.1 (subst (λ p. AllByRecursion (RawFits kind version) (raw_entries version p others)) (sym paths) fit.1),
    )
