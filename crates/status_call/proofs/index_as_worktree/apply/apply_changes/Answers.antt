use Rattle.std.proofs.Common.{◌≡◌, refl, sym, ap, subst, ◌∙◌, ◌<◌, ◌∷◌, [], List, length, take, arith, slice_index_or}
use Rattle.std.proofs.lemmas.List.{take_more, take_all}
use Rattle.status_index.specs.Entries.{IndexEntry}
use Rattle.status_index.specs.States.{index_of}
use Rattle.status_call.specs.declared.index_as_worktree.apply.ApplyChange.{ApplyChange}
use Rattle.status_call.specs.declared.index_as_worktree.apply.ApplyChange.TheVariants.{NewStat}
use Rattle.status_call.specs.IndexChanges.{DifferInStats, applied, applied_one, entry_index_of}
use Rattle.status_call.proofs.IndexChanges.{no_entry, applied-append, length-applied, stats_alone}
use Rattle.status_call.proofs.index_as_worktree.apply.apply_changes.Goals as goal

pub loop-change-init : goal.loop-change-init
loop-change-init c = record { index = refl; storage = refl; timestamp = refl }

-- An empty change, instead of an element past the end.
abbrev blank : ApplyChange
blank = NewStat 0 no_entry.stat

pub apply_one-requires : goal.apply_one-requires
apply_one-requires c =
    let changes = c.args.changes.now in
    let at = c.loop-change.change-index in
    let es = index_of c.args.index.now in
    let long : length (index_of c.loop-change.index) ≡ length es = ap length c.loop-change.invariant.index ∙ length-applied (take at changes) es in
    subst (λ n. entry_index_of (slice_index_or changes at blank) < n) (sym long) (c.requires.inside at blank c.loop-change-test.true)

pub loop-change-preserved : goal.loop-change-preserved
loop-change-preserved c =
    let changes = c.args.changes.now in
    let at = c.loop-change.change-index in
    let es = index_of c.args.index.now in
    let item = slice_index_or changes at blank in
    record {
      index = c.apply_one.ensures.index
          ∙ ap (λ (l : List IndexEntry). applied_one item l) c.loop-change.invariant.index
          ∙ sym (applied-append (take at changes) (item ∷ []) es)
          ∙ ap (λ (l : List ApplyChange). applied l es) (sym (take_more changes at blank c.loop-change-test.true));
      storage = c.apply_one.ensures.storage ∙ c.loop-change.invariant.storage;
      timestamp = c.apply_one.ensures.timestamp ∙ c.loop-change.invariant.timestamp;
    }

pub returns : goal.returns
returns c =
    let changes = c.args.changes.now in
    let es = index_of c.args.index.now in
    let index : index_of c.loop-change.index ≡ applied changes es =
    c.loop-change.invariant.index ∙ ap (λ (l : List ApplyChange). applied l es) (take_all c.loop-change.change-index changes (omega (arith, c.loop-change-test.false))) in
    record {
      index = index;
      stats = subst (λ (l : List IndexEntry). DifferInStats l es) (sym index) (stats_alone changes es);
      storage = c.loop-change.invariant.storage;
      timestamp = c.loop-change.invariant.timestamp;
    }
