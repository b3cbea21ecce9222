use Rattle.std.proofs.Common.{◌≡◌, ℕ, ◌<◌, ◌≤◌, ◌+◌, ◌-◌, List, length, take, drop, Some, None, sym, ◌∙◌, ap, subst, rules, arith}
use Rattle.bstr.specs.BStr.{bstr_bytes}
use Rattle.bstr.specs.Owned.{bstring_bytes}
use Rattle.status_index.specs.Content.{saturate}
use Rattle.status_base.specs.Paths.{abnormal_component}
use Rattle.status_base.specs.CheckParts.{state_of}
use Rattle.status_base.specs.CheckState.{IsClear}
use Rattle.status_base.specs.CheckAnswers.{IsNormal}
use Rattle.status_base.proofs.OpenWays.{open_behind, open_common, open_none, open_whole, seen_abnormal, seen_barred, seen_clear}
use Rattle.status_base.proofs.CommonFronts.{clear_behind, clear_common, clear_front, clear_none, normal_behind, normal_front, new_counted, abnormal_first, whole_behind}
use Rattle.status_base.proofs.LinkLemmas.{length-directories, length-directories-more, link_check_barred, link_check_clear, link_check_abnormal, named_stop, on_barred, on_reached, on_the_way-few}
use Rattle.status_base.proofs.stack.Parts.verify.Goals as goal

pub returns-in-Some-clause-named : goal.returns-in-Some-clause-named
returns-in-Some-clause-named g c =
    let old = c.args.self.now in
    let path = c.args.path.now in
    let first = c.component_start-first.result in
    let abnormal : abnormal_component path ≡ abnormal_component (take (length path - first) (drop first path)) = abnormal_first path old.buffer.items old.start old.tested c.common_with-common.result first c.common_with-common.ensures old.normal c.component_start-first.ensures.within c.component_start-first.ensures.slash in
    let found : abnormal_component (take (length path - first) (drop first path)) ≡ Some (bstr_bytes c.new-component.result) = search rules in
    abnormal ∙ found

pub returns-in-Some-clause-answer : goal.returns-in-Some-clause-answer
returns-in-Some-clause-answer g c =
    let full : 0 < length c.args.path.now = search rules in
    λ modelled clear. link_check_abnormal (g.W.Worktree.lstat_of c.args.worktree.now) c.args.path.now (bstr_bytes c.new-component.result) full (returns-in-Some-clause-named g c)

pub returns-in-Some-clause-seen : goal.returns-in-Some-clause-seen
returns-in-Some-clause-seen g c =
    let full : 0 < length c.args.path.now = search rules in
    λ opened. seen_abnormal (g.W.Worktree.may_stat c.args.worktree.now) (state_of c.args.self.now).path c.args.path.now c.new-component.result full (returns-in-Some-clause-named g c) opened

pub returns-in_err-write-clause-after : goal.returns-in_err-write-clause-after
returns-in_err-write-clause-after g c =
    let old = c.args.self.now in
    let path = c.args.path.now in
    let new = c.write.new.self in
    let first = c.component_start-first.result in
    let full : 0 < length path = search rules in
    let none : abnormal_component (take (length path - first) (drop first path)) ≡ None = search rules in
    let normal : abnormal_component path ≡ None = abnormal_first path old.buffer.items old.start old.tested c.common_with-common.result first c.common_with-common.ensures old.normal c.component_start-first.ensures.within c.component_start-first.ensures.slash ∙ none in
    record {
      root = ap bstring_bytes c.write.ensures.kept.0;
      clear = λ modelled clear. clear_none (g.W.Worktree.lstat_of c.args.worktree.now) new.buffer.items new.start new.tested c.write.ensures.forgotten;
      «open» = λ opened. open_none (g.W.Worktree.may_stat c.args.worktree.now) (state_of old).path new.buffer.items new.start new.tested c.write.ensures.forgotten opened;
      looks = omega (arith, c.write.ensures.kept.1);
      few = omega (arith, c.write.ensures.kept.1);
      barred = search rules;
      unchanged = λ abnormal. absurd (abnormal (record { nonempty = full; normal = normal }));
    }

pub invariant_of-self : goal.invariant_of-self
invariant_of-self g c =
    let old = c.args.self.now in
    let path = c.args.path.now in
    let new = c.write.new.self in
    let first = c.component_start-first.result in
    let none : abnormal_component (take (length path - first) (drop first path)) ≡ None = search rules in
    let normal : abnormal_component path ≡ None = abnormal_first path old.buffer.items old.start old.tested c.common_with-common.result first c.common_with-common.ensures old.normal c.component_start-first.ensures.within c.component_start-first.ensures.slash ∙ none in
    record {
      within = omega (arith, c.in_ok-write.ensures.length);
      below = λ _. c.in_ok-write.ensures.below;
      normal = λ _. ap abnormal_component (whole_behind path new.buffer.items new.start c.in_ok-write.ensures.path) ∙ normal;
    }

pub invariant_of-self-in-Some-first_barrier : goal.invariant_of-self-in-Some-first_barrier
invariant_of-self-in-Some-first_barrier g c =
    let old = c.args.self.now in
    let path = c.args.path.now in
    let at = c.in-Some-first_barrier.stop.at in
    let is_stop = c.in-Some-first_barrier.ensures.stop in
    let first = c.component_start-first.result in
    let none : abnormal_component (take (length path - first) (drop first path)) ≡ None = search rules in
    let normal : abnormal_component path ≡ None = abnormal_first path old.buffer.items old.start old.tested c.common_with-common.result first c.common_with-common.ensures old.normal c.component_start-first.ensures.within c.component_start-first.ensures.slash ∙ none in
    record {
      within = omega (arith, c.in_ok-write.ensures.length, is_stop.within);
      below = λ _. c.in_ok-write.ensures.below;
      normal = λ _. normal_behind path c.write.new.self.buffer.items c.write.new.self.start at c.in_ok-write.ensures.path (normal_front path at is_stop.within is_stop.slash normal);
    }

pub returns-in-None-clause-answer : goal.returns-in-None-clause-answer
returns-in-None-clause-answer g c =
    let old = c.args.self.now in
    let path = c.args.path.now in
    let lstat = g.W.Worktree.lstat_of c.args.worktree.now in
    let first = c.component_start-first.result in
    let full : 0 < length path = search rules in
    let none : abnormal_component (take (length path - first) (drop first path)) ≡ None = search rules in
    let normal : abnormal_component path ≡ None = abnormal_first path old.buffer.items old.start old.tested c.common_with-common.result first c.common_with-common.ensures old.normal c.component_start-first.ensures.within c.component_start-first.ensures.slash ∙ none in
    λ modelled clear. link_check_clear lstat path full normal (c.in-None.ensures.way modelled (clear_common lstat (take old.tested (drop old.start old.buffer.items)) path c.common_with-common.result c.common_with-common.ensures clear))

pub returns-in-None-clause-seen : goal.returns-in-None-clause-seen
returns-in-None-clause-seen g c =
    let old = c.args.self.now in
    let path = c.args.path.now in
    let may = g.W.Worktree.may_stat c.args.worktree.now in
    let first = c.component_start-first.result in
    let full : 0 < length path = search rules in
    let none : abnormal_component (take (length path - first) (drop first path)) ≡ None = search rules in
    let normal : abnormal_component path ≡ None = abnormal_first path old.buffer.items old.start old.tested c.common_with-common.result first c.common_with-common.ensures old.normal c.component_start-first.ensures.within c.component_start-first.ensures.slash ∙ none in
    λ opened. seen_clear may path tt full normal (c.in-None.ensures.seen (open_common may (state_of old).path path c.common_with-common.result c.common_with-common.ensures opened))

pub returns-in-None-clause-after : goal.returns-in-None-clause-after
returns-in-None-clause-after g c =
    let old = c.args.self.now in
    let path = c.args.path.now in
    let new = c.write.new.self in
    let lstat = g.W.Worktree.lstat_of c.args.worktree.now in
    let kept : List ℕ = take old.tested (drop old.start old.buffer.items) in
    let common = c.common_with-common.result in
    let first = c.component_start-first.result in
    let full : 0 < length path = search rules in
    let none : abnormal_component (take (length path - first) (drop first path)) ≡ None = search rules in
    let normal : abnormal_component path ≡ None = abnormal_first path old.buffer.items old.start old.tested common first c.common_with-common.ensures old.normal c.component_start-first.ensures.within c.component_start-first.ensures.slash ∙ none in
    let P : List ℕ → Type 0 = λ p. IsClear lstat p in
    record {
      root = ap bstring_bytes c.write.ensures.kept.0;
      clear = λ modelled clear. subst P (sym (whole_behind path new.buffer.items new.start c.in_ok-write.ensures.path)) (c.in-None.ensures.way modelled (clear_common lstat kept path common c.common_with-common.ensures clear));
      «open» = λ opened. open_whole (g.W.Worktree.may_stat c.args.worktree.now) path new.buffer.items new.start c.in_ok-write.ensures.path (c.in-None.ensures.seen (open_common (g.W.Worktree.may_stat c.args.worktree.now) kept path common c.common_with-common.ensures opened));
      looks = omega (arith, c.write.ensures.kept.1, c.in-None.ensures.looks);
      few = omega (arith, c.write.ensures.kept.1, c.in-None.ensures.few, new_counted kept path common (length path) c.common_with-common.ensures (omega arith));
      barred = tt;
      unchanged = λ abnormal. absurd (abnormal (record { nonempty = full; normal = normal }));
    }

pub returns-in-Some-first_barrier-clause-answer : goal.returns-in-Some-first_barrier-clause-answer
returns-in-Some-first_barrier-clause-answer g c =
    let old = c.args.self.now in
    let path = c.args.path.now in
    let lstat = g.W.Worktree.lstat_of c.args.worktree.now in
    let first = c.component_start-first.result in
    let full : 0 < length path = search rules in
    let none : abnormal_component (take (length path - first) (drop first path)) ≡ None = search rules in
    let normal : abnormal_component path ≡ None = abnormal_first path old.buffer.items old.start old.tested c.common_with-common.result first c.common_with-common.ensures old.normal c.component_start-first.ensures.within c.component_start-first.ensures.slash ∙ none in
    λ modelled clear. link_check_barred lstat path c.in-Some-first_barrier.stop full normal c.in-Some-first_barrier.ensures.stop (c.in-Some-first_barrier.ensures.way modelled (clear_common lstat (take old.tested (drop old.start old.buffer.items)) path c.common_with-common.result c.common_with-common.ensures clear))

pub returns-in-Some-first_barrier-clause-seen : goal.returns-in-Some-first_barrier-clause-seen
returns-in-Some-first_barrier-clause-seen g c =
    let old = c.args.self.now in
    let path = c.args.path.now in
    let may = g.W.Worktree.may_stat c.args.worktree.now in
    let first = c.component_start-first.result in
    let full : 0 < length path = search rules in
    let none : abnormal_component (take (length path - first) (drop first path)) ≡ None = search rules in
    let normal : abnormal_component path ≡ None = abnormal_first path old.buffer.items old.start old.tested c.common_with-common.result first c.common_with-common.ensures old.normal c.component_start-first.ensures.within c.component_start-first.ensures.slash ∙ none in
    λ opened. seen_barred may path c.in-Some-first_barrier.stop full normal c.in-Some-first_barrier.ensures.stop (c.in-Some-first_barrier.ensures.seen (open_common may (state_of old).path path c.common_with-common.result c.common_with-common.ensures opened))

pub returns-in-Some-first_barrier-clause-named : goal.returns-in-Some-first_barrier-clause-named
returns-in-Some-first_barrier-clause-named g c =
    named_stop c.args.path.now c.in-Some-first_barrier.stop c.in-Some-first_barrier.ensures.stop

pub returns-in-Some-first_barrier-clause-normal : goal.returns-in-Some-first_barrier-clause-normal
returns-in-Some-first_barrier-clause-normal g c =
    let old = c.args.self.now in
    let path = c.args.path.now in
    let first = c.component_start-first.result in
    let full : 0 < length path = search rules in
    let none : abnormal_component (take (length path - first) (drop first path)) ≡ None = search rules in
    let normal : abnormal_component path ≡ None = abnormal_first path old.buffer.items old.start old.tested c.common_with-common.result first c.common_with-common.ensures old.normal c.component_start-first.ensures.within c.component_start-first.ensures.slash ∙ none in
    on_reached (Unit {0}) c.in-Some-first_barrier.stop.error (IsNormal path) (record { nonempty = full; normal = normal })

pub returns-in-Some-first_barrier-clause-after : goal.returns-in-Some-first_barrier-clause-after
returns-in-Some-first_barrier-clause-after g c =
    let old = c.args.self.now in
    let path = c.args.path.now in
    let new = c.write.new.self in
    let lstat = g.W.Worktree.lstat_of c.args.worktree.now in
    let kept : List ℕ = take old.tested (drop old.start old.buffer.items) in
    let common = c.common_with-common.result in
    let stop = c.in-Some-first_barrier.stop in
    let is_stop = c.in-Some-first_barrier.ensures.stop in
    let first = c.component_start-first.result in
    let full : 0 < length path = search rules in
    let none : abnormal_component (take (length path - first) (drop first path)) ≡ None = search rules in
    let normal : abnormal_component path ≡ None = abnormal_first path old.buffer.items old.start old.tested common first c.common_with-common.ensures old.normal c.component_start-first.ensures.within c.component_start-first.ensures.slash ∙ none in
    record {
      root = ap bstring_bytes c.write.ensures.kept.0;
      clear = λ modelled clear. clear_behind lstat path new.buffer.items new.start stop.at c.in_ok-write.ensures.path (clear_front lstat path stop.at (c.in-Some-first_barrier.ensures.way modelled (clear_common lstat kept path common c.common_with-common.ensures clear)).open_below);
      «open» = λ opened. open_behind (g.W.Worktree.may_stat c.args.worktree.now) path new.buffer.items new.start stop c.in_ok-write.ensures.path (c.in-Some-first_barrier.ensures.seen (open_common (g.W.Worktree.may_stat c.args.worktree.now) kept path common c.common_with-common.ensures opened));
      looks = omega (arith, c.write.ensures.kept.1, c.in-Some-first_barrier.ensures.looks);
      few = omega (arith, c.write.ensures.kept.1, c.in-Some-first_barrier.ensures.few, on_the_way-few path stop is_stop, new_counted kept path common (length path) c.common_with-common.ensures (omega arith));
      barred = on_barred stop.error (saturate (old.looks + 1) ≤ c.first_barrier.new.looks) (omega (arith, c.write.ensures.kept.1, c.in-Some-first_barrier.ensures.counted, length-directories-more path stop.at is_stop.slash, length-directories path common stop.at c.in-Some-first_barrier.ensures.behind));
      unchanged = λ abnormal. absurd (abnormal (record { nonempty = full; normal = normal }));
    }
