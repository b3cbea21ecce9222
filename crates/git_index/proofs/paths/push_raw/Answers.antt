use Rattle.std.proofs.Common.{◌≡◌, ℕ, ◌-◌, ◌≤◌, List, ◌++◌, length, take, sym, subst, ap, ◌∙◌, arith}
use Rattle.std.proofs.lemmas.Result.{on_ok_weaker, IfErr-weaker}
use Rattle.status_index.specs.States.{index_of}
use Rattle.git_index.specs.EntryViews.{raw_entry}
use Rattle.git_index.specs.Paths.{path_after, last_path}
use Rattle.git_index.proofs.Views.{path_of_named, path_of_prefixed, view_push, strips_too_much, next_refused}
use Rattle.git_index.proofs.paths.push_raw.Goals as goal

pub returns-then-version-ne-PREFIXED-clause-ok : goal.returns-then-version-ne-PREFIXED-clause-ok
returns-then-version-ne-PREFIXED-clause-ok c = λ rs v.
    let r = raw_entry c.args.entry.now in
    let ne = c.if-version-ne-PREFIXED.true in
    on_ok_weaker c.push_named.result
    (λ h. view_push c.args.version rs r (index_of c.args.state.now) (index_of c.push_named.new.state) c.args.last.now.items c.args.last.now.items c.args.entry.now.name.now v
    (sym (path_of_named c.args.version (last_path c.args.version _ rs) r ne)) (λ four. absurd (ne four)) h.1 h.0 (λ four. absurd (ne four)))
    c.push_named.ensures.ok

pub returns-then-version-ne-PREFIXED-clause-refused : goal.returns-then-version-ne-PREFIXED-clause-refused
returns-then-version-ne-PREFIXED-clause-refused c = λ rs v many.
    let r = raw_entry c.args.entry.now in
    let ne = c.if-version-ne-PREFIXED.true in
    IfErr-weaker c.push_named.result _ _
    (λ e h. next_refused c.args.version rs r (index_of c.args.state.now) c.args.last.now.items c.args.entry.now.name.now c.args.at e v c.args.state.now.valid many
    (sym (path_of_named c.args.version (last_path c.args.version _ rs) r ne)) (λ four. absurd (ne four)) h)
    c.push_named.ensures.refused

pub returns-then-entry-len-clause-refused : goal.returns-then-entry-len-clause-refused
returns-then-entry-len-clause-refused c = λ rs v many.
    strips_too_much c.args.version rs (raw_entry c.args.entry.now) (index_of c.args.state.now) c.args.last.now.items c.args.at v c.args.state.now.valid many c.if-version-ne-PREFIXED.false
    (omega (arith, c.if-entry-len.true, c.len.ensures, c.args.last.now.ok.0))

pub returns-clause-ok : goal.returns-clause-ok
returns-clause-ok c = λ rs v.
    let r = raw_entry c.args.entry.now in
    let four = c.if-version-ne-PREFIXED.false in
    let last = c.args.last.now.items in
    let len : c.len-2.result ≡ length last = omega (arith, c.len-2.ensures, c.args.last.now.ok.0) in
    let made : c.extend_from_slice.new.self.items ≡ take (length last - r.strip) last ++ r.name =
    c.in_ok-extend_from_slice.ensures.items ∙ ap (λ (t : List ℕ). t ++ r.name) (rw len at c.truncate.ensures.items) in
    let before = last_path c.args.version _ rs in
    let own : c.as_slice.result.now ≡ path_after c.args.version before r = path_of_prefixed c.args.version before last c.as_slice.result.now r four (v.last four) (c.as_slice.ensures.value ∙ made) in
    let strip : r.strip ≤ length before = subst (λ (p : List ℕ). r.strip ≤ length p) (v.last four) (omega (arith, c.if-entry-len.false, c.len.ensures, c.args.last.now.ok.0)) in
    on_ok_weaker c.push_named-2.result
    (λ h. view_push c.args.version rs r (index_of c.args.state.now) (index_of c.push_named-2.new.state) last c.extend_from_slice.new.self.items c.as_slice.result.now v own (λ _. strip) h.1 h.0 (λ _. sym c.as_slice.ensures.value))
    c.push_named-2.ensures.ok

pub returns-clause-refused : goal.returns-clause-refused
returns-clause-refused c = λ rs v many.
    let r = raw_entry c.args.entry.now in
    let four = c.if-version-ne-PREFIXED.false in
    let last = c.args.last.now.items in
    let len : c.len-2.result ≡ length last = omega (arith, c.len-2.ensures, c.args.last.now.ok.0) in
    let made : c.extend_from_slice.new.self.items ≡ take (length last - r.strip) last ++ r.name =
    c.in_ok-extend_from_slice.ensures.items ∙ ap (λ (t : List ℕ). t ++ r.name) (rw len at c.truncate.ensures.items) in
    let before = last_path c.args.version _ rs in
    let own : c.as_slice.result.now ≡ path_after c.args.version before r = path_of_prefixed c.args.version before last c.as_slice.result.now r four (v.last four) (c.as_slice.ensures.value ∙ made) in
    let strip : r.strip ≤ length before = subst (λ (p : List ℕ). r.strip ≤ length p) (v.last four) (omega (arith, c.if-entry-len.false, c.len.ensures, c.args.last.now.ok.0)) in
    IfErr-weaker c.push_named-2.result _ _
    (λ e h. next_refused c.args.version rs r (index_of c.args.state.now) last c.as_slice.result.now c.args.at e v c.args.state.now.valid many own (λ _. strip) h)
    c.push_named-2.ensures.refused
