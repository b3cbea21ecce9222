use Rattle.std.proofs.Common.{◌≡◌, ◌≢◌, Err, Some, refl, rules}
use Rattle.bstr.specs.BStr.{bstr_bytes}
use Rattle.bstr.specs.Owned.{bstring_bytes}
use Rattle.status_index.specs.declared.fault.Fault.TheVariants.{NotFound}
use Rattle.status_base.specs.declared.stack.error.StackError.TheVariants.{Fault}
use Rattle.status_base.specs.CheckParts.{state_of}
use Rattle.status_base.specs.Paths.{joined}
use Rattle.status_base.specs.LinkCheck.{link_check}
use Rattle.status_base.specs.CheckAnswers.{IsCheckError, IsNamed, IsNormal, accepting_absent}
use Rattle.status_base.proofs.LinkLemmas.{absent_accepted, accepted_present, after_absent, after_same, error_same, reached_at_absent, still_accepted, still_refused}
use Rattle.status_base.proofs.stack.SymlinkCheck.verified_path_allow_nonexisting.Goals as goal

pub returns-in-Ok : goal.returns-in-Ok
returns-in-Ok g c =
    let path = c.as_bytes.result.now in
    let check = link_check (g.W.Worktree.lstat_of c.args.worktree.now) path in
    let buffer = c.in-Ok.ensures.joined in
    let written : bstr_bytes c.new.result ≡ joined (bstring_bytes c.self.inside.parts.root) path = cc in
    rw (← c.self.view_is, ← c.as_bytes.ensures) (
      (refl, λ _. tt, record { absent = λ modelled clear absent. absurd (accepted_present check (c.in-Ok.ensures.answer modelled clear) absent); after = c.in-Ok.ensures.after }),
      record {
        answer = λ modelled clear. (still_accepted check (c.in-Ok.ensures.answer modelled clear), written);
        named = tt;
        normal = c.in-Ok.ensures.normal;
        joined = written;
        present = tt;
        rests = tt;
      },
    )

pub returns-in-Err-Fault-NotFound : goal.returns-in-Err-Fault-NotFound
returns-in-Err-Fault-NotFound g c =
    let path = c.as_bytes.result.now in
    let lstat = g.W.Worktree.lstat_of c.args.worktree.now in
    let check = link_check lstat path in
    let absent : c.verify.result ≡ Err (Fault NotFound) = cc in
    let buffer = reached_at_absent c.verify.result (c.verify.new.self.buffer.items ≡ joined (bstring_bytes c.self.inside.parts.root) path) absent c.verify.ensures.joined in
    let written : bstr_bytes c.new-in-Err-Fault-NotFound.result ≡ joined (bstring_bytes c.self.inside.parts.root) path = cc in
    let after = after_absent (g.W.Worktree.may_stat c.args.worktree.now) (g.W.Worktree.modelled c.args.worktree.now) lstat path c.verify.result (state_of c.self.inside.parts) (state_of c.verify.new.self) absent c.verify.ensures.after in
    rw (← c.self.view_is, ← c.as_bytes.ensures) (
      (refl, λ _. tt, record { absent = λ _ _ _. after.0; after = after.1 }),
      record {
        answer = λ modelled clear. (absent_accepted check c.verify.result absent (c.verify.ensures.answer modelled clear), written);
        named = tt;
        normal = reached_at_absent c.verify.result (IsNormal path) absent c.verify.ensures.normal;
        joined = written;
        present = tt;
        rests = tt;
      },
    )

pub returns-in-Err : goal.returns-in-Err
returns-in-Err g c =
    let path = c.as_bytes.result.now in
    let may = g.W.Worktree.may_stat c.args.worktree.now in
    let lstat = g.W.Worktree.lstat_of c.args.worktree.now in
    let check = link_check lstat path in
    let error = c.in-Err.error in
    let present : error ≢ Fault NotFound = search rules in
    rw (← c.self.view_is, ← c.as_bytes.ensures) (
      (refl, λ _. tt, record { absent = tt; after = after_same may (g.W.Worktree.modelled c.args.worktree.now) lstat path (Some error) _ (state_of c.self.inside.parts) (state_of c.verify.new.self) _ (search rules) (search rules) c.in-Err.ensures.after }),
      record {
        answer = λ modelled clear. error_same (IsCheckError (accepting_absent check)) error _ (search rules) (still_refused check error present (c.in-Err.ensures.answer modelled clear));
        named = error_same (IsNamed path) error _ (search rules) c.in-Err.ensures.named;
        normal = tt;
        joined = tt;
        present = error_same (λ e. e ≢ Fault NotFound) error _ (search rules) present;
        rests = tt;
      },
    )
