use Rattle.std.proofs.Common.{◌≡◌, refl}
use Rattle.bstr.specs.BStr.{bstr_bytes}
use Rattle.bstr.specs.Owned.{bstring_bytes}
use Rattle.status_base.specs.Paths.{joined}
use Rattle.status_base.proofs.stack.SymlinkCheck.verified_path.Goals as goal

pub returns-in-Ok : goal.returns-in-Ok
returns-in-Ok g c =
    let buffer = c.in-Ok.ensures.joined in
    let written : bstr_bytes c.new.result ≡ joined (bstring_bytes c.self.inside.parts.root) c.as_bytes.result.now = cc in
    rw (← c.self.view_is, ← c.as_bytes.ensures) (
      (refl, λ _. tt, record { path = c.in-Ok.ensures.tested; after = c.in-Ok.ensures.after }),
      record {
        answer = λ modelled clear. (c.in-Ok.ensures.answer modelled clear, written);
        seen = λ opened. (let seen = c.in-Ok.ensures.seen opened in record { lstat = seen.lstat; allowed = seen.allowed; checked = seen.checked });
        named = tt;
        normal = c.in-Ok.ensures.normal;
        joined = written;
        rests = tt;
      },
    )

pub returns-in-Err : goal.returns-in-Err
returns-in-Err g c =
    rw (← c.self.view_is, ← c.as_bytes.ensures) (
      (refl, λ _. tt, record { path = tt; after = c.in-Err.ensures.after }),
      record {
        answer = λ modelled clear. c.in-Err.ensures.answer modelled clear;
        seen = λ opened. (let seen = c.in-Err.ensures.seen opened in record { lstat = seen.lstat; allowed = seen.allowed; checked = seen.checked });
        named = c.in-Err.ensures.named;
        normal = tt;
        joined = tt;
        rests = tt;
      },
    )
