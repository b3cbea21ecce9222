use Rattle.std.proofs.Common.{arith, append-nil, length-drop, take, take-add}
use Rattle.std.proofs.KnownBytes.{Appends-kept, Appends-trans}
use Rattle.text_output.proofs.Begun.{first_begun, rest_taken}
use Rattle.text_output.proofs.write_all.Goals as goal
use Rattle.text_output.proofs.write_all.Goals.{in-Ok, in-Err}

pub returns-in-Ok-eq0 : goal.returns-in-Ok-eq0
returns-in-Ok-eq0 g c =
    let inv = c.writes.invariant in
    let none = rw (c.in-Ok-eq0.is, c.in-Ok-eq0.field-0-test) at c.write.ensures.bytes in
    first_begun c.writes.written c.args.text.now _ _ (rw (append-nil (take c.writes.written c.args.text.now)) at (Appends-trans _ _ _ _ _ inv.1 none))

pub returns-in-Err-2 : goal.returns-in-Err-2
returns-in-Err-2 g c =
    first_begun c.writes.written c.args.text.now _ _ (Appends-kept _ _ _ _ c.writes.invariant.1 c.in-Err-2.ensures.bytes)

pub writes-preserved : goal.writes-preserved
writes-preserved g c =
    let inv = c.writes.invariant in
    let all = c.args.text.now in
    let written = c.writes.written in
    elim c.match-write.branch [
      | in-Ok w ↦
          let more = rw (rest_taken all written) at w.in-Ok.ensures.bytes in
          let bound = rw (rest_taken all written) at w.in-Ok.ensures.bound in
          rw (w.written-is, take-add written w.in-Ok.count all) (omega (arith, inv.0, bound, length-drop written all), Appends-trans _ _ _ _ _ inv.1 more)
      | in-Err w ↦ rw w.written-is (inv.0, Appends-kept _ _ _ _ inv.1 w.in-Err.ensures.bytes)
    ]

pub returns : goal.returns
returns g c = first_begun c.writes.written c.args.text.now _ _ c.writes.invariant.1
