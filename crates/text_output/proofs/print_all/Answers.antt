use Rattle.std.proofs.KnownBytes.{Appends-kept}
use Rattle.text_output.proofs.Begun.{all_begun}
use Rattle.text_output.proofs.print_all.Goals as goal

pub returns-in-Err : goal.returns-in-Err
returns-in-Err g c = all_begun _ _ _ (Appends-kept _ _ _ _ c.in_ok-write_all.ensures c.in-Err.ensures.bytes)
