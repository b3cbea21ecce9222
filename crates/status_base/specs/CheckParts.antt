-- The fields of a link check, as its state.
use Rattle.std.specs.Prelude.{take, drop}
use Rattle.bstr.specs.Owned.{bstring_bytes}
use Rattle.status_base.specs.declared.stack.Parts.{Parts}
use Rattle.status_base.specs.CheckState.{CheckState}

-- The tested path is a front of the path in the buffer.
abbrev pub state_of : Parts → CheckState
state_of p = record { root = bstring_bytes p.root; path = take p.tested (drop p.start p.buffer.items); looks = p.looks }
