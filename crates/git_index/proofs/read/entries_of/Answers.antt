use Rattle.std.proofs.Common.{◌∙◌}
use Rattle.status_index.specs.States.{index_of}
use Rattle.git_index.specs.EntryViews.{raw_entry}
use Rattle.git_index.proofs.EntriesRead.{more_so_far}
use Rattle.git_index.proofs.read.entries_of.Goals as goal

pub entries-preserved : goal.entries-preserved
entries-preserved c =
    let push = c.push_unless_refused-refused in
    record {
      so_far = more_so_far c.args.kind c.args.version c.entries.at c.args.bytes.now (index_of c.entries.state) (index_of push.new.state) c.entries.last.items push.new.last.items c.entries.refused push.result c.entries.cursor.rest.now (raw_entry c.in-Ok.entry) c.entry.new.self.rest.now
          c.entries.invariant.so_far c.in-Ok.ensures push.ensures.index;
      timestamp = push.ensures.timestamp ∙ c.entries.invariant.timestamp;
    }
