use Rattle.git_index.proofs.Listing.{skipped_more}
use Rattle.git_index.proofs.extensions.check_extensions.Goals as goal

pub extensions-smaller : goal.extensions-smaller
extensions-smaller c =
    (skipped_more c.args.bytes.now c.extensions.cursor.rest.now c.in-Ok._extension.0.now c.in-Ok._extension.1.now c.extension.new.self.rest.now c.extensions.invariant c.in-Ok.ensures).1

pub extensions-preserved : goal.extensions-preserved
extensions-preserved c =
    (skipped_more c.args.bytes.now c.extensions.cursor.rest.now c.in-Ok._extension.0.now c.in-Ok._extension.1.now c.extension.new.self.rest.now c.extensions.invariant c.in-Ok.ensures).0
