-- Each body starts where the former ends.
use Rattle.form.proofs.Theory.WritableBodies.{starts_listed}
use Rattle.form.proofs.writable.WritableBodies.starts.Goals as goal

pub returns : goal.returns
returns c = starts_listed c.args.self.writable
