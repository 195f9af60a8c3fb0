-- `bytes_at` meets its contract: the bytes that are there are copied, and past the end there are 0.
use Rattle.std.proofs.Common.{arith}
use Rattle.base.proofs.ReadLaws.{read_at}
use Rattle.base.proofs.bytes_at.Goals as goal

pub returns : goal.returns
returns g c = read_at _ _ _ _ _ _ _ c.min-from.ensures (omega arith) (omega arith) c.copy_from_slice-2.ensures.after
