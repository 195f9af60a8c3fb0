-- `write_instructions` meets its contract: the bytes of the instructions before this one are written.
use Rattle.base.proofs.PutLaws.{wrote_none}
use Rattle.std.proofs.Common.{rules}
use Rattle.program.specs.Program.{instruction_bytes}
use Rattle.program.proofs.Theory.Writing.{wrote_more, wrote_all}
use Rattle.program.proofs.write_instructions.Goals as goal

pub loop-x-init : goal.loop-x-init
unfolding instruction_bytes
loop-x-init c = wrote_none

pub loop-x-preserved : goal.loop-x-preserved
loop-x-preserved c = wrote_more _ _ _ c.loop-x.invariant c.loop-x-test.true c.put_array.ensures

pub returns : goal.returns
returns c = wrote_all _ c.loop-x.invariant c.loop-x-test.false c.new-writer.ensures.now c.new-writer.ensures.at (search rules)
