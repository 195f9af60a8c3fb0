-- `put_step` meets its contract: the four bytes of a step.
use Rattle.readback.proofs.ReadReturns.{result_fits, result_fits_2, left_number, right_number, result_number, step_put}
use Rattle.readback.proofs.readable.Readable.put_step.Goals as goal

pub overflow_add-result : goal.overflow_add-result
overflow_add-result c = result_fits c.args.self.claimable.numbered c.requires c.entries.ensures

pub overflow_add-result-2 : goal.overflow_add-result-2
overflow_add-result-2 c = result_fits_2 c.args.self.claimable.numbered c.requires c.entries.ensures

pub number-p-requires : goal.number-p-requires
number-p-requires c = left_number c.args.self.claimable.numbered c.requires c.instruction_at-x.ensures

pub second_number-q-requires : goal.second_number-q-requires
second_number-q-requires c = right_number c.args.self.claimable.numbered c.requires c.instruction_at-x.ensures

pub number-conclusion-requires : goal.number-conclusion-requires
number-conclusion-requires c = result_number c.args.self.claimable.numbered c.requires c.entries.ensures

pub returns : goal.returns
returns c =
    step_put c.args.self.claimable.numbered c.requires c.instruction_at-x.ensures c.entries.ensures c.number-p.ensures c.second_number-q.ensures c.number-conclusion.ensures c.put_array.ensures
