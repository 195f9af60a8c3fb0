-- The last body ends where the submission does.
use Rattle.std.proofs.Common.{arith, rules, ◌∙◌}
use Rattle.std.proofs.lemmas.Result.{OkIff-at_ok}
use Rattle.form.proofs.Theory.WritableBodies.{last_start, length_few}
use Rattle.form.proofs.writable.WritableBodies.length.Goals as goal

pub overflow_add-starts : goal.overflow_add-starts
overflow_add-starts c = let e = last_start c.args.self.writable c.starts.ensures in let l = length_few c.args.self.writable in omega arith

pub unwrap-requires : goal.unwrap-requires
unwrap-requires c = let e = last_start c.args.self.writable c.starts.ensures in let l = length_few c.args.self.writable in search rules

pub returns : goal.returns
returns c = let e = last_start c.args.self.writable c.starts.ensures in (OkIff-at_ok _ _ _ _ c.try_from.ensures c.unwrap.ensures).1 ∙ e
