-- `Acceptable::given_register`: the entry's register, where no step is named.
use Rattle.conditions.proofs.ProgramValue.{entry_named}
use Rattle.conditions.proofs.page.Acceptable.given_register.Goals as goal

pub returns-in-None : goal.returns-in-None
returns-in-None c =
    entry_named c.args.self.acceptable c.args.self.founded.derivation.claimed c.args.target c.requires _ c.named_step.ensures c.in-None.is (rw c.claimed.ensures.bytes at c.entry_given.ensures)
    c.unwrap.ensures
