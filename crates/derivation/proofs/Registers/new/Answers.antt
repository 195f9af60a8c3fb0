-- `Registers::new`: no term has a register.
use mathlib.Core.Path.{refl}
use lib.ListN.{length-replicate, get_or-replicate}
use Rattle.std.specs.Prelude.{ℕ, Option as Maybe, None}
use Rattle.derivation.proofs.Registers.new.Goals as goal

pub returns : goal.returns
returns c = record { used = refl; long = length-replicate {A = Maybe ℕ} 256 None; first = λ t l. get_or-replicate 256 t None None l }
