-- What is promised of stale names holds.
use mathlib.Core.Path.{refl}
use Rattle.machine.specs.Run.{signal}
use Rattle.machine.proofs.Theory.StaleNames.{stale_exact, taken_fresh, fresh_taken, answers_kept}
use Rattle.conditions.proofs.Theory.Promise.{demand_3_taken}
use Rattle.checker.specs.Stale.{StalePromise}

pub stale_promise : StalePromise
stale_promise = record {
  refuses = stale_exact;
  own = λ s P b c. fresh_taken s P b _ c (λ (d, _). d refl);
  taken = λ s P b c name d. (
    λ (v, e). record { other = d; fresh = taken_fresh s P b name v d e },
    λ w. (signal s name P, fresh_taken s P b name c (λ (_, t). w.fresh t)),
  );
  others = answers_kept;
  signals = demand_3_taken;
}
