-- A step that is right over a submission's terms is right over another's that has these terms under the same numbers.
use mathlib.Core.Path.{◌≡◌}
use mathlib.Core.List.{List}
use Prim.Native.Nat.{ℕ, ◌<◌}
use Rattle.submission.specs.Record.{terms, second_for, term}
use Rattle.derivation.specs.Step.{RecordFits}
use Rattle.derivation.proofs.Theory.StepMeaning.{second_listed}

pub fits_over : {s r : List ℕ} → ((n : ℕ) → n < terms s → (n < terms r) × (term r n ≡ term s n)) → (k p q c : ℕ) → RecordFits s k p q c → RecordFits r k p q c
fits_over over k p q c w =
    let (l, first) = over p w.p_below in
    let (m, _) = over q w.q_below in
    let (n, result) = over c w.conclusion_below in
    let (_, second) = over (second_for k p q) (second_listed w) in
    record { rule_below = w.rule_below; p_below = l; q_below = m; conclusion_below = n; unused = w.unused; step = rw (first, second, result) w.step }
