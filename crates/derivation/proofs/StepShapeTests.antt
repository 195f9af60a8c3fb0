-- Check 6 of a step, read off its record one test at a time.
use mathlib.Core.Path.{◌≡◌, sym, ap, ◌∙◌}
use mathlib.Core.Bool.{Bool, ◌&&◌}
use mathlib.Core.List.{List}
use Prim.Native.Nat.{ℕ, ◌<◌}
use lib.Dec.{eqb}
use Rattle.std.specs.Prelude.{Some}
use Rattle.std.specs.Option.{option_eq}
use Rattle.base.proofs.Says.{says_eqb, same_test}
use Rattle.term.specs.Term.{symmetric, asymmetric, left, right, Form, encryption, Head, make, part, decrypt, compound}
use Rattle.term.specs.{Number.shape_of, Computed.kind_of}
use Rattle.term.specs.Code.{builder_of, rule_of}
use Rattle.term.specs.Number.{rules, head_of}
use Rattle.term.proofs.KindLaws.{says_builder}
use Rattle.term.proofs.Rule.{head_rule, rule_head}
use Rattle.submission.specs.Code.{IsTerm}
use Rattle.submission.specs.declared.Term.{Term}
use Rattle.derivation.specs.Computed.{is_record, follows}

-- ---- the table of steps, read off the records of the first premise and the conclusion
module _ {s : List ℕ} {n : ℕ} {t : Term} (h : IsTerm s n t) where
  built_is : (f : Form) (x y : ℕ) → (option_eq eqb (builder_of (shape_of t.kind)) (Some (rule_of (make f))) && (eqb t.x x && eqb t.y y)) ≡ is_record s n (kind_of (compound f)) x y
  built_is f x y =
      ap (λ b. b && (eqb t.x x && eqb t.y y)) (same_test _ _ (says_builder t.kind f) (says_eqb _ _)) ∙ rw (h.kind, h.x, h.y)

  -- dec
  pub dec_built : {r : Bool} {k : ℕ} (x y : ℕ) → k ≡ rule_of (decrypt symmetric) → r ≡ (option_eq eqb (builder_of (shape_of t.kind)) (Some (rule_of (make (encryption symmetric)))) && (eqb t.x x && eqb t.y y)) → r ≡ follows s (head_of k) n y x
  dec_built x y e f = f ∙ built_is (encryption symmetric) x y ∙ ap (λ h. follows s h n y x) (sym (ap head_of e ∙ head_rule (decrypt symmetric)))

  -- a rule that takes nothing apart builds
  pub rule_built : {r : Bool} (k x y : ℕ) → k < rules → (k ≡ rule_of (part left) → ⊥) → (k ≡ rule_of (part right) → ⊥) → (k ≡ rule_of (decrypt symmetric) → ⊥) → (k ≡ rule_of (decrypt asymmetric) → ⊥) →
      r ≡ (option_eq eqb (builder_of (shape_of t.kind)) (Some k) && (eqb t.x x && eqb t.y y)) → r ≡ follows s (head_of k) x y n
  rule_built {r} k x y l a b c d f = go (head_of k) (sym (rule_head k l))
    where
      go : (h : Head) → k ≡ rule_of h → r ≡ follows s h x y n
      go (make g) e = f ∙ ap (λ k. option_eq eqb (builder_of (shape_of t.kind)) (Some k) && (eqb t.x x && eqb t.y y)) e ∙ built_is g x y
      go (part left) e = absurd (a e)
      go (part right) e = absurd (b e)
      go (decrypt symmetric) e = absurd (c e)
      go (decrypt asymmetric) e = absurd (d e)
