-- What the code's steps and arrays mean.
use Rattle.base.specs.{Words.true, Words.false, Words.cond, Words.List, Words.[], Words.ℕ, Words.eqb, Words.length, Words.get_or, Words.fours, Words.suc, Answer.Answer, Answer.done}
use Rattle.std.specs.Prelude.{Option, Some, None, unwrap_or, set, ◌≡◌, ◌↔◌, ◌⊎◌, ◌∷◌, ◌-◌, ◌≤◌, ◌<◌}
use Rattle.term.specs.{Term.symmetric, Term.asymmetric, Term.left, Term.right, Term.encryption, Term.part, Term.decrypt, Term.compound, Number.shape_of, Number.rules, Computed.kind_of, Code.rule_of, Code.builder_of}
use Rattle.submission.specs.Record.{terms, kind_at, x_at, y_at, second_for, term, InKnowledge}
use Rattle.derivation.specs.declared.Step.{Step}
use Rattle.witness.specs.declared.marked.Choice.{Choice}
use Rattle.deduction.specs.declared.worklist.Origin.{Origin}
use Rattle.deduction.specs.declared.worklist.Origin.TheVariants.{Start, Record}
use Rattle.deduction.specs.declared.opening.Opening.{Opening}
use Rattle.deduction.specs.declared.opening.Opening.TheVariants.{Freely, With}
use Rattle.deduction.specs.{Computed.entry_marks, Computed.is_deducible, Code.opening_of}
use Rattle.deduction.specs.Saturation.{start_mark, ComesFrom, Queue}
use Rattle.deduction.specs.Code.{Marks, mark_of, Reached}

-- ---- the step that concludes a term
-- the step that builds term n of its parts; the y of a record with one operand is 0, and so is q
abbrev pub built_step : List ℕ → ℕ → Step
built_step s n = record { rule = unwrap_or (builder_of (shape_of (kind_at s n))) rules; p = x_at s n; q = y_at s n; conclusion = n }

-- the rule that takes term n from a pair whose first part is x
abbrev pub part_rule : ℕ → ℕ → ℕ
part_rule x n = cond (eqb x n) (rule_of (part left)) (rule_of (part right))

abbrev pub part_step : ℕ → ℕ → ℕ → Step
part_step u x n = record { rule = part_rule x n; p = u; q = 0; conclusion = n }

-- the rule that opens an encryption of this kind
abbrev pub opening_rule : ℕ → ℕ
opening_rule kind = cond (eqb kind (kind_of (compound (encryption symmetric)))) (rule_of (decrypt symmetric)) (rule_of (decrypt asymmetric))

abbrev pub with_step : List ℕ → ℕ → ℕ → ℕ → Step
with_step s u key n = record { rule = opening_rule (kind_at s u); p = u; q = key; conclusion = n }

-- the step that takes term n from record u, by what opens that
abbrev pub opened_step : List ℕ → ℕ → ℕ → Option Opening → Step
opened_step s u n (Some (Freely x y)) = part_step u x n
opened_step s u n (Some (With body key)) = with_step s u key n
opened_step s u n None = with_step s u 0 n

-- the step by which term n comes from record u
unfoldable pub step_from : List ℕ → ℕ → ℕ → Step
step_from s u n = cond (eqb u n) (built_step s n) (opened_step s u n (opening_of s u))

-- the step that concludes term n, where its mark is this: a term that is from the start has none
abbrev pub step_by : List ℕ → ℕ → Option Origin → Option Step
step_by s n None = None
step_by s n (Some Start) = None
step_by s n (Some (Record u)) = Some (step_from s u n)

-- the record that a term with this mark comes from
abbrev pub origin_record : Option Origin → ℕ
origin_record None = 0
origin_record (Some Start) = 0
origin_record (Some (Record u)) = u

-- the step that concludes term n, which comes from a record
abbrev pub concluding_step : List ℕ → Marks → ℕ → Step
concluding_step s marks n = step_from s (origin_record (mark_of marks n)) n

-- its second premise
abbrev pub concluding_second : List ℕ → Marks → ℕ → ℕ
concluding_second s marks n = second_for (concluding_step s marks n).rule (concluding_step s marks n).p (concluding_step s marks n).q

-- x is one of its premises
abbrev pub ConcludingPremise : List ℕ → Marks → ℕ → ℕ → Type 0
ConcludingPremise s marks n x = (x ≡ (concluding_step s marks n).p) ⊎ (x ≡ concluding_second s marks n)

-- term n comes from record u by a step
pub record StepFrom (s : List ℕ) (u n : ℕ) : Type 0 where
  pub from : u < terms s
  pub below : n < terms s
  pub comes : ComesFrom s (λ x. x < terms s) u n

-- a step concludes term n: its mark is that of a record, that it comes from
pub record HasStep (s : List ℕ) (marks : Marks) (n : ℕ) : Type 0 where
  pub marked : mark_of marks n ≡ Some (Record (origin_record (mark_of marks n)))
  pub step : StepFrom s (origin_record (mark_of marks n)) n

-- or it is from the start
pub record StartedOrHasStep (s : List ℕ) (marks : Marks) (n : ℕ) : Type 0 where
  pub is : (mark_of marks n ≡ start_mark) ⊎ HasStep s marks n

-- ---- the steps that are needed
-- term n put before the chosen ones, and the premises of its step needed
abbrev pub with_term : List ℕ → Marks → ℕ → Choice → Choice
with_term s marks n c =
    record {
      needed = set (set c.needed (concluding_step s marks n).p true) (concluding_second s marks n) true;
      chosen = set c.chosen (c.from - 1) n;
      from = c.from - 1;
    }

-- term n is chosen, if it is needed and not from the start
abbrev pub ChosenOne : List ℕ → Marks → ℕ → Choice → Choice → Type 0
ChosenOne s marks n c c' =
    (((get_or c.needed n false ≡ false) ⊎ (mark_of marks n ≡ start_mark)) × (c' ≡ c))
    ⊎ ((get_or c.needed n false ≡ true) × (mark_of marks n ≡ start_mark → ⊥) × (c' ≡ with_term s marks n c))

-- each of these terms is concluded by a step
pub record HaveSteps (s : List ℕ) (marks : Marks) (chosen : List ℕ) : Type 0 where
  pub concluded : (i : ℕ) → i < length chosen → HasStep s marks (get_or chosen i 0)

-- each of the terms from `from` on is
pub record ChosenSteps (s : List ℕ) (marks : Marks) (chosen : List ℕ) (from : ℕ) : Type 0 where
  pub long : length chosen ≡ 256
  pub within : from ≤ 256
  pub concluded : (i : ℕ) → from ≤ i → i < 256 → HasStep s marks (get_or chosen i 0)

-- these steps lead to term t
pub record Chosen (s : List ℕ) (marks : Marks) (t : ℕ) (chosen : List ℕ) (from : ℕ) : Type 0 where
  pub steps : ChosenSteps s marks chosen from
  -- there are no more of them than terms
  pub few : 256 - from ≤ terms s
  -- each concludes a term, that is not from the start and comes from the record that its mark says
  pub below : (i : ℕ) → from ≤ i → i < 256 → get_or chosen i 0 < terms s
  pub new : (i : ℕ) → from ≤ i → i < 256 → mark_of marks (get_or chosen i 0) ≡ start_mark → ⊥
  pub comes : (i : ℕ) → from ≤ i → i < 256 → ComesFrom s (λ x. x < terms s) (origin_record (mark_of marks (get_or chosen i 0))) (get_or chosen i 0)
  -- no term stands twice
  pub apart : (i j : ℕ) → from ≤ i → i < j → j < 256 → get_or chosen i 0 ≡ get_or chosen j 0 → ⊥
  -- premises are from the start, or stand before
  pub founded : (i : ℕ) → from ≤ i → i < 256 → (x : ℕ) → ConcludingPremise s marks (get_or chosen i 0) x →
      (mark_of marks x ≡ start_mark) ⊎ ((j : ℕ) × (from ≤ j) × (j < i) × (get_or chosen j 0 ≡ x))
  -- each but the last is a premise of a later one
  pub used : (i : ℕ) → from ≤ i → i < 255 → (j : ℕ) × (i < j) × (j < 256) × ConcludingPremise s marks (get_or chosen j 0) (get_or chosen i 0)
  -- t is the last, or from the start
  pub last : ((from ≡ 256) × (mark_of marks t ≡ start_mark)) ⊎ ((from < 256) × (get_or chosen 255 0 ≡ t))

-- the terms that are marked are those that are deducible, and those from the start are those of the knowledge
pub record FromKnowledge (s : List ℕ) (marks : Marks) (order : List ℕ) (end : ℕ) : Type 0 where
  pub queue : Queue s marks order end
  pub exact : (n : ℕ) → n < terms s → Reached marks n ↔ (is_deducible s (entry_marks s) n ≡ true)
  pub known : (n : ℕ) → n < terms s → (mark_of marks n ≡ start_mark) ↔ InKnowledge s (term s n)

-- ---- the answer, and the page
-- where term t is shown by this many steps, or not at all
abbrev pub answer_shown : Option ℕ → Answer
answer_shown None = done 0
answer_shown (Some count) = done (suc count)

abbrev pub step_bytes : Step → List ℕ
step_bytes a = a.rule ∷ a.p ∷ a.q ∷ a.conclusion ∷ []

-- the records of the steps of the first n of these terms
abbrev pub first_steps : List ℕ → Marks → List ℕ → ℕ → List ℕ
first_steps s marks chosen n = fours (λ i. step_bytes (concluding_step s marks (get_or chosen i 0))) n

abbrev pub steps_bytes : List ℕ → Marks → List ℕ → List ℕ
steps_bytes s marks chosen = first_steps s marks chosen (length chosen)
