-- The rules' heads, one for one, and each column as the code computes it.
use mathlib.Core.Path.{◌≡◌, refl, sym, ap, ◌∙◌}
use mathlib.Core.Logic.{⊎_elim}
use mathlib.Core.Bool.{Bool, true, false, cond, ◌&&◌, ◌||◌, and-false, false≢true}
use mathlib.Core.List.{[], ◌∷◌, map}
use mathlib.Core.Option.{Option, none, some}
use Prim.Native.Nat.{ℕ, ◌<◌, ◌≤◌}
use native.Mathlib.Omega.{arith}
use lib.Dec.{eqb, leb}
use lib.ListN.{length, get_or-eq_default}
use borrow.Author.Tests.{eq-eqb, ne_eqb, lt-ltb, le-ltb, lt-leb, leb-true}
use Rattle.base.proofs.Order.{lt_or_ge}
use Rattle.base.proofs.Says.{Says}
use Rattle.term.specs.{Term.symmetric, Term.asymmetric, Term.left, Term.right, Term.pair, Term.hash, Term.encryption, Term.Head, Term.make, Term.part, Term.decrypt, Computed.head?}
use Rattle.base.specs.Words.{ite, grow}
use Rattle.term.specs.Number.{table, rules, word_of, head_of, has_one}
use Rattle.term.specs.Code.{heads}
use Rattle.term.specs.Code.{rule_of}
use Rattle.term.specs.Computed.{is_head, takes_apart, rule_takes_apart, is_rule}
use Rattle.term.specs.Step.{taken_by}
use Rattle.term.proofs.Reduce.{says_test}
use Rattle.term.proofs.Numbered.{same_below, is, Arms, choice, choice_is}

-- every head is in the table
pub head_rule : (h : Head) → head_of (rule_of h) ≡ h
unfolding head_of
head_rule (make pair) = refl
head_rule (make hash) = refl
head_rule (make (encryption symmetric)) = refl
head_rule (make (encryption asymmetric)) = refl
head_rule (part left) = refl
head_rule (part right) = refl
head_rule (decrypt symmetric) = refl
head_rule (decrypt asymmetric) = refl

-- and none stands twice
pub rule_head : (n : ℕ) → n < rules → rule_of (head_of n) ≡ n
unfolding head_of grow
rule_head n l = same_below (λ n. rule_of (head_of n)) (λ n. n) rules refl n l

-- equal heads are those of one rule
pub head_inj : (m n : ℕ) → m < rules → n < rules → head_of m ≡ head_of n → m ≡ n
head_inj m n a b e = sym (rule_head m a) ∙ ap rule_of e ∙ rule_head n b

-- the number of a head is a rule's
pub head_past : (n : ℕ) → rules ≤ n → head_of n ≡ decrypt asymmetric
unfolding head_of
head_past n l = get_or-eq_default heads (decrypt asymmetric) l

pub rule_below : (h : Head) → rule_of h < rules
rule_below h =
    ⊎_elim (λ l. l) (λ l. let e : rule_of h ≡ rule_of (decrypt asymmetric) = ap rule_of (sym (head_rule h) ∙ head_past (rule_of h) l) in absurd (omega arith))
    (lt_or_ge (rule_of h) rules)

-- a number that is no rule has no word, and a word is short
pub no_word : (n : ℕ) → rules ≤ n → word_of n ≡ []
unfolding word_of
no_word n l = get_or-eq_default (map (λ r. r.1) table) [] l

pub word_length : (n : ℕ) → length (word_of n) ≤ 4
unfolding word_of grow
word_length n =
    ⊎_elim (λ l. leb-true _ _ (same_below (λ n. leb (length (word_of n)) 4) (λ n. true) rules refl n l))
    (λ l. rw (no_word n l) (omega arith)) (lt_or_ge n rules)

-- ---- the columns as the code has them: tests of a number, and of the range of two neighbours
pub one_operand : (n : ℕ) → has_one n ≡ (eqb n 7 || (leb 1 n && leb n 2))
unfolding has_one head_of grow
one_operand n =
    ⊎_elim (same_below has_one (λ n. eqb n 7 || (leb 1 n && leb n 2)) rules refl n)
    (λ l. rw (head_past n l, ne_eqb n 7 (λ e. omega arith), lt-leb n 2 (omega arith), and-false (leb 1 n))) (lt_or_ge n rules)

-- the rule that builds what the rule t takes apart
abbrev takers : Arms (Option ℕ)
takers = (1, some 0) ∷ (2, some 0) ∷ (4, some 3) ∷ (6, some 5) ∷ []

abbrev taken : ℕ → Option ℕ
taken t = choice takers none t

abbrev rule_of? : Option Head → Option ℕ
rule_of? none = none
rule_of? (some h) = some (rule_of h)

abbrev taken_of : ℕ → Option Head
taken_of t = cond (is_rule t) (taken_by (head_of t)) none

taken_is : (t : ℕ) → taken t ≡ rule_of? (taken_of t)
unfolding head_of grow
taken_is t = choice_is takers none (λ t. rule_of? (taken_of t)) rules refl refl (λ n b. rw (le-ltb n rules b)) t

rule_of_lem : (b : ℕ) (o : Option Head) → is b (rule_of? o) ≡ (is_rule b && is_head (head_of b) o)
rule_of_lem b none = sym (and-false (is_rule b))
rule_of_lem b (some h) =
    ⊎_elim (λ l. rw (lt-ltb b rules l) (below (head? h (head_of b)) l))
    (λ l. rw (le-ltb b rules l, ne_eqb b (rule_of h) (λ e. omega (arith, rule_below h)))) (lt_or_ge b rules)
  where
    below : (d : Dec (h ≡ head_of b)) → b < rules → eqb b (rule_of h) ≡ ite d true false
    below (yes e) l = eq-eqb b (rule_of h) (sym (rule_head b l) ∙ sym (ap rule_of e))
    below (no f) l = ne_eqb b (rule_of h) (λ e. f (sym (head_rule h) ∙ sym (ap head_of e)))

takes_apart_lem : (t b : ℕ) {r : Bool} (o : Option ℕ) → r ≡ is b o → o ≡ taken t → r ≡ rule_takes_apart t b
unfolding rule_takes_apart
takes_apart_lem t b o f e = f ∙ ap (is b) (e ∙ taken_is t) ∙ rule_of_lem b (taken_of t) ∙ guard (is_rule t)
  where
    guard : (g : Bool) → (is_rule b && is_head (head_of b) (cond g (taken_by (head_of t)) none)) ≡ (g && (is_rule b && takes_apart (head_of t) (head_of b)))
    guard true = refl
    guard false = and-false (is_rule b)

-- the rule of the number b is what the rule t takes apart, as the code asks
abbrev takes : ℕ → ℕ → Bool
takes t b = cond (eqb t 4) (eqb b 3) (cond (eqb t 6) (eqb b 5) (cond (leb 1 t && leb t 2) (eqb b 0) false))

pub taken_apart : (t b : ℕ) → rule_takes_apart t b ≡ takes t b
unfolding grow
taken_apart t b =
    sym (takes_apart_lem t b (taken t) refl refl)
    ∙ ⊎_elim (λ l. ap (λ (h : ℕ → Bool). h b) (same_below (λ t b. is b (taken t)) takes rules refl t l))
    (λ l. rw (ne_eqb t 1 (λ e. omega arith), ne_eqb t 2 (λ e. omega arith), ne_eqb t 4 (λ e. omega arith), ne_eqb t 6 (λ e. omega arith), lt-leb t 2 (omega arith), and-false (leb 1 t)))
    (lt_or_ge t rules)

-- ---- the computed test says what the relation says
says_head : (b : Head) (o : Option Head) → Says (is_head b o) (o ≡ some b)
says_head b none = (λ e. absurd (false≢true e), λ e. absurd (let z : ◌≡◌ {A = ℕ} 0 1 = cc in omega arith))
says_head b (some h) = (λ e. ap some ((says_test (head? h b)).0 e), λ e. (says_test (head? h b)).1 (cc))

pub says_takes_apart : (t b : ℕ) → t < rules → b < rules → Says (rule_takes_apart t b) (taken_by (head_of t) ≡ some (head_of b))
unfolding rule_takes_apart
says_takes_apart t b k l = rw (lt-ltb t rules k, lt-ltb b rules l) (says_head (head_of b) (taken_by (head_of t)))
