-- What is promised of a pool where the checker reads it holds: its steps and its claim say what the first submission's say, and only condition 3
-- may come out otherwise.
use mathlib.Core.Path.{◌≡◌, refl, sym, ap, ◌∙◌, subst}
use mathlib.Core.Logic.Iff
use mathlib.Core.Logic.{◌↔◌, ◌⊎◌, inl, inr, ⊎_elim}
use mathlib.Core.List.{List, [], ◌∷◌, ◌++◌}
use mathlib.Core.Option.{Option, none, some}
use Prim.Native.Nat.{ℕ, ◌+◌, ◌*◌, ◌≤◌, ◌<◌}
use native.Mathlib.Omega.{arith}
use Rattle.base.specs.{Words.byte, Words.Bytes, Answer.done, Answer.refused, Answer.Refuses, Answer.row11}
use Rattle.base.proofs.{Says.true_or_false, RefusalLaws.first_of, RefusalLaws.after_refuses}
use Rattle.term.specs.{Term.Term, Term.is_key, Term.inverse, Number.head_of, Step.Deducible}
use Rattle.submission.specs.Record.{start, terms, steps, rule_at, p_at, q_at, second_at, conclusion_at, guess, verifying, way_at, companion, term, InKnowledge}
use Rattle.submission.specs.{Body.Bodies, Body.body_at, Check.Way, Check.another_step, Check.at_start, Check.inverse_key, Check.guess_derived, Check.inverse_derived, Check.way_of, Check.Target, Check.the_guess, Check.its_inverse, Check.Claims, Check.verifier, Check.derived, Check.claims_in, Check.claims, Check.row, Check.InRange}
use Rattle.submission.proofs.Theory.{ListedTerms.Claimed, ListedTerms.verifying_below, ReadingRows.claimed_clear, ReadingRows.first_four, ListedTerms.claim_facts}
use Rattle.form.proofs.Theory.SameBodies.{same_byte, same_field}
use Rattle.derivation.specs.Step.{rule, first_premise, second_premise, concluded, Premise, StepFits, guess_counts, Known}
use Rattle.derivation.proofs.Theory.{LargerTables.fits_over, StepMeaning.second_listed}
use Rattle.pool.specs.{Pool.pool, Pool.joined, Pool.pool_number, Promise.IsPool}
use Rattle.pool.proofs.Theory.{JoinAnswer.Joinable, JoinAnswer.join_done, PoolBodies.count_is, PoolPassed.claim_byte, PoolPassed.guess_same, PoolPassed.is_pool, PoolBytes.pool_bytes}
use Rattle.deduction.specs.Computed.{deducible_answer}
use Rattle.deduction.proofs.Theory.{DeducibleAnswer.asked_iff, DeducibleAnswer.yes_exact, Exactness.deducible_trans}
use Rattle.program.specs.Program.{program_length}
use Rattle.conditions.proofs.Theory.{Acceptance.begun_iff, Acceptance.accepted_iff, ConditionsMeant.reachable_iff, ConditionsMeant.says_reachable, Refusal.check_exact}
use Rattle.conditions.specs.Computed.{reachable, check_answer}
use Rattle.checker.specs.Pooled.{PooledPromise}
use Rattle.checker.proofs.Theory.ShownLaws.{refused_8}
use Rattle.conditions.specs.Condition.{WellFormed, EachFounded, SecondWay, Undone, Verified, Given, target, ClaimMet, FiveConditions, claim_rows, rows1to7}

-- ---- the pool p of a and b, where a is well formed
module _ {a b : List ℕ} (h : Joinable a b) (whole : WellFormed a) where
  abbrev p : List ℕ
  p = joined a b

  as_pooled : IsPool a b p
  as_pooled = is_pool h

  claim : Claimed a
  claim = claim_facts h.first

  -- ---- its steps and its claim are the first's
  same_steps : steps p ≡ steps a
  same_steps = count_is h 2 (omega arith)

  same_derivation : body_at p 2 ≡ body_at a 2
  unfolding pool
  same_derivation = ap (λ (d : Bodies). d.derivation) as_pooled.reads.bodies

  module _ (i : ℕ) (l : i < steps a) where
    same_rule : rule_at p i ≡ rule_at a i
    same_rule = same_byte p a 2 same_steps same_derivation (4 * i) (omega (arith, same_steps))

    later_field : (j : ℕ) → j < 4 → byte p (start p 2 + 4 * i + j) ≡ byte a (start a 2 + 4 * i + j)
    later_field j m = same_field p a 2 same_steps same_derivation (4 * i) j (omega (arith, same_steps))

    same_p : p_at p i ≡ p_at a i
    same_p = later_field 1 (omega arith)

    same_q : q_at p i ≡ q_at a i
    same_q = later_field 2 (omega arith)

    same_conclusion : conclusion_at p i ≡ conclusion_at a i
    same_conclusion = later_field 3 (omega arith)

  same_verifying : verifying p ≡ verifying a
  same_verifying = claim_byte h 1 (omega arith)

  same_way : way_of (way_at p) ≡ way_of (way_at a)
  same_way = ap way_of (claim_byte h 2 (omega arith))

  same_companion : companion p ≡ companion a
  same_companion = claim_byte h 3 (omega arith)

  same_claims : claims p ≡ claims a
  same_claims = ap claims_in same_way

  -- ---- their terms
  first_term : (n : ℕ) → n < terms a → term p n ≡ term a n
  first_term n l = (as_pooled.first_number n l).1

  more_known : (t : Term) → InKnowledge a t → InKnowledge p t
  more_known t k = (as_pooled.knowledge_of_both t).1 (inl k)

  guess_term : term p (guess p) ≡ term a (guess a)
  guess_term = ap (term p) (guess_same h) ∙ first_term (guess a) claim.guess_below

  module _ (i : ℕ) (l : i < steps a) where
    right : StepFits a i
    right = whole.shaped i l

    rule_is : rule p i ≡ rule a i
    rule_is = ap head_of (same_rule i l)

    concluded_is : concluded p i ≡ concluded a i
    concluded_is = ap (term p) (same_conclusion i l) ∙ first_term _ right.conclusion_below

    first_is : first_premise p i ≡ first_premise a i
    first_is = ap (term p) (same_p i l) ∙ first_term _ right.p_below

    second_is : second_premise p i ≡ second_premise a i
    second_is =
        let e : second_at p i ≡ second_at a i = rw (same_rule i l, same_p i l, same_q i l) in
        ap (term p) e ∙ first_term _ (second_listed right)

    premise_iff : (x : Term) → Premise p i x ↔ Premise a i x
    premise_iff x = (⊎_elim (λ e. inl (e ∙ first_is)) (λ e. inr (e ∙ second_is)), ⊎_elim (λ e. inl (e ∙ sym first_is)) (λ e. inr (e ∙ sym second_is)))

    step_fits : StepFits p i
    step_fits = rw (same_rule i l, same_p i l, same_q i l, same_conclusion i l) (fits_over as_pooled.first_number _ _ _ _ right)

  pool_well_formed : WellFormed p
  pool_well_formed = record { read = as_pooled.passes; shaped = λ i l. step_fits i (omega (arith, same_steps)) }

  known_over : (i : ℕ) → i ≤ steps a → (x : Term) → Known a i x → Known p i x
  known_over i l x (inl k) = inl (more_known x k)
  known_over i l x (inr (inl (g, e))) = inr (inl (ap guess_counts same_claims ∙ g, e ∙ sym guess_term))
  known_over i l x (inr (inr (j, m, e))) = inr (inr (j, m, e ∙ sym (concluded_is j (omega arith))))

  founded_over : EachFounded a → EachFounded p
  founded_over f i l =
      let m : i < steps a = omega (arith, same_steps) in
      let (u, v) = f i m in
      (rw (first_is i m) (known_over i (omega arith) _ u), rw (second_is i m) (known_over i (omega arith) _ v))

  -- ---- what is claimed
  given_over : (x : Term) → Given a x → Given p x
  given_over x (inl (l, e)) = inl (rw (same_verifying, same_steps) l, e ∙ sym (concluded_is _ l) ∙ ap (concluded p) (sym same_verifying))
  given_over x (inr (e, k)) = inr (same_verifying ∙ e, more_known x k)

  target_over : (t : Target) → target p t ≡ target a t
  target_over the_guess = guess_term
  target_over its_inverse = ap inverse guess_term

  -- the companion is in the range of its way
  companion_range : (w : Way) → way_of (way_at a) ≡ some w → InRange a (row w).companion (companion a)
  companion_range w e =
      let g : some claim.way ≡ some w = sym claim.has_way ∙ e in
      let f : claim.way ≡ w = cc in
      subst (λ z. InRange a (row z).companion (companion a)) f claim.in_range_lem

  module _ (k : claims a ≡ verifier) where
    last : verifying a < steps a
    last = verifying_below claim k

    verified_is : concluded p (verifying p) ≡ concluded a (verifying a)
    verified_is = ap (concluded p) same_verifying ∙ concluded_is (verifying a) last

    premises_iff : (x : Term) → Premise p (verifying p) x ↔ Premise a (verifying a) x
    premises_iff x = let (f, g) = premise_iff (verifying a) last x in rw same_verifying (f, g)

    -- condition 4
    second_way_over : (o : Option Way) → way_of (way_at a) ≡ o → SecondWay a o → SecondWay p o
    second_way_over none e w = w
    second_way_over (some another_step) e (l, c, d) = (
      rw (same_companion, same_steps) l,
      ap (concluded p) same_companion ∙ concluded_is (companion a) l ∙ c ∙ sym verified_is,
      ⊎_elim
          (λ f. inl (λ g. f (sym (rule_is (verifying a) last) ∙ ap (rule p) (sym same_verifying) ∙ g ∙ ap (rule p) same_companion ∙ rule_is (companion a) l)))
          (λ f. inr (λ h. f (λ x. Iff.trans (Iff.symm (premises_iff x)) (Iff.trans (h x) (rw same_companion (premise_iff (companion a) l x)))))) d,
    )
    second_way_over (some at_start) e (c, h) =
        (same_companion ∙ c, ⊎_elim (λ u. inl (subst (InKnowledge p) (sym verified_is) (more_known _ u))) (λ u. inr (verified_is ∙ u ∙ sym guess_term)) h)
    second_way_over (some inverse_key) e (h, f, u) =
        let c : term p (companion p) ≡ term a (companion a) = ap (term p) same_companion ∙ first_term _ (companion_range inverse_key e) in
        (subst is_key (sym verified_is) h, c ∙ f ∙ sym (ap inverse verified_is), rw (c, same_steps) (known_over (steps a) (omega arith) _ u))
    second_way_over (some guess_derived) e w = w
    second_way_over (some inverse_derived) e w = w

    -- condition 5
    undone_before : (i : ℕ) → i < steps a → Undone p i → Undone a i
    undone_before i l (j, h, u) =
        let m : j < steps a = ⊎_elim (λ e. omega (arith, same_verifying, last)) (λ (e, f). let c = companion_range another_step (sym same_way ∙ e) in omega (arith, same_companion)) h in (
          j,
          ⊎_elim (λ e. inl (e ∙ same_verifying)) (λ (e, f). inr (sym same_way ∙ e, f ∙ same_companion)) h,
          rw (rule_is j m, first_is j m, concluded_is j m, rule_is i l, first_is i l, concluded_is i l) at u,
        )

  -- ---- the verdict of the pool, with a page that is long enough for the first's program, n steps
  module _ (five : FiveConditions a) (room n : ℕ) (count : n ≡ steps a) (enough : program_length n ≤ room) where
    accepted_by : ClaimMet p (claims p) → check_answer p room ≡ done n
    accepted_by m =
        (accepted_iff p (pool_bytes h) room n).1 (count ∙ sym same_steps, pool_well_formed, record { founded = founded_over five.founded; met = m }, omega (arith, same_steps))

    derived_stays : (t : Target) → claims a ≡ derived t → check_answer p room ≡ done n
    derived_stays t k =
        accepted_by (subst (ClaimMet p) (sym (same_claims ∙ k)) (rw (target_over t) (given_over (target a t) (subst (ClaimMet a) k five.met))))

    module _ (k : claims a ≡ verifier) where
      verified : Verified a
      verified = subst (ClaimMet a) k five.met

      -- condition 3 holds,
      hidden_done : (x : Term) × Premise p (verifying p) x × (Deducible (InKnowledge p) x → ⊥) → check_answer p room ≡ done n
      hidden_done h =
          accepted_by (subst (ClaimMet p) (sym (same_claims ∙ k)) (record {
            present = rw (same_verifying, same_steps) (last k);
            hidden = h;
            second_way = rw same_way (second_way_over k (way_of (way_at a)) refl verified.second_way);
            kept = λ i l u. let m : i < steps a = omega (arith, same_steps) in verified.kept i m (undone_before k i m u);
          }))

      -- or it is broken
      reached_refused : ((x : Term) → Premise a (verifying a) x → Deducible (InKnowledge p) x) → check_answer p room ≡ refused 8 (verifying a)
      reached_refused r =
          let later : Claims → List (ℕ → ℕ → Type 0) = λ c. claim_rows p c ++ row11 (program_length (steps p)) room ∷ [] in
          let row : Refuses (later verifier) 8 (verifying a) =
          inl (first_of (refl, (sym same_verifying, λ x m. r x ((premises_iff k x).0 m))) (λ m q (f, (g, w)) l. omega (arith, same_verifying)) (λ m (f, w). omega arith)) in
          (check_exact p (pool_bytes h) room (refused 8 (verifying a))).1
          (after_refuses (rows1to7 p) (later (claims p)) 8 (verifying a) ((begun_iff p (pool_bytes h)).1 (pool_well_formed, founded_over five.founded))
          (subst (λ c. Refuses (later c) 8 (verifying a)) (sym (same_claims ∙ k)) row))

    done_or_reachable : (c : Claims) → claims a ≡ c → (check_answer p room ≡ done n) ⊎ (check_answer p room ≡ refused 8 (verifying a))
    done_or_reachable verifier k =
        let c = claimed_clear p (pool_bytes h) as_pooled.passes in
        ⊎_elim
        (λ e. inr (reached_refused k (λ x m. (says_reachable c pool_well_formed.shaped (same_claims ∙ k)).0 e x ((premises_iff k x).1 m))))
        (λ e. inl (hidden_done k ((reachable_iff c pool_well_formed.shaped (same_claims ∙ k)).0 e)))
        (true_or_false (reachable p))
    done_or_reachable (derived t) k = inl (derived_stays t k)

    refused_iff : (check_answer p room ≡ refused 8 (verifying a)) ↔ ((claims a ≡ verifier) × ((x : Term) → Premise a (verifying a) x → Deducible (InKnowledge p) x))
    refused_iff = (
      λ e. let (_, v, f) = refused_8 p (pool_bytes h) room (verifying a) e in let k = sym same_claims ∙ v in (k, λ x m. f x ((premises_iff k x).1 m)),
      λ (k, r). reached_refused k r,
    )

-- ---- deducible
-- the call says yes again, under the pool's number, of a submission that is in the pool
yes_again : {a b : List ℕ} → Joinable a b → (s : List ℕ) (t n : ℕ) → Bytes s → ((u : Term) → InKnowledge s u → InKnowledge (joined a b) u) →
    (t < terms s → (n < terms (joined a b)) × (term (joined a b) n ≡ term s t)) → deducible_answer s t ≡ done 1 → deducible_answer (joined a b) n ≡ done 1
yes_again {a} {b} h s t n bytes more number e =
    let p = joined a b in
    let (c, d) = (yes_exact s bytes t).0 e in
    let (l, f) = number ((asked_iff s t).0 c).1 in
    (yes_exact p (pool_bytes h) n).1
    ((asked_iff p n).1 (first_four p (is_pool h).passes, l), subst (Deducible (InKnowledge p)) (sym f) (deducible_trans (λ u k. ([], more u k)) d))

pub pooled_promise : PooledPromise
pooled_promise a b x y room n e =
    let (h, _, _) = join_done a b room x y n e in
    let w = is_pool h in
    let first : (t : Term) → InKnowledge a t → InKnowledge (joined a b) t = λ t k. (w.knowledge_of_both t).1 (inl k) in
    let second : (t : Term) → InKnowledge b t → InKnowledge (joined a b) t = λ t k. (w.knowledge_of_both t).1 (inr k) in
    record {
      deducible = λ t. ⊎_elim (deducible_trans (λ u k. ([], first u k))) (deducible_trans (λ u k. ([], second u k)));
      first_yes = λ t. yes_again h a t t x first (w.first_number t);
      second_yes = λ t. yes_again h b t (pool_number a b t) y second (w.second_number t);
      accepted = λ sheet n e room l. let (m, v, f, _) = (accepted_iff a x sheet n).0 e in done_or_reachable h v f room n m l (claims a) refl;
      reachable = λ sheet n e room l. let (m, v, f, _) = (accepted_iff a x sheet n).0 e in refused_iff h v f room n m l;
      derived_stays = λ t k sheet n e room l. let (m, v, f, _) = (accepted_iff a x sheet n).0 e in derived_stays h v f room n m l t k;
    }
