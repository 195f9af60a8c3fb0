-- What holds of a submission that passes checks 1 to 4, and of its claim after check 5.
-- Its records are a table: its term numbers stand for its terms, one for one.
use mathlib.Core.Path.{◌≡◌, refl, sym, ap, ap₂, ◌∙◌, subst}
use mathlib.Core.Logic.{◌↔◌, ◌⊎◌, inl, ⊎_elim}
use mathlib.Core.Bool.{Bool, true, false, cond, false≢true, not}
use mathlib.Core.List.{List}
use mathlib.Core.Option.{Option, none, some}
use Prim.Native.Nat.{ℕ, zero, suc, ◌+◌, ◌*◌, ◌<◌, ◌≤◌}
use native.Mathlib.Omega.{arith}
use lib.Dec.{eqb}
use borrow.Author.Tests.{ltb-false}
use Rattle.base.proofs.Order.{lt_or_ge}
use Rattle.base.proofs.Says.{Says, says_true, says_eqb, says_ltb, says_and, says_or, not_not_false, or-false, none_fails}
use Rattle.term.specs.Term.{Kind, plain, public, private, other_kind, asymmetric, Form, Second, absent, anything, key_for, second, unary, make, Term, atom, node, is_key, inverse, Match, Shape, atomic, compound, shape, is_key_for, Operands, branch, message}
use Rattle.term.specs.Code.{Message, Below, Table}
use Rattle.term.specs.{Number.shape_of, Computed.kind_of, Computed.inverse_kinds}
use Rattle.term.proofs.KindLaws.{kind_shape, shape_kind}
use Rattle.base.specs.Words.{Bytes, first}
use Rattle.term.proofs.Table.{decode_inj, decoded_reads}
use Rattle.term.specs.Computed.{is_atomic}
use Rattle.base.specs.Computed.{passes, fails_if, fails_at}
use Rattle.submission.specs.{Record.count, Record.least, Record.most, Record.terms, Record.entries, Record.steps, Record.kind_at, Record.x_at, Record.y_at, Record.name_at, Record.entry_at, Record.guess, Record.verifying, Record.way_at, Record.companion, Record.record_of, Record.record_at, Record.term, Computed.are_inverse}
use Rattle.submission.specs.Check.{HasSecond, Shaped, GuessFits, FitsWay, ClaimFits, Way, another_step, at_start, inverse_key, guess_derived, inverse_derived, way_of, Target, the_guess, its_inverse, Claims, verifier, derived, claims_in, claims, Range, step_number, term_number, zero_only, step_or_knowledge, knowledge_step, row, InRange}
use Rattle.submission.specs.Code.{TableRead, SubmissionRead}
use Rattle.submission.specs.Computed.{bad_count, bad_contents, in_range, guess_fits, claim_fits, bad_term, bad_knowledge, good_claim, checks1to4, checks1to5}
use Rattle.base.proofs.AnswerLaws.{if_passes, at_passes, then_passes}
use Rattle.submission.proofs.Theory.GoodRecord.{second_part, second_below, Good, good, name_bytes, same_record_lem}

-- the kinds of keys, and those of a key and its inverse
abbrev Key : Kind → Type 0
Key κ = is_key (atom κ 0)

key_named : (κ : Kind) → Key κ → (n : ℕ) → is_key (atom κ n)
key_named plain k n = k
key_named public k n = k
key_named private k n = k

named_key : (κ : Kind) (n : ℕ) → is_key (atom κ n) → Key κ
named_key plain n k = k
named_key public n k = k
named_key private n k = k

abbrev KindPair : ℕ → ℕ → Type 0
KindPair k j = (κ : Kind) × Key κ × (k ≡ kind_of (atomic κ)) × (j ≡ kind_of (atomic (other_kind κ)))

says_kinds : (k j : ℕ) → Says (inverse_kinds k j) (KindPair k j)
says_kinds k j = (
  λ e. ⊎_elim (λ (a, b). (public, tt, a, b)) (λ (a, b). (private, tt, a, b))
      ((says_or _ _ (says_and _ _ (says_eqb k 2) (says_eqb j 3)) (says_and _ _ (says_eqb k 3) (says_eqb j 2))).0 e),
  λ (κ, y, a, b). back κ y a b,
)
  where
    back : (κ : Kind) → Key κ → k ≡ kind_of (atomic κ) → j ≡ kind_of (atomic (other_kind κ)) → inverse_kinds k j ≡ true
    back plain y a b = absurd y
    back public y a b = rw (a, b)
    back private y a b = rw (a, b)

record_at_lem : (s : List ℕ) (i : ℕ) (z : Shape) → shape_of (kind_at s i) ≡ some z → record_at s i ≡ record_of (some z) (name_at s i) (x_at s i) (y_at s i)
unfolding record_at
record_at_lem s i z e = ap (λ o. record_of o (name_at s i) (x_at s i) (y_at s i)) e

below_shaped : (s : List ℕ) (i : ℕ) (z : Shape) → Shaped s i z → Below i (record_of (some z) (name_at s i) (x_at s i) (y_at s i))
below_shaped s i (atomic κ) f = tt
below_shaped s i (compound f) g = (g.0, second_below s i (second f) g.0 g.1)

module _ (s : List ℕ) (bytes : Bytes s) (all : (i : ℕ) → i < terms s → Good s i) where
  earlier_at : (i : ℕ) → i < terms s → Below i (record_at s i)
  earlier_at i l = let g = all i l in subst (Below i) (sym (record_at_lem s i g.shape g.has)) (below_shaped s i g.shape g.fits)

  distinct_at : (i j : ℕ) → i < terms s → j < terms s → record_at s i ≡ record_at s j → i ≡ j
  distinct_at i j l m e =
      let g = all i l in
      let h = all j m in
      let (p, x, y) = same_record_lem s i j g.shape h.shape g.fits h.fits (name_bytes (bytes _) (bytes _) (bytes _) (bytes _))
      (sym (record_at_lem s i g.shape g.has) ∙ e ∙ record_at_lem s j h.shape h.has) in
      let k : kind_at s i ≡ kind_at s j = shape_kind _ _ g.has ∙ ap kind_of p ∙ sym (shape_kind _ _ h.has) in
      ⊎_elim (λ a. absurd (h.new i a k x y)) (λ a. ⊎_elim (λ b. absurd (g.new j b (sym k) (sym x) (sym y))) (λ b. omega arith) (lt_or_ge j i)) (lt_or_ge i j)

  table_at : Table (record_at s) (terms s) (term s)
  unfolding term
  table_at = record { reads = decoded_reads (record_at s) (terms s) earlier_at; earlier = earlier_at; distinct = distinct_at }

-- ---- a record's term, by its kind
module _ (s : List ℕ) (bytes : Bytes s) (all : (i : ℕ) → i < terms s → Good s i) (t : Table (record_at s) (terms s) (term s)) where
  pub term_at_lem : (i : ℕ) (z : Shape) → i < terms s → shape_of (kind_at s i) ≡ some z → term s i ≡ message (term s) (record_of (some z) (name_at s i) (x_at s i) (y_at s i))
  term_at_lem i z l e = t.reads i l ∙ ap (message (term s)) (record_at_lem s i z e)

  term_of_kind : (i : ℕ) (z : Shape) → i < terms s → kind_at s i ≡ kind_of z → term s i ≡ message (term s) (record_of (some z) (name_at s i) (x_at s i) (y_at s i))
  term_of_kind i z l e = term_at_lem i z l (ap shape_of e ∙ kind_shape z)

  -- the kind and the name of an atom
  atom_of : (i : ℕ) (κ : Kind) (n : ℕ) → i < terms s → term s i ≡ atom κ n → (kind_at s i ≡ kind_of (atomic κ)) × (name_at s i ≡ n)
  atom_of i κ n l e = go (all i l).shape (all i l).has
    where
      go : (z : Shape) → shape_of (kind_at s i) ≡ some z → (kind_at s i ≡ kind_of (atomic κ)) × (name_at s i ≡ n)
      go (atomic κ') h =
          let u = sym (term_at_lem i (atomic κ') l h) ∙ e in
          let p : κ' ≡ κ = cc in
          (shape_kind _ _ h ∙ ap (λ k. kind_of (atomic k)) p, cc)
      go (compound h') h = let u = sym (term_at_lem i (compound h') l h) ∙ e in absurd (let o : ◌≡◌ {A = ℕ} 0 1 = cc in omega arith)

  -- a term is of the shape of its record
  pub shape_of_lem : (i : ℕ) → i < terms s → shape (term s i) ≡ shape_of (kind_at s i)
  shape_of_lem i l = go (all i l).shape (all i l).has
    where
      go : (z : Shape) → shape_of (kind_at s i) ≡ some z → shape (term s i) ≡ shape_of (kind_at s i)
      go (atomic κ) h = ap shape (term_at_lem i (atomic κ) l h) ∙ sym h
      go (compound f) h = ap shape (term_at_lem i (compound f) l h) ∙ sym h

  operands : (i : ℕ) (o : Second) → i < terms s → HasSecond s i o → Operands o (term s (x_at s i)) (term s (cond (unary o) (x_at s i) (y_at s i)))
  operands i absent l f = refl
  operands i anything l f = tt
  operands i (key_for c) l f = ap (is_key_for c) (shape_of_lem (y_at s i) (let g = f.0 in omega arith)) ∙ f.1

  messages_below : (k i : ℕ) → i < k → i < terms s → Message (term s i)
  messages_below zero i b l = absurd (omega arith)
  messages_below (suc k) i b l = go (all i l).shape (all i l).has (all i l).fits (messages_below k)
    where
      go : (z : Shape) → shape_of (kind_at s i) ≡ some z → Shaped s i z → ((j : ℕ) → j < k → j < terms s → Message (term s j)) → Message (term s i)
      go (atomic κ) h f ih = subst Message (sym (term_at_lem i (atomic κ) l h)) tt
      go (compound o) h f ih =
          let c = second_below s i (second o) f.0 f.1 in
          subst Message (sym (term_at_lem i (compound o) l h))
          (operands i (second o) l f.1, ih (x_at s i) (omega arith) (omega arith), ih (second_part s i o) (omega arith) (omega arith))

  -- keys of one name, one the other's inverse
  kinds_inverse : (i j : ℕ) (κ : Kind) → i < terms s → j < terms s → Key κ → kind_at s i ≡ kind_of (atomic κ) → kind_at s j ≡ kind_of (atomic (other_kind κ)) →
      name_at s i ≡ name_at s j → Match asymmetric (term s i) (term s j)
  kinds_inverse i j κ l m k e f n =
      let p = term_of_kind i (atomic κ) l e in
      let q = term_of_kind j (atomic (other_kind κ)) m f in
      (subst is_key (sym p) (key_named κ k (name_at s i)), q ∙ ap (atom (other_kind κ)) (sym n) ∙ sym (ap inverse p))

  inverse_kinds_lem : (i j : ℕ) → i < terms s → j < terms s → Match asymmetric (term s i) (term s j) →
      KindPair (kind_at s i) (kind_at s j) × (name_at s i ≡ name_at s j)
  inverse_kinds_lem i j l m u = go (all i l).shape (all i l).has
    where
      go : (z : Shape) → shape_of (kind_at s i) ≡ some z → KindPair (kind_at s i) (kind_at s j) × (name_at s i ≡ name_at s j)
      go (atomic κ) h =
          let p = term_at_lem i (atomic κ) l h in
          let (f, n) = atom_of j (other_kind κ) (name_at s i) m (u.1 ∙ ap inverse p) in
          ((κ, named_key κ (name_at s i) (subst is_key p u.0), shape_kind _ _ h, f), sym n)
      go (compound o) h = absurd (subst is_key (term_at_lem i (compound o) l h) u.0)

  says_inverse : (i j : ℕ) → i < terms s → j < terms s → Says (are_inverse s i j) (Match asymmetric (term s i) (term s j))
  unfolding are_inverse
  says_inverse i j l m =
      let w : Says (are_inverse s i j) (KindPair (kind_at s i) (kind_at s j) × ((x_at s i ≡ x_at s j) × (y_at s i ≡ y_at s j))) = says_and _ _ (says_kinds _ _) (says_and _ _ (says_eqb _ _) (says_eqb _ _)) in (
        λ e. let (u, v) = w.0 e in kinds_inverse i j u.0 l m u.1 u.2 u.3 (ap₂ (λ x y. x * 256 + y) v.0 v.1),
        λ h. let (u, n) = inverse_kinds_lem i j l m h in w.1 (u, name_bytes (bytes _) (bytes _) (bytes _) (bytes _) n),
      )

-- ---- checks 1 to 4
pub record Listed (s : List ℕ) : Type 0 where
  pub bytes : Bytes s
  pub terms_least : 1 ≤ terms s
  pub terms_most : terms s ≤ 250
  pub entries_most : entries s ≤ 64
  pub steps_most : steps s ≤ 128
  pub good : (i : ℕ) → i < terms s → Good s i
  pub table : Table (record_at s) (terms s) (term s)
  pub messages : (i : ℕ) → i < terms s → Message (term s i)
  pub inverse_iff : (i j : ℕ) → i < terms s → j < terms s → (are_inverse s i j ≡ true) ↔ Match asymmetric (term s i) (term s j)
  pub same_number : (i j : ℕ) → i < terms s → j < terms s → term s i ≡ term s j → i ≡ j
  pub entry_below : (i : ℕ) → i < entries s → entry_at s i < terms s

-- any counts that pass check 2 are within their limits
pub within_limits : (n : ℕ → ℕ) (i : ℕ) → bad_count n i ≡ false → (least i ≤ n i) × (n i ≤ most i)
within_limits n i e = let u = (or-false _ _).0 e in (ltb-false (n i) (least i) u.0, ltb-false (most i) (n i) u.1)

-- what checks 2 to 4 say of every entry, record and term number, where they pass
pub pass_2_to_4 : (s : List ℕ) → checks1to4 s ≡ passes →
    ((i : ℕ) → i < 4 → bad_count (count s) i ≡ false) × ((i : ℕ) → i < terms s → bad_term s i ≡ false) × ((i : ℕ) → i < entries s → bad_knowledge s i ≡ false)
unfolding checks1to4
pass_2_to_4 s e =
    let (e1, r) = (then_passes (fails_if (bad_contents s) 1 0) _).0 e in
    let (e2, r) = (then_passes (fails_at 2 (first (bad_count (count s)) 4)) _).0 r in
    let (e3, e4) = (then_passes (fails_at 3 (first (bad_term s) (terms s))) (fails_at 4 (first (bad_knowledge s) (entries s)))).0 r in
    ((none_fails _ _).0 ((at_passes 2 _).0 e2), (none_fails _ _).0 ((at_passes 3 _).0 e3), (none_fails _ _).0 ((at_passes 4 _).0 e4))

pub listed : (s : List ℕ) → Bytes s → checks1to4 s ≡ passes → Listed s
unfolding bad_knowledge
listed s b e =
    let (counts, records, bad-entry) = pass_2_to_4 s e in
    let all : (i : ℕ) → i < terms s → Good s i = λ i l. good s i (records i l) in
    let t = table_at s b all in
    record {
      bytes = b;
      terms_least = (within_limits (count s) 0 (counts 0 (omega arith))).0;
      terms_most = (within_limits (count s) 0 (counts 0 (omega arith))).1;
      entries_most = (within_limits (count s) 1 (counts 1 (omega arith))).1;
      steps_most = (within_limits (count s) 2 (counts 2 (omega arith))).1;
      good = all;
      table = t;
      messages = λ i l. messages_below s b all t (suc i) i (omega arith) l;
      inverse_iff = says_inverse s b all t;
      same_number = decode_inj t;
      entry_below = λ i l. (says_ltb _ _).0 ((not_not_false _).0 ((or-false _ _).0 (bad-entry i l)).0);
    }

pub facts : {s : List ℕ} → TableRead s → Listed s
facts {s} r = listed s r.bytes r.passed

-- a listed compound term, by its record's kind
pub compound_term : {s : List ℕ} → Listed s → (i : ℕ) (f : Form) → i < terms s → kind_at s i ≡ kind_of (compound f) →
    (x_at s i < terms s) × (second_part s i f < terms s) × (term s i ≡ node (make f) (term s (x_at s i)) (term s (second_part s i f)))
compound_term {s} z i f l e =
    let u : Below i (branch (make f) (x_at s i) (second_part s i f)) = subst (Below i) (record_at_lem s i (compound f) (ap shape_of e ∙ kind_shape (compound f))) (z.table.earlier i l) in
    (omega arith, omega arith, term_of_kind s z.bytes z.good z.table i (compound f) l e)

-- and by its form
pub form_of : {s : List ℕ} → Listed s → (i : ℕ) (f : Form) (a b : Term) → i < terms s → term s i ≡ node (make f) a b →
    (kind_at s i ≡ kind_of (compound f)) × HasSecond s i (second f)
form_of {s} z i f a b l e = go (z.good i l).shape (z.good i l).has (z.good i l).fits
  where
    go : (o : Shape) → shape_of (kind_at s i) ≡ some o → Shaped s i o → (kind_at s i ≡ kind_of (compound f)) × HasSecond s i (second f)
    go (atomic κ) h g = let u = sym (term_at_lem s z.bytes z.good z.table i (atomic κ) l h) ∙ e in absurd (let o : ◌≡◌ {A = ℕ} 0 1 = cc in omega arith)
    go (compound o) h g =
        let u = sym (term_at_lem s z.bytes z.good z.table i (compound o) l h) ∙ e in
        let p : o ≡ f = cc in
        (shape_kind _ _ h ∙ ap (λ k. kind_of (compound k)) p, subst (λ k. HasSecond s i (second k)) p g.1)

-- ---- check 5
-- a way has one letter
pub way_letter : (l : ℕ) (w : Way) → way_of l ≡ some w → l ≡ (row w).letter
unfolding way_of
way_letter l w e = go (eqb l 0x61) (eqb l 0x62) (eqb l 0x63) (eqb l 0x6B) (eqb l 0x6A) (says_eqb l 0x61).0 (says_eqb l 0x62).0 (says_eqb l 0x63).0 (says_eqb l 0x6B).0 (says_eqb l 0x6A).0 e
  where
    go : (a b c d f : Bool) → (a ≡ true → l ≡ 0x61) → (b ≡ true → l ≡ 0x62) → (c ≡ true → l ≡ 0x63) → (d ≡ true → l ≡ 0x6B) → (f ≡ true → l ≡ 0x6A) →
        cond a (some another_step) (cond b (some at_start) (cond c (some inverse_key) (cond d (some guess_derived) (cond f (some inverse_derived) none)))) ≡ some w → l ≡ (row w).letter
    go true b c d f x y z u v e = let q : another_step ≡ w = cc in x refl ∙ ap (λ w. (row w).letter) q
    go false true c d f x y z u v e = let q : at_start ≡ w = cc in y refl ∙ ap (λ w. (row w).letter) q
    go false false true d f x y z u v e = let q : inverse_key ≡ w = cc in z refl ∙ ap (λ w. (row w).letter) q
    go false false false true f x y z u v e = let q : guess_derived ≡ w = cc in u refl ∙ ap (λ w. (row w).letter) q
    go false false false false true x y z u v e = let q : inverse_derived ≡ w = cc in v refl ∙ ap (λ w. (row w).letter) q
    go false false false false false x y z u v e = absurd (let o : ◌≡◌ {A = ℕ} 0 1 = cc in omega arith)

says_in_range : (s : List ℕ) (r : Range) (n : ℕ) → Says (in_range s r n) (InRange s r n)
says_in_range s step_number n = says_ltb n (steps s)
says_in_range s term_number n = says_ltb n (terms s)
says_in_range s zero_only n = says_eqb n 0
says_in_range s step_or_knowledge n = says_or _ _ (says_ltb n (steps s)) (says_eqb n knowledge_step)

says_guess_fits : (s : List ℕ) (k : Claims) → Says (guess_fits s k) (GuessFits s k)
says_guess_fits s verifier = (λ e. tt, λ e. refl)
says_guess_fits s (derived the_guess) = (λ e. tt, λ e. refl)
says_guess_fits s (derived its_inverse) = says_true _

pub record Claimed (s : List ℕ) : Type 0 where
  pub read : Listed s
  pub guess_below : guess s < terms s
  pub guess_kind : Kind
  pub guess_shape : shape_of (kind_at s (guess s)) ≡ some (atomic guess_kind)
  pub guess_term : term s (guess s) ≡ atom guess_kind (name_at s (guess s))
  pub way : Way
  pub has_way : way_of (way_at s) ≡ some way
  pub guess_fits_lem : GuessFits s (row way).claims
  pub step_range : InRange s (row way).step (verifying s)
  pub in_range_lem : InRange s (row way).companion (companion s)

says_atomic : (o : Option Shape) → Says (is_atomic o) ((κ : Kind) × (o ≡ some (atomic κ)))
says_atomic none = (λ e. absurd (false≢true e), λ (κ, e). absurd (let z : ◌≡◌ {A = ℕ} 0 1 = cc in omega arith))
says_atomic (some (atomic κ)) = (λ e. (κ, refl), λ e. refl)
says_atomic (some (compound h)) = (λ e. absurd (false≢true e), λ (κ, e). absurd (let z : ◌≡◌ {A = ℕ} 0 1 = cc in omega arith))

says_ranges : (s : List ℕ) (o : Option Way) →
    Says (claim_fits s o) ((w : Way) × (o ≡ some w) × FitsWay s w)
says_ranges s none = (λ e. absurd (false≢true e), λ (w, e, r). absurd (let z : ◌≡◌ {A = ℕ} 0 1 = cc in omega arith))
says_ranges s (some w) =
    let u = says_and _ _ (says_guess_fits s (row w).claims) (says_and _ _ (says_in_range s (row w).step _) (says_in_range s (row w).companion _)) in
    (λ e. (w, refl, u.0 e), λ (x, e, r). u.1 (let p : x ≡ w = cc in subst (FitsWay s) p r))

-- row 5
pub says_claim : (s : List ℕ) → Says (good_claim s) (ClaimFits s)
unfolding good_claim
says_claim s =
    says_and _ _ (says_ltb (guess s) (terms s)) (says_and _ _ (says_atomic (shape_of (kind_at s (guess s)))) (says_ranges s (way_of (way_at s))))

pub claimed : (s : List ℕ) → Bytes s → checks1to5 s ≡ passes → Claimed s
unfolding checks1to5
claimed s b e =
    let (r, e5) = (then_passes (checks1to4 s) (fails_if (not (good_claim s)) 5 0)).0 e in
    let z = listed s b r in
    let (g, ((κ, k), (w, f, (h, (v, i))))) = (says_claim s).0 ((not_not_false _).0 ((if_passes _ 5 0).0 e5)) in
    record {
      read = z;
      guess_below = g;
      guess_kind = κ;
      guess_shape = k;
      guess_term = term_at_lem s z.bytes z.good z.table (guess s) (atomic κ) g k;
      way = w;
      has_way = f;
      guess_fits_lem = h;
      step_range = v;
      in_range_lem = i;
    }

pub claim_facts : {s : List ℕ} → SubmissionRead s → Claimed s
claim_facts {s} r = claimed s r.bytes r.passed

-- ---- what is claimed
-- a verifying step is one of the derivation
step_below : (s : List ℕ) (w : Way) (n : ℕ) → (row w).claims ≡ verifier → InRange s (row w).step n → n < steps s
step_below s another_step n e l = l
step_below s at_start n e l = l
step_below s inverse_key n e l = l
step_below s guess_derived n e l = absurd (let z : ◌≡◌ {A = ℕ} 0 1 = cc in omega arith)
step_below s inverse_derived n e l = absurd (let z : ◌≡◌ {A = ℕ} 0 1 = cc in omega arith)

-- a step that gives the term claimed is one of the derivation, or 255
named_below : (s : List ℕ) (w : Way) (n : ℕ) (t : Target) → (row w).claims ≡ derived t → InRange s (row w).step n → (n < steps s) ⊎ (n ≡ knowledge_step)
named_below s another_step n t e l = inl l
named_below s at_start n t e l = inl l
named_below s inverse_key n t e l = inl l
named_below s guess_derived n t e l = l
named_below s inverse_derived n t e l = l

module _ {s : List ℕ} (c : Claimed s) where
  pub claims_way : claims s ≡ (row c.way).claims
  claims_way = ap claims_in c.has_way

  pub verifying_below : claims s ≡ verifier → verifying s < steps s
  verifying_below e = step_below s c.way _ (sym claims_way ∙ e) c.step_range

  pub given_range : (t : Target) → claims s ≡ derived t → (verifying s < steps s) ⊎ (verifying s ≡ knowledge_step)
  given_range t e = named_below s c.way _ t (sym claims_way ∙ e) c.step_range

  pub claimed_fits : (k : Claims) → claims s ≡ k → GuessFits s k
  claimed_fits k e = subst (GuessFits s) (sym claims_way ∙ e) c.guess_fits_lem

  -- way j: the guess is a key
  pub guess_key : GuessFits s (derived its_inverse) → is_key (term s (guess s))
  guess_key g = subst is_key (sym c.guess_term) (key_of c.guess_kind (sym (ap (is_key_for asymmetric) c.guess_shape) ∙ g))
    where
      key_of : (κ : Kind) → is_key_for asymmetric (some (atomic κ)) ≡ true → is_key (atom κ (name_at s (guess s)))
      key_of plain e = absurd (false≢true e)
      key_of public e = tt
      key_of private e = tt
