-- The step by which a term comes from a record: that it is one of the table, and its premises what the term comes from.
use mathlib.Core.Path.{◌≡◌, refl, sym, ap, ◌∙◌}
use mathlib.Core.Logic.{◌⊎◌, ⊎_elim}
use mathlib.Core.Bool.{Bool, true, false, cond}
use mathlib.Core.List.{List}
use mathlib.Core.Option.{some}
use Prim.Native.Nat.{ℕ, ◌<◌}
use native.Mathlib.Omega.{arith}
use Rattle.std.specs.Option.{option_map}
use lib.Dec.{eqb}
use borrow.Author.Tests.{eq-eqb, ne_eqb, eqb-true, eqb-false}
use Rattle.term.specs.Term.{symmetric, asymmetric, left, right, pair, hash, encryption, unary, Second, absent, anything, key_for, second, make, part, Shape, atomic, compound}
use Rattle.term.specs.{Number.shape_of, Number.rules, Number.head_of, Number.has_one, Code.rule_of, Code.builder_of}
use Rattle.term.proofs.{Rule.head_rule, Rule.rule_below, KindLaws.shape_kind}
use Rattle.std.specs.Prelude.{Option as Maybe, Some, None, unwrap_or, is_some}
use Rattle.std.specs.Option.{option_eq}
use Rattle.term.specs.Computed.{kind_of}
use Rattle.term.specs.Code.{kind_is, shape_read}
use Rattle.term.specs.declared.kind.Kind.{Kind}
use Rattle.term.specs.declared.kind.Kind.TheVariants.{Plain, Public, Private, Pair, Enc, Enca, Hash}
use Rattle.term.specs.contracts.kind.KindPartialEq.TheImpl as same
use Rattle.term.proofs.KindLaws.{kind_number, kind_not}
use Rattle.submission.specs.Check.{HasSecond, Shaped}
use Rattle.submission.specs.Code.{TableRead}
use Rattle.submission.specs.{Record.terms, Record.kind_at, Record.x_at, Record.y_at, Record.record_at, Record.second_for, Computed.are_inverse}
use Rattle.submission.proofs.Theory.ListedTerms.{facts}
use Rattle.inverse.specs.Code.{found_inverse}
use Rattle.derivation.specs.Step.{RecordFits}
use Rattle.derivation.specs.declared.Step.{Step}
use Rattle.derivation.proofs.Theory.StepMeaning.{record_fits}
use Rattle.deduction.specs.declared.opening.Opening.{Opening}
use Rattle.deduction.specs.declared.opening.Opening.TheVariants.{Freely, With}
use Rattle.deduction.specs.Code.{parts_of, opening_in, opening_of}
use Rattle.deduction.specs.Saturation.{ComesFrom, from_parts, from_pair, from_key}
use Rattle.deduction.proofs.{BuildMemo.shape_record, OpeningKeys.the_inverse, RecordOpening.with_listed, Working.by_inverse}
use Rattle.witness.specs.Code.{StepFrom, built_step, part_step, with_step, step_from}

-- ---- a kind that is read
-- whether the kind that is read is that of the symmetric cipher
pub is_enc : (k : ℕ) (m : Maybe Kind) → shape_read m ≡ shape_of k → option_eq same.eq-value.it m (Some Enc) ≡ eqb k 5
is_enc k m e = go m refl
  where
    at : (b : Kind) → same.eq-value.it b Enc ≡ eqb (kind_of (kind_is b)) 5
    at Plain = refl
    at Public = refl
    at Private = refl
    at Pair = refl
    at Enc = refl
    at Enca = refl
    at Hash = refl

    go : (n : Maybe Kind) → m ≡ n → option_eq same.eq-value.it n (Some Enc) ≡ eqb k 5
    go None f = sym (ne_eqb _ _ (kind_not Enc e (λ g. let z : None ≡ Some Enc = sym f ∙ g in absurd (cc))))
    go (Some b) f = rw (kind_number e f) (at b)

-- ---- the step is one of the table, and its premises are what the term comes from
pub record Infers (s : List ℕ) (Had : ℕ → Type 0) (n : ℕ) (a : Step) : Type 0 where
  pub fits : RecordFits s a.rule a.p a.q n
  pub first : Had a.p
  pub second : Had (second_for a.rule a.p a.q)
  pub concludes : a.conclusion ≡ n

module _ {s : List ℕ} (v : TableRead s) {Had : ℕ → Type 0} {u n : ℕ} (l : u < terms s) (k : n < terms s) where
  -- built of its parts
  infers_built : {x y : ℕ} → parts_of (record_at s n) ≡ Some (x, y) → Had x → Had y → Infers s Had n (built_step s n)
  unfolding second_for has_one
  infers_built {x} {y} p a b = go ((facts v).good n k).shape ((facts v).good n k).has ((facts v).good n k).fits
    where
      below : (o : Second) → HasSecond s n o → y_at s n < terms s
      below absent h = rw h (facts v).terms_least
      below anything h = omega arith
      below (key_for c) (h, _) = omega arith

      go : (z : Shape) → shape_of (kind_at s n) ≡ some z → Shaped s n z → Infers s Had n (built_step s n)
      go (atomic κ) e w = absurd (let z : ◌≡◌ {A = Maybe (ℕ × ℕ)} None (Some (x, y)) = sym (ap parts_of (shape_record s n (atomic κ) e)) ∙ p in let d : ◌≡◌ {A = ℕ} 0 1 = cc in omega arith)
      go (compound f) e (lx, h) =
          let q : ◌≡◌ {A = Maybe (ℕ × ℕ)} (Some (x_at s n, cond (unary (second f)) (x_at s n) (y_at s n))) (Some (x, y)) = sym (ap parts_of (shape_record s n (compound f) e)) ∙ p in
          let w : ◌≡◌ {A = ℕ × ℕ} (x_at s n, cond (unary (second f)) (x_at s n) (y_at s n)) (x, y) = cc in
          let ex : x_at s n ≡ x = ap (λ (a, b). a) w in
          let ey : cond (unary (second f)) (x_at s n) (y_at s n) ≡ y = ap (λ (a, b). b) w in
          let r : unwrap_or (builder_of (shape_of (kind_at s n))) rules ≡ rule_of (make f) = ap (λ o. unwrap_or (builder_of o) rules) e in
          let head : head_of (unwrap_or (builder_of (shape_of (kind_at s n))) rules) ≡ make f = ap head_of r ∙ head_rule (make f) in
          record {
            fits = record_fits (facts v) _ _ _ _ (rw r (rule_below (make f))) (omega arith) (below (second f) h) k (rw head (shape_kind _ _ e, (refl, refl)));
            first = rw ex a;
            second = rw (head, ey) b;
            concludes = refl;
          }

  -- taken from a pair
  infers_part : {x y : ℕ} → opening_of s u ≡ Some (Freely x y) → (n ≡ x) ⊎ (n ≡ y) → Had u → (n < u) × Infers s Had n (part_step u x n)
  unfolding second_for has_one head_of
  infers_part {x} {y} o i a = go ((facts v).good u l).shape ((facts v).good u l).has ((facts v).good u l).fits
    where
      clash : {z : Maybe Opening} → opening_of s u ≡ z → z ≡ Some (Freely x y)
      clash e = sym e ∙ o

      go : (z : Shape) → shape_of (kind_at s u) ≡ some z → Shaped s u z → (n < u) × Infers s Had n (part_step u x n)
      go (atomic κ) e w = absurd (let z : None ≡ Some (Freely x y) = clash (ap (opening_in s) (shape_record s u (atomic κ) e)) in let d : ◌≡◌ {A = ℕ} 0 1 = cc in omega arith)
      go (compound hash) e w = absurd (let z : None ≡ Some (Freely x y) = clash (ap (opening_in s) (shape_record s u (compound hash) e)) in let d : ◌≡◌ {A = ℕ} 0 1 = cc in omega arith)
      go (compound (encryption symmetric)) e w =
          absurd (let z : Some (With (x_at s u) (y_at s u)) ≡ Some (Freely x y) = clash (ap (opening_in s) (shape_record s u (compound (encryption symmetric)) e)) in let d : ◌≡◌ {A = ℕ} 0 1 = cc in omega arith)
      go (compound (encryption asymmetric)) e w =
          absurd (no_pair (found_inverse s (y_at s u)) (clash (ap (opening_in s) (shape_record s u (compound (encryption asymmetric)) e))))
        where
          no_pair : (o : Maybe ℕ) → option_map (With (x_at s u)) o ≡ Some (Freely x y) → ⊥
          no_pair None z = let d : ◌≡◌ {A = ℕ} 0 1 = cc in omega arith
          no_pair (Some j) z = let d : ◌≡◌ {A = ℕ} 0 1 = cc in omega arith
      go (compound pair) e (lx, h) = (low, by (eqb x n) refl)
        where
          parts : Some (Freely (x_at s u) (y_at s u)) ≡ Some (Freely x y)
          parts = clash (ap (opening_in s) (shape_record s u (compound pair) e))

          ex : x_at s u ≡ x
          ex = let z = parts in cc

          ey : y_at s u ≡ y
          ey = let z = parts in cc

          low : n < u
          low = ⊎_elim (λ c. omega (arith, lx, ex, c)) (λ c. omega (arith, h, ey, c)) i

          by : (b : Bool) → eqb x n ≡ b → Infers s Had n (record { rule = cond b (rule_of (part left)) (rule_of (part right)); p = u; q = 0; conclusion = n })
          by true f = record {
            fits = record_fits (facts v) 1 u 0 n (omega arith) l (facts v).terms_least k (shape_kind _ _ e, (ex ∙ eqb-true x n f, refl));
            first = a;
            second = a;
            concludes = refl;
          }
          by false f = record {
            fits = record_fits (facts v) 2 u 0 n (omega arith) l (facts v).terms_least k (shape_kind _ _ e, (⊎_elim (λ c. absurd (eqb-false x n f (sym c))) (λ c. ey ∙ sym c) i, refl));
            first = a;
            second = a;
            concludes = refl;
          }

  -- taken from an encryption
  infers_opened : {key : ℕ} → opening_of s u ≡ Some (With n key) → Had u → Had key → (n < u) × Infers s Had n (with_step s u key n)
  unfolding second_for has_one head_of
  infers_opened {key} o a b = go ((facts v).good u l).shape ((facts v).good u l).has ((facts v).good u l).fits
    where
      key_below : key < terms s
      key_below = (with_listed v l o).1

      clash : {z : Maybe Opening} → opening_of s u ≡ z → z ≡ Some (With n key)
      clash e = sym e ∙ o

      go : (z : Shape) → shape_of (kind_at s u) ≡ some z → Shaped s u z → (n < u) × Infers s Had n (with_step s u key n)
      go (atomic κ) e w = absurd (let z : None ≡ Some (With n key) = clash (ap (opening_in s) (shape_record s u (atomic κ) e)) in let d : ◌≡◌ {A = ℕ} 0 1 = cc in omega arith)
      go (compound hash) e w = absurd (let z : None ≡ Some (With n key) = clash (ap (opening_in s) (shape_record s u (compound hash) e)) in let d : ◌≡◌ {A = ℕ} 0 1 = cc in omega arith)
      go (compound pair) e w =
          absurd (let z : Some (Freely (x_at s u) (y_at s u)) ≡ Some (With n key) = clash (ap (opening_in s) (shape_record s u (compound pair) e)) in let d : ◌≡◌ {A = ℕ} 0 1 = cc in omega arith)
      go (compound (encryption symmetric)) e (lx, (ly, _)) =
          let z : Some (With (x_at s u) (y_at s u)) ≡ Some (With n key) = clash (ap (opening_in s) (shape_record s u (compound (encryption symmetric)) e)) in
          let ex : x_at s u ≡ n = cc in
          let ey : y_at s u ≡ key = cc in
          let kind = shape_kind _ _ e in
          let five : eqb (kind_at s u) 5 ≡ true = eq-eqb _ 5 kind in (
            omega arith,
            rw five (record {
              fits = record_fits (facts v) 4 u key n (omega arith) l key_below k (kind, (ex, eq-eqb _ _ ey));
              first = a;
              second = b;
              concludes = refl;
            }),
          )
      go (compound (encryption asymmetric)) e (lx, (ly, _)) =
          let (d, ex) = by_inverse (found_inverse s (y_at s u)) (x_at s u) (clash (ap (opening_in s) (shape_record s u (compound (encryption asymmetric)) e))) in
          let kind = shape_kind _ _ e in
          let other : eqb (kind_at s u) 5 ≡ false = ne_eqb (kind_at s u) 5 (λ z. let six : kind_at s u ≡ 6 = kind in omega arith) in
          let inverse : are_inverse s (y_at s u) key ≡ true = (the_inverse v {y = y_at s u} (omega arith) d).1 in (
            omega arith,
            rw other (record {
              fits = record_fits (facts v) 6 u key n (omega arith) l key_below k (kind, (ex, inverse));
              first = a;
              second = b;
              concludes = refl;
            }),
          )

  pub infers : ComesFrom s Had u n → Infers s Had n (step_from s u n)
  unfolding step_from
  infers (from_parts x y e p a b) = rw (eq-eqb u n e) (infers_built p a b)
  infers (from_pair x y a o i) = let (d, w) = infers_part o i a in rw (ne_eqb u n (λ e. omega arith), o) w
  infers (from_key key a o b) = let (d, w) = infers_opened o a b in rw (ne_eqb u n (λ e. omega arith), o) w

-- a term that comes from its own record is built
pub built_compound : {s : List ℕ} {u n : ℕ} → TableRead s → StepFrom s u n → u ≡ n → is_some (builder_of (shape_of (kind_at s n))) ≡ true
built_compound {s} {u} {n} v c e = go c.comes
  where
    by : (z : Shape) → shape_of (kind_at s n) ≡ some z → {x y : ℕ} → parts_of (record_at s n) ≡ Some (x, y) → is_some (builder_of (shape_of (kind_at s n))) ≡ true
    by (atomic κ) f {x} {y} p = absurd (let z : ◌≡◌ {A = Maybe (ℕ × ℕ)} None (Some (x, y)) = sym (ap parts_of (shape_record s n (atomic κ) f)) ∙ p in let d : ◌≡◌ {A = ℕ} 0 1 = cc in omega arith)
    by (compound k) f p = rw f

    go : ComesFrom s (λ x. x < terms s) u n → is_some (builder_of (shape_of (kind_at s n))) ≡ true
    go (from_parts x y _ p _ _) = by ((facts v).good n c.below).shape ((facts v).good n c.below).has p
    go (from_pair x y a o i) = absurd (let (d, _) = infers_part v {Had = λ x. x < terms s} c.from c.below o i a in omega arith)
    go (from_key key a o b) = absurd (let (d, _) = infers_opened v {Had = λ x. x < terms s} c.from c.below o a b in omega arith)
