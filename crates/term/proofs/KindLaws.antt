-- The kinds' shapes, one for one, and each column as the code computes it.
use mathlib.Core.Path.{◌≡◌, refl, sym, ap, ◌∙◌}
use mathlib.Core.Bool.{Bool, true, false, ◌&&◌, ◌||◌, cond, true≢false}
use mathlib.Core.List.{[], ◌∷◌}
use mathlib.Core.Option.{Option, none, some}
use Prim.Native.Nat.{ℕ, zero, suc, ◌≤◌}
use native.Mathlib.Omega.{arith}
use lib.Dec.{eqb}
use lib.ListN.{length}
use borrow.Author.Tests.{ne_eqb}
use Rattle.base.specs.Words.{grow, listed}
use Rattle.base.proofs.Says.{Says, says_eqb}
use Rattle.term.specs.{Term.plain, Term.public, Term.private, Term.Cipher, Term.symmetric, Term.asymmetric, Term.Form, Term.pair, Term.hash, Term.encryption, Term.Second, Term.absent, Term.anything, Term.key_for, Term.make, Computed.takes, Term.Shape, Term.atomic, Term.compound, Computed.shape?, Computed.is_atomic, Term.is_key_for, Number.kinds, Number.shape_of, Computed.kind_of, Computed.inverse_kinds}
use Rattle.std.specs.Prelude.{Option as Maybe, Some, None, MatchOption}
use Rattle.std.specs.Option.{option_eq, option_zip}
use Rattle.term.specs.declared.kind.Kind.{Kind}
use Rattle.term.specs.declared.kind.Kind.TheVariants.{Plain, Public, Private, Pair, Enc, Enca, Hash}
use Rattle.term.specs.Code.{kind_is, shape_read, are_inverse_kinds, builder_of, second_of, rule_of}
use Rattle.term.specs.Number.{head_of}
use Rattle.term.proofs.Numbered.{Arms, choice, all_below, choice_is, entry_past, entry_place}
use Rattle.term.proofs.Rule.{head_rule}

-- every shape is in the table
pub kind_shape : (z : Shape) → shape_of (kind_of z) ≡ some z
unfolding shape_of
kind_shape (atomic plain) = refl
kind_shape (atomic public) = refl
kind_shape (atomic private) = refl
kind_shape (compound pair) = refl
kind_shape (compound (encryption symmetric)) = refl
kind_shape (compound (encryption asymmetric)) = refl
kind_shape (compound hash) = refl

-- and none stands twice
pub shape_kind : (k : ℕ) (z : Shape) → shape_of k ≡ some z → k ≡ kind_of z
unfolding shape_of grow
shape_kind zero z e = absurd (let o : ◌≡◌ {A = ℕ} 0 1 = cc in omega arith)
shape_kind (suc n) z e = ap suc (entry_place shape? kinds refl n z e)

-- a form's rule builds its kind, and no other
pub says_builder : (k : ℕ) (f : Form) → Says (option_eq eqb (builder_of (shape_of k)) (Some (rule_of (make f)))) (k ≡ kind_of (compound f))
says_builder k f = (
  λ e. go (shape_of k) refl e,
  λ e. rw (e, kind_shape (compound f)) ((says_eqb _ _).1 refl),
)
  where
    go : (o : Option Shape) → shape_of k ≡ o → option_eq eqb (builder_of o) (Some (rule_of (make f))) ≡ true → k ≡ kind_of (compound f)
    go none h e = absurd (true≢false (sym e))
    go (some (atomic κ)) h e = absurd (true≢false (sym e))
    go (some (compound g)) h e =
        let q : make g ≡ make f = sym (head_rule (make g)) ∙ ap head_of ((says_eqb _ _).0 e) ∙ head_rule (make f) in
        let w : g ≡ f = cc in
        shape_kind k (compound g) h ∙ ap (λ x. kind_of (compound x)) w

-- a shape is that of one kind
abbrev kind_with : Shape → Kind
kind_with (atomic plain) = Plain
kind_with (atomic public) = Public
kind_with (atomic private) = Private
kind_with (compound pair) = Pair
kind_with (compound (encryption symmetric)) = Enc
kind_with (compound (encryption asymmetric)) = Enca
kind_with (compound hash) = Hash

kind_back : (a : Kind) → kind_with (kind_is a) ≡ a
kind_back Plain = refl
kind_back Public = refl
kind_back Private = refl
kind_back Pair = refl
kind_back Enc = refl
kind_back Enca = refl
kind_back Hash = refl

kind_once : (a b : Kind) → kind_is a ≡ kind_is b → a ≡ b
kind_once a b e = sym (kind_back a) ∙ ap kind_with e ∙ kind_back b

-- ---- the columns as the code has them: r is what the code answers
shape_past : (n : ℕ) → suc (length kinds) ≤ n → shape_of n ≡ none
unfolding shape_of
shape_past zero b = refl
shape_past (suc n) b = entry_past kinds n (omega arith)

-- a number that is no kind's
pub no_shape : (n : ℕ) → (n ≡ 1 → ⊥) → (n ≡ 2 → ⊥) → (n ≡ 3 → ⊥) → (n ≡ 4 → ⊥) → (n ≡ 5 → ⊥) → (n ≡ 6 → ⊥) → (n ≡ 7 → ⊥) → shape_of n ≡ none
unfolding shape_of
no_shape zero a b c d e f g = refl
no_shape (suc zero) a b c d e f g = absurd (a refl)
no_shape (suc (suc zero)) a b c d e f g = absurd (b refl)
no_shape (suc (suc (suc zero))) a b c d e f g = absurd (c refl)
no_shape (suc (suc (suc (suc zero)))) a b c d e f g = absurd (d refl)
no_shape (suc (suc (suc (suc (suc zero))))) a b c d e f g = absurd (e refl)
no_shape (suc (suc (suc (suc (suc (suc zero)))))) a b c d e f g = absurd (f refl)
no_shape (suc (suc (suc (suc (suc (suc (suc zero))))))) a b c d e f g = absurd (g refl)
no_shape (suc (suc (suc (suc (suc (suc (suc (suc n)))))))) a b c d e f g = refl

kind_column : {A : Type 0} (c : Option Shape → A) (l : Arms A) → listed (choice l (c none)) (suc (length kinds)) ≡ listed (λ n. c (shape_of n)) (suc (length kinds)) →
    all_below l (suc (length kinds)) ≡ true → (n : ℕ) → choice l (c none) n ≡ c (shape_of n)
kind_column c l e f n = choice_is l (c none) (λ n. c (shape_of n)) (suc (length kinds)) e f (λ n b. ap c (shape_past n b)) n

-- the kinds whose terms may be keys
abbrev keys : Cipher → Arms Bool
keys symmetric = (1, true) ∷ (7, true) ∷ []
keys asymmetric = (2, true) ∷ (3, true) ∷ []

pub key : (c : Cipher) (n : ℕ) {r : Bool} → r ≡ choice (keys c) false n → r ≡ is_key_for c (shape_of n)
unfolding shape_of grow
key symmetric n e = e ∙ kind_column (is_key_for symmetric) (keys symmetric) refl refl n
key asymmetric n e = e ∙ kind_column (is_key_for asymmetric) (keys asymmetric) refl refl n

pub atom : (n : ℕ) {r : Bool} → r ≡ choice ((1, true) ∷ []) (is_key_for asymmetric (shape_of n)) n → r ≡ is_atomic (shape_of n)
unfolding shape_of grow
atom n e = e ∙ rw (← (key asymmetric n refl)) (kind_column is_atomic ((1, true) ∷ (2, true) ∷ (3, true) ∷ []) refl refl n)

-- the rule that builds the kind n
abbrev builders : Arms (Maybe ℕ)
builders = (4, Some 0) ∷ (5, Some 3) ∷ (6, Some 5) ∷ (7, Some 7) ∷ []

pub builder : (n : ℕ) {r : Maybe ℕ} → r ≡ choice builders None n → r ≡ builder_of (shape_of n)
unfolding shape_of grow
builder n e = e ∙ kind_column builder_of builders refl refl n

-- the second operand o of the kind n
abbrev seconds : Arms Second
seconds = (4, anything) ∷ (5, key_for symmetric) ∷ (6, key_for asymmetric) ∷ []

pub second_operand : (n j : ℕ) {r : Bool} (o : Second) → r ≡ takes o (shape_of j) → o ≡ choice seconds absent n → r ≡ takes (second_of (shape_of n)) (shape_of j)
unfolding shape_of grow
second_operand n j o f e = f ∙ ap (λ o. takes o (shape_of j)) (e ∙ kind_column second_of seconds refl refl n)

-- what is no key has no inverse
pub no_inverse : (k j : ℕ) → is_key_for asymmetric (shape_of k) ≡ false → inverse_kinds k j ≡ false
no_inverse k j e = go (eqb k 2) (eqb k 3) (key asymmetric k refl ∙ e)
  where
    go : (a b : Bool) → cond a true (cond b true false) ≡ false → ((a && eqb j 3) || (b && eqb j 2)) ≡ false
    go true b f = absurd (true≢false f)
    go false true f = absurd (true≢false f)
    go false false f = refl

-- ---- kinds that are read
-- the kind that the number k is read as
pub kind_number : {k : ℕ} {m : Maybe Kind} {a : Kind} → shape_read m ≡ shape_of k → m ≡ Some a → k ≡ kind_of (kind_is a)
kind_number {k} {a = a} e f = shape_kind k (kind_is a) (sym e ∙ ap shape_read f)

-- and it is read as no other
pub kind_not : {k : ℕ} {m : Maybe Kind} (a : Kind) → shape_read m ≡ shape_of k → (m ≡ Some a → ⊥) → k ≡ kind_of (kind_is a) → ⊥
kind_not {k} {m} a e d f = go m refl
  where
    q : shape_read m ≡ some (kind_is a)
    q = e ∙ ap shape_of f ∙ kind_shape (kind_is a)

    go : (n : Maybe Kind) → m ≡ n → ⊥
    go None g = let z : none ≡ some (kind_is a) = sym (ap shape_read g) ∙ q in absurd (let o : ◌≡◌ {A = ℕ} 0 1 = cc in omega arith)
    go (Some b) g = let z : some (kind_is b) ≡ some (kind_is a) = sym (ap shape_read g) ∙ q in let y : kind_is b ≡ kind_is a = cc in d (g ∙ ap Some (kind_once b a y))

-- whether two kinds are read, each other's inverse
abbrev are_inverse_read : Maybe Kind → Maybe Kind → Bool
are_inverse_read None n = false
are_inverse_read (Some a) None = false
are_inverse_read (Some a) (Some b) = are_inverse_kinds a b

inverse_read : (k j : ℕ) (m n : Maybe Kind) → shape_read m ≡ shape_of k → shape_read n ≡ shape_of j → are_inverse_read m n ≡ inverse_kinds k j
inverse_read k j None n e g = sym (no_inverse k j (ap (is_key_for asymmetric) (sym e)))
inverse_read k j (Some a) n e g = rw (kind_number e refl) (go a n g)
  where
    none_at : (z : Shape) → none ≡ shape_of j → eqb j (kind_of z) ≡ false
    none_at z h = ne_eqb _ _ (λ x. let y : none ≡ some z = h ∙ ap shape_of x ∙ kind_shape z in absurd (let o : ◌≡◌ {A = ℕ} 0 1 = cc in omega arith))

    at : (b : Kind) → shape_read (Some b) ≡ shape_of j → j ≡ kind_of (kind_is b)
    at b h = kind_number h refl

    go : (a : Kind) (n : Maybe Kind) → shape_read n ≡ shape_of j → are_inverse_read (Some a) n ≡ inverse_kinds (kind_of (kind_is a)) j
    go Plain None h = refl
    go Plain (Some b) h = refl
    go Pair None h = refl
    go Pair (Some b) h = refl
    go Enc None h = refl
    go Enc (Some b) h = refl
    go Enca None h = refl
    go Enca (Some b) h = refl
    go Hash None h = refl
    go Hash (Some b) h = refl
    go Public None h = rw (none_at (atomic private) h)
    go Public (Some Plain) h = rw (at Plain h)
    go Public (Some Public) h = rw (at Public h)
    go Public (Some Private) h = rw (at Private h)
    go Public (Some Pair) h = rw (at Pair h)
    go Public (Some Enc) h = rw (at Enc h)
    go Public (Some Enca) h = rw (at Enca h)
    go Public (Some Hash) h = rw (at Hash h)
    go Private None h = rw (none_at (atomic public) h)
    go Private (Some Plain) h = rw (at Plain h)
    go Private (Some Public) h = rw (at Public h)
    go Private (Some Private) h = rw (at Private h)
    go Private (Some Pair) h = rw (at Pair h)
    go Private (Some Enc) h = rw (at Enc h)
    go Private (Some Enca) h = rw (at Enca h)
    go Private (Some Hash) h = rw (at Hash h)

-- the test of two kinds that are read, r where both are
pub inverse_zipped : (k j : ℕ) (m n : Maybe Kind) {r : Bool} {Gave : Kind × Kind → Type 0} → shape_read m ≡ shape_of k → shape_read n ≡ shape_of j →
    MatchOption (option_zip m n) (r ≡ false) Gave → ((x : Kind × Kind) → Gave x → r ≡ are_inverse_kinds x.0 x.1) → r ≡ inverse_kinds k j
inverse_zipped k j None n e g h f = h ∙ inverse_read k j None n e g
inverse_zipped k j (Some a) None e g h f = h ∙ inverse_read k j (Some a) None e g
inverse_zipped k j (Some a) (Some b) e g h f = f (a, b) h ∙ inverse_read k j (Some a) (Some b) e g
